-- Nulls are left out of listed values: the first that is neither a text nor null is the same.
use Rattle.std.proofs.Common.{◌≡◌, List, [], ◌∷◌, Bool, true, false, refl, map, if◌then◌else◌}
use Rattle.json_value.specs.Value.{Value, null, boolean, number, text, list, object, fraction}
use Rattle.json_value.specs.View.{kept_view}
use Rattle.convert_defs.specs.Scalars.{non_null}
use Rattle.row_findings.specs.Given.{given_values_view}
use Rattle.row_findings.specs.declared.given.GivenValues.{GivenValues}
use Rattle.convert_trees.specs.Told.{first_odd}

without_null : (vs : List Value) → first_odd (non_null vs) ≡ first_odd vs
without_null [] = refl
without_null (null ∷ vs) = without_null vs
without_null (boolean b ∷ vs) = refl
without_null (number z ∷ vs) = refl
without_null (text s ∷ vs) = without_null vs
without_null (list xs ∷ vs) = refl
without_null (object ms ∷ vs) = refl
without_null (fraction ∷ vs) = refl

abbrev given : Bool → List Value → List Value
given b vs = if b then non_null vs else vs

given_or_not : (b : Bool) (vs : List Value) → first_odd (given b vs) ≡ first_odd vs
given_or_not true vs = without_null vs
given_or_not false vs = refl

pub odd_given : (v : GivenValues) → first_odd (given_values_view v) ≡ first_odd (map kept_view v.listed.now.items)
odd_given v = given_or_not v.less_nulls (map kept_view v.listed.now.items)
