-- Listed values that an entry doesn't take, nulls left out or not.
use Rattle.std.proofs.Common.{◌≡◌, Bool, true, false, ◌&&◌, not, cond, List, [], ◌∷◌, map, refl, sym, ap, ◌∙◌}
use Rattle.std.specs.Prelude.{filter, Option, if◌then◌else◌}
use Rattle.json_value.specs.Value.{Value}
use Rattle.schema_defs.specs.Texts.{Relations}
use Rattle.json_value.specs.View.{kept_view}
use Rattle.model_defs.specs.Layer.{is_null}
use Rattle.entry_defs.specs.Entry.{Entry}
use Rattle.entry_defs.specs.Table.{Table}
use Rattle.entry_defs.specs.Takes.{takes}
use Rattle.convert_defs.specs.Scalars.{non_null}
use Rattle.row_findings.specs.declared.given.GivenValues.{GivenValues}
use Rattle.row_findings.specs.Given.{given_values_view}
use Rattle.listed_reading.specs.Unread.{first_of, unread, standing as standing_listed, standing_unread}

abbrev given : Bool → List Value → List Value
given less vs = if less then non_null vs else vs

-- a test after nulls are left out, or with that
module _ (test : Value → Bool) where
  abbrev standing : Bool → Value → Bool
  standing less v = not (less && is_null v) && test v

  kept-less : (vs : List Value) → filter test (non_null vs) ≡ filter (standing true) vs
  kept-less [] = refl
  kept-less (v ∷ vs) = by (is_null v) (test v) refl (kept-less vs)
    where
      by : (b g : Bool) → test v ≡ g → filter test (non_null vs) ≡ filter (standing true) vs
          → filter test (cond (not b) (v ∷ non_null vs) (non_null vs)) ≡ cond (not b && g) (v ∷ filter (standing true) vs) (filter (standing true) vs)
      by true g q h = h
      by false true q h = ap (λ c. cond c (v ∷ filter test (non_null vs)) (filter test (non_null vs))) q ∙ ap (λ zs. v ∷ zs) h
      by false false q h = ap (λ c. cond c (v ∷ filter test (non_null vs)) (filter test (non_null vs))) q ∙ h

  kept-plain : (vs : List Value) → filter test vs ≡ filter (standing false) vs
  kept-plain [] = refl
  kept-plain (v ∷ vs) = ap (λ zs. cond (test v) (v ∷ zs) zs) (kept-plain vs)

  pub kept-by : (less : Bool) (vs : List Value) → filter test (given less vs) ≡ filter (standing less) vs
  kept-by true vs = kept-less vs
  kept-by false vs = kept-plain vs

module _ (t : Table) (r : Relations) (e : Entry) where
  pub unread_given : (v : GivenValues) (o : Option Value) → first_of (standing_unread t r e v.less_nulls (map kept_view v.listed.now.items)) ≡ o → first_of (unread t r e (given_values_view v)) ≡ o
  unread_given v o h = ap first_of (kept-by (λ x. not (takes t r e x)) v.less_nulls (map kept_view v.listed.now.items)) ∙ h

-- all that stand
pub standing_given : (v : GivenValues) (o : Option Value) → o ≡ first_of (standing_listed v.less_nulls (map kept_view v.listed.now.items)) → o ≡ first_of (given_values_view v)
standing_given v o h = h ∙ sym (ap first_of (by v.less_nulls (map kept_view v.listed.now.items)))
  where
    kept : (vs : List Value) → non_null vs ≡ standing_listed true vs
    kept [] = refl
    kept (x ∷ xs) = ap (λ zs. cond (not (is_null x)) (x ∷ zs) zs) (kept xs)

    all : (vs : List Value) → vs ≡ standing_listed false vs
    all [] = refl
    all (x ∷ xs) = ap (λ zs. x ∷ zs) (all xs)

    by : (less : Bool) (vs : List Value) → given less vs ≡ standing_listed less vs
    by true vs = kept vs
    by false vs = all vs
