use Rattle.std.proofs.Common.{◌≡◌, Bool, true, false, if◌then◌else◌, List, Some, option_map, map, refl, sym, ap, ◌∙◌}
use Rattle.json_value.specs.Value.{Value}
use Rattle.json_value.specs.View.{kept_view}
use Rattle.convert_defs.specs.Scalars.{non_null}
use Rattle.row_findings.specs.Given.{given_values_view}
use Rattle.row_findings.proofs.LessNulls.{non_null-again}
use Rattle.type_rows.proofs.null.less_nulls.Goals as goal

-- values that are taken less nulls already stay as they are
less : (b : Bool) (vs : List Value) → non_null vs ≡ non_null (if b then non_null vs else vs)
less true vs = sym (non_null-again vs)
less false vs = refl

pub returns-in-Some : goal.returns-in-Some
returns-in-Some c =
    let values = c.in-Some.values in
    ap Some (less values.less_nulls (map kept_view values.listed.now.items)) ∙ ap (λ o. option_map non_null (option_map given_values_view o)) (sym c.in-Some.is)
