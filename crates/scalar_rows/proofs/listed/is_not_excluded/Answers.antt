use Rattle.std.proofs.Common.{◌≡◌, [], ◌∷◌, sym, ap, ◌∙◌}
use Rattle.std.specs.Prelude.{option_map, if◌then◌else◌}
use Rattle.json_value.specs.Value.{text}
use Rattle.schema_defs.specs.Layer.{is_listed}
use Rattle.convert_defs.specs.Table.{constant_list}
use Rattle.row_findings.specs.Given.{given_values_view}
use Rattle.scalar_rows.proofs.listed.is_not_excluded.Goals as goal

pub returns-in-Some : goal.returns-in-Some
returns-in-Some c =
    ap (λ o. constant_list c.args.text.now (option_map given_values_view o)) c.in-Some.is
    ∙ ap (λ b. if b then text c.args.text.now ∷ [] else []) (sym (c.lists_value.ensures ∙ ap (λ v. is_listed v (given_values_view c.in-Some.values)) c.requires))
