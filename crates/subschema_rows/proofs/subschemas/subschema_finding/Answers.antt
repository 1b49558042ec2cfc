use Rattle.std.proofs.Common.{◌≡◌, option_map, sym, ap, ◌∙◌}
use Rattle.schema_tree.specs.Document.{view}
use Rattle.schema_types.specs.View.{subschemas_view, same_of}
use Rattle.convert_defs.specs.Scalars.{wanted_of}
use Rattle.convert_defs.specs.Table.{subschema_finding}
use Rattle.row_findings.specs.Given.{plain_view}
use Rattle.subschema_rows.proofs.Alone.{keyword_seen, conditional_seen}
use Rattle.subschema_rows.proofs.subschemas.subschema_finding.Goals as goal

pub returns-then-is_conditional : goal.returns-then-is_conditional
returns-then-is_conditional c =
    let d = view c.args.document.now in
    let name = wanted_of (plain_view c.args.keywords.now) in
    λ r.
    sym (conditional_seen d name (subschemas_view c.in-Some.subschemas.now) (sym c.is_conditional.ensures ∙ c.if-is_conditional.true))
    ∙ ap (λ o. subschema_finding d name (same_of (option_map (λ s. subschemas_view s.now) o))) (sym c.in-Some.is)

pub returns-in_ok-found-in-Some : goal.returns-in_ok-found-in-Some
returns-in_ok-found-in-Some c =
    let d = view c.args.document.now in
    let name = wanted_of (plain_view c.args.keywords.now) in
    λ r.
    c.in_ok-found-in-Some.ensures r
    ∙ sym (keyword_seen d name (subschemas_view c.in-Some.subschemas.now) (sym c.is_conditional.ensures ∙ c.if-is_conditional.false))
    ∙ ap (λ o. subschema_finding d name (same_of (option_map (λ s. subschemas_view s.now) o))) (sym c.in-Some.is)
