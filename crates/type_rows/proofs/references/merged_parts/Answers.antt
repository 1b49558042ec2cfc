use Rattle.std.proofs.Common.{◌≡◌, [], ◌∷◌, ◌++◌, map, ap, ◌∙◌}
use Rattle.std.proofs.lemmas.List.{map-append}
use Rattle.convert_defs.specs.Row.{made}
use Rattle.row_findings.specs.View.{part_view}
use Rattle.type_rows.proofs.references.merged_parts.Goals as goal

pub returns : goal.returns
returns c =
    let rest = c.in_ok-rest.ensures ∙ ap made c.less_reference.ensures.whole in
    ap (map part_view) c.in_ok-push.ensures.items
    ∙ map-append part_view c.in_ok-parts.parts.items (c.in_ok-rest.rest ∷ [])
    ∙ (λ i. c.in_ok-parts.ensures i ++ rest i ∷ [])
