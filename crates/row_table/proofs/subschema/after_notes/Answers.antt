use Rattle.std.proofs.Common.{◌≡◌, ◌++◌, map, ap, ◌∙◌}
use Rattle.std.proofs.lemmas.List.{map-append}
use Rattle.row_findings.specs.View.{note_view, finding_view}
use Rattle.row_table.proofs.Found.{after_others}
use Rattle.row_table.proofs.subschema.after_notes.Goals as goal

pub returns : goal.returns
returns c =
    let own = c.args.finding.notes.items in
    let all = c.in_ok-extend_from_slice.ensures.items ∙ ap (λ xs. c.args.notes.items ++ xs) c.as_slice.ensures.value in
    λ r.
    after_others (finding_view r c.args.finding) (map note_view c.args.notes.items) (map note_view c.extend_from_slice.new.self.items)
    (ap (map note_view) all ∙ map-append note_view c.args.notes.items own)
