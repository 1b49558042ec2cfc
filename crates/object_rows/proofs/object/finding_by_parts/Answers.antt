use Rattle.std.proofs.Common.{◌≡◌, ◌++◌, map, ap, ◌∙◌}
use Rattle.schema_types.specs.View.{members_view}
use Rattle.convert_defs.specs.Row.{here, widened, counts_note}
use Rattle.convert_defs.specs.IntegerRow.{note_if}
use Rattle.row_findings.specs.View.{note_view}
use Rattle.object_rows.specs.Parts.{found_with}
use Rattle.object_rows.proofs.Notes.{notes_before}
use Rattle.object_rows.proofs.object.finding_by_parts.Goals as goal

pub returns : goal.returns
returns c =
    let n = members_view c.args.members.now in
    let before = map note_view c.args.notes.items in
    λ r.
    c.in_ok-finding.ensures r
    ∙ ap (found_with c.args.setting n) (c.in_ok-counted.ensures ∙ ap (λ b. before ++ note_if b (here widened counts_note)) c.is_counted.ensures)
    ∙ notes_before c.args.setting n before
