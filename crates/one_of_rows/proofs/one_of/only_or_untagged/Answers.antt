use Rattle.std.proofs.Common.{◌≡◌, ◌++◌, not, map, sym, ap, ◌∙◌}
use Rattle.schema_tree.specs.Document.{view}
use Rattle.convert_defs.specs.Row.{noted, plainly, option_row, as_it_is_row, here, widened, null_note, overlap_note}
use Rattle.convert_defs.specs.IntegerRow.{note_if}
use Rattle.row_findings.specs.View.{note_view}
use Rattle.member_rows.specs.Members.{member_view}
use Rattle.convert_defs.specs.Table.{one_of_only}
use Rattle.one_of_rows.proofs.one_of.only_or_untagged.Goals as goal

pub returns-in-Some : goal.returns-in-Some
returns-in-Some c =
    λ r.
    c.plainly.ensures r
    ∙ ap (λ p. plainly (as_it_is_row p)) c.lone_part.ensures
    ∙ ap (one_of_only (view c.args.document.now) (map member_view c.args.members.now)) c.in-Some.ensures

pub returns-in_ok-row-in-None : goal.returns-in_ok-row-in-None
returns-in_ok-row-in-None c =
    let d = view c.args.document.now in
    let ms = map member_view c.args.members.now in
    let notes = c.in_ok-notes-in-None.ensures ∙ (λ i. map note_view (c.new.ensures.items i) ++ note_if (not (c.is_exclusive.ensures i)) (here widened overlap_note)) in
    λ r. c.noted.ensures r ∙ (λ i. noted (notes i) (c.in_ok-row-in-None.ensures r i)) ∙ ap (one_of_only d ms) c.in-None.ensures
