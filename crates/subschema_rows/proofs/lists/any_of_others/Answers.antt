use Rattle.std.proofs.Common.{◌≡◌, ◌++◌, not, map, sym, ap, ◌∙◌}
use Rattle.schema_tree.specs.Document.{view}
use Rattle.convert_defs.specs.Row.{noted, plainly, option_row, as_it_is_row, here, widened, null_note, overlap_note}
use Rattle.convert_defs.specs.IntegerRow.{note_if}
use Rattle.row_findings.specs.View.{note_view}
use Rattle.member_rows.specs.Members.{member_view}
use Rattle.convert_defs.specs.Table.{any_of_others}
use Rattle.subschema_rows.proofs.lists.any_of_others.Goals as goal

pub returns-in_ok-notes-in-Some : goal.returns-in_ok-notes-in-Some
returns-in_ok-notes-in-Some c =
    let d = view c.args.document.now in
    let ms = map member_view c.args.members.now in
    let odd = c.in_ok-notes-in-Some.ensures ∙ (λ i. map note_view (c.new.ensures.items i) ++ note_if (c.has_odd_null.ensures i) (here widened null_note)) in
    λ r name. c.noted.ensures r ∙ (λ i. noted (odd i) (option_row (c.child_part.ensures i))) ∙ ap (any_of_others d name ms) c.in-Some.ensures

pub returns-in_ok-finding-in-None : goal.returns-in_ok-finding-in-None
returns-in_ok-finding-in-None c =
    λ r name. c.in_ok-finding-in-None.ensures r name ∙ ap (any_of_others (view c.args.document.now) name (map member_view c.args.members.now)) c.in-None.ensures
