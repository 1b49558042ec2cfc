use Rattle.std.proofs.Common.{◌≡◌, ◌++◌, ◌&&◌, map, sym, ap, ◌∙◌, append-nil}
use Rattle.model_defs.specs.Model.{internal_tag}
use Rattle.convert_defs.specs.Row.{noted, branching, enum_row, by_shape, here, narrowed, mixed_branches_note}
use Rattle.convert_defs.specs.IntegerRow.{note_if}
use Rattle.row_findings.specs.View.{note_view}
use Rattle.member_rows.specs.Members.{member_view}
use Rattle.one_of_rows.specs.Tagged.{closed_shapes, open_shapes}
use Rattle.one_of_rows.proofs.one_of.internal_enum.Goals as goal

pub returns : goal.returns
returns c =
    let ms = map member_view c.args.members.now in
    let mixed =
    c.in_ok-notes.ensures
    ∙ (λ i. map note_view (c.new.ensures.items i) ++ note_if (c.is_mixed.ensures i) (here narrowed mixed_branches_note))
    ∙ sym (append-nil (note_if (closed_shapes ms && open_shapes ms) (here narrowed mixed_branches_note))) in
    λ r.
    c.in_ok-branched.ensures r
    ∙ ap (branching ms) (c.noted-finding.ensures r ∙ (λ i. noted (mixed i) (enum_row (internal_tag c.args.tag.now) (by_shape (c.some_closed.ensures i)) (c.in_ok-variants.ensures i))))
