use Rattle.std.proofs.Common.{◌≡◌, false, not, sym, ap, ◌∙◌}
use Rattle.merge_apart.specs.Aside.{names_alone}
use Rattle.schema_types.specs.View.{object_view}
use Rattle.merge_apart.proofs.Forms.{has_patterns, has_more}
use Rattle.merge_apart.proofs.apart.object_names_alone.Goals as goal
use Rattle.merge_apart.proofs.apart.object_names_alone.Goals.{then-is_empty, else-is_empty}

pub returns-else-is_none : goal.returns-else-is_none
returns-else-is_none c =
    let o = c.args.object.now in
    let m = c.in-Some.members in
    let no : false ≡ names_alone (object_view o) = elim c.if-is_empty.branch [
      | then-is_empty w ↦ has_more o m c.in-Some.is (w.is_none.ensures ∙ ap not (sym w.value-is ∙ c.if-is_none.false))
      | else-is_empty w ↦ has_patterns o m c.is_empty.result c.in-Some.is c.is_empty.ensures w.if-is_empty.false
    ] in
    c.if-is_none.false ∙ no
