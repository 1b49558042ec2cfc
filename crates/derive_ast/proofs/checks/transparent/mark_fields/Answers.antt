use Rattle.std.proofs.Common.{map, ap, ◌∙◌}
use Rattle.derive_ast.specs.Counts.{count_of, mark_by}
use Rattle.derive_ast.specs.Views.{field_view}
use Rattle.derive_ast.proofs.Counted.{mark_by_count}
use Rattle.derive_ast.proofs.checks.transparent.mark_fields.Goals as goal

pub returns : goal.returns
returns c =
    let fields = map field_view c.args.fields.now.items in
    c.mark.ensures
    ∙ ap (λ k. mark_by k fields) (c.count_fields-count.ensures ∙ ap (λ fs. count_of c.args.derive (map field_view fs)) c.deref.ensures.value)
    ∙ mark_by_count c.args.derive fields
