use Rattle.std.proofs.Common.{◌<◌, ◌≤◌, length, map, ap, sym, ◌∙◌, subst}
use Rattle.derive_ast.specs.Counts.{mark_by}
use Rattle.derive_ast.specs.Views.{field_view}
use Rattle.derive_ast.specs.declared.container.Field.{Field}
use Rattle.derive_ast.proofs.Counted.{marked_at, none_at_list}
use Rattle.derive_ast.proofs.checks.transparent.mark.Goals as goal

pub returns-then-index-len : goal.returns-then-index-len
returns-then-index-len c =
    let fields = c.args.fields.now.items in
    let n = c.in-One.index in
    let x = c.index_mut.result.now in
    let y : Field = record { member = x.member; attrs = c.mark_transparent.new.self; ty = x.ty; original = x.original } in
    let lt : n < length fields = subst (λ k. n < k) (c.len.ensures ∙ c.args.fields.now.ok.0) c.if-index-len.true in
    marked_at field_view fields n x y lt c.index_mut.ensures.value (ap (λ a. record (field_view x) { attrs = a }) c.mark_transparent.ensures)
    ∙ ap (λ k. mark_by k (map field_view fields)) (sym c.in-One.is)

pub returns-else-index-len : goal.returns-else-index-len
returns-else-index-len c =
    let fields = c.args.fields.now.items in
    let n = c.in-One.index in
    let le : length fields ≤ n = subst (λ k. k ≤ n) (c.len.ensures ∙ c.args.fields.now.ok.0) c.if-index-len.false in
    sym (none_at_list field_view n fields le)
    ∙ ap (λ k. mark_by k (map field_view fields)) (sym c.in-One.is)
