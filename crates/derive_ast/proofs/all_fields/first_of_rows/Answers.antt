use Rattle.std.proofs.Common.{◌≤◌, length, vec_len, ap, sym, subst, ◌∙◌}
use Rattle.derive_ast.specs.declared.container.Variant.{Variant}
use Rattle.derive_ast.proofs.Rows.{row_passed}
use Rattle.derive_ast.proofs.all_fields.first_of_rows.Goals as goal

pub loop-at-preserved : goal.loop-at-preserved
loop-at-preserved c =
    let l = c.loop-at in
    let v = c.index-variants-at.result in
    let number = c.len.ensures ∙ ap (λ (w : Variant). vec_len w.fields) (sym c.index-variants-at.is) ∙ v.fields.ok.0 in
    let long : length v.fields.items ≤ l.start = subst (λ k. k ≤ l.start) number c.if-start-len.false in
    l.invariant ∙ row_passed c.args.variants.now l.at v l.start c.loop-at-test.true c.index-variants-at.is long
