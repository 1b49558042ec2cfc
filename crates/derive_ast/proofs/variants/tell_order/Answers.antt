use Rattle.std.proofs.Common.{◌+◌, ◌++◌, ◌&&◌, map, drop, ap, sym, ◌∙◌}
use Rattle.std.specs.Prelude.{nat_lt}
use Rattle.attr_parts.specs.Diagnostics.{untagged_order}
use Rattle.container_defs.specs.Checks.{told_if}
use Rattle.derive_ast.specs.Tagged.{tagged_number, order_of}
use Rattle.derive_ast.specs.Views.{variant_view}
use Rattle.derive_ast.proofs.Loops.{always_err, told_on, front_stays, same_left, mapped_drop}
use Rattle.derive_ast.proofs.Tagged.{first_order, behind_first}
use Rattle.derive_ast.proofs.variants.tell_order.Goals as goal

pub returns-in_err-tell_untagged-clause-err : goal.returns-in_err-tell_untagged-clause-err
returns-in_err-tell_untagged-clause-err c = always_err _ _ (front_stays _ _ _ _ _ c.loop-variant.invariant.told c.in_err-tell_untagged.ensures.err)

pub loop-variant-preserved : goal.loop-variant-preserved
loop-variant-preserved c =
    let l = c.loop-variant in
    let x = variant_view c.variant-item.result in
    let rest = map variant_view (drop (l.variant-index + 1) c.args.variants.now) in
    let next = mapped_drop variant_view c.args.variants.now l.variant-index c.variant-item.result c.loop-variant-test.true c.variant-item.is in
    let number = l.invariant.number ∙ ap tagged_number next in
    let first =
    ap order_of next
    ∙ first_order x rest
    ∙ ap (λ n. told_if (x.attrs.untagged && nat_lt 0 n) untagged_order x.name.span ++ order_of rest) (sym number) in
    record {
      number = c.behind-number.ensures ∙ behind_first x rest l.number number;
      told = told_on _ _ _ _ _ _ (same_left _ _ _ _ _ l.invariant.told first) c.in_ok-tell_untagged.ensures.ok;
    }
