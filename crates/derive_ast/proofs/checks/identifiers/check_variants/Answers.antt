use Rattle.std.proofs.Common.{◌∙◌, ap, ◌+◌, ◌++◌, map, drop}
use Rattle.derive_attr.specs.ContainerView.{container_view as attrs_view}
use Rattle.container_defs.specs.Checks.{case_told, identifier_told}
use Rattle.derive_ast.specs.Views.{variant_view}
use Rattle.derive_ast.proofs.Loops.{always_err, mapped_drop, told_on, front_stays, same_left}
use Rattle.derive_ast.proofs.Told.{first_identifier, last_by_length}
use Rattle.derive_ast.proofs.checks.identifiers.check_variants.Goals as goal

pub returns-in_err-check_variant-clause-err : goal.returns-in_err-check_variant-clause-err
returns-in_err-check_variant-clause-err c = always_err _ _ (front_stays _ _ _ _ _ c.loop-index.invariant c.in_err-check_variant.ensures.err)

pub loop-index-preserved : goal.loop-index-preserved
loop-index-preserved c =
    let l = c.loop-index in
    let x = c.index-variants-index.result in
    let rest = map variant_view (drop (l.index + 1) c.args.variants.now) in
    let attrs = attrs_view c.args.attrs.now in
    let next =
    ap (identifier_told attrs) (mapped_drop variant_view c.args.variants.now l.index x c.loop-index-test.true c.index-variants-index.is)
    ∙ first_identifier attrs (variant_view x) rest
    ∙ ap (λ b. case_told attrs b (variant_view x) ++ identifier_told attrs rest) (last_by_length variant_view c.args.variants.now l.index c.loop-index-test.true) in
    told_on _ _ _ _ _ _ (same_left _ _ _ _ _ l.invariant next) c.in_ok-check_variant.ensures.ok
