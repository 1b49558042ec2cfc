use Rattle.std.proofs.Common.{map, ap}
use Rattle.token_trees.specs.View.{name_view}
use Rattle.syntax_trees.specs.Item.{variant_view as variant_tree}
use Rattle.attr_defs.specs.Texts.{lexed}
use Rattle.derive_attr.specs.ContainerView.{container_view as attrs_view}
use Rattle.container_defs.specs.Model.{variant_told}
use Rattle.container_defs.specs.Reading.{variant_of, name_variant}
use Rattle.derive_ast.specs.Views.{variant_view}
use Rattle.derive_ast.proofs.Loops.{always_err, told_on, front_on, front_told, same_left, next_left, mapped_drop}
use Rattle.derive_ast.proofs.ReadOn.{read_on}
use Rattle.derive_ast.proofs.variants.read_variants.Goals as goal

pub returns-in_err-read_variant-clause-err : goal.returns-in_err-read_variant-clause-err
returns-in_err-read_variant-clause-err g c =
    let l = c.loop-variant in
    let next = next_left variant_tree (variant_told lexed) c.args.variants.now l.variant-index c.variant-item.result c.loop-variant-test.true c.variant-item.is in
    always_err _ _ (front_on _ _ _ _ _ _ (same_left _ _ _ _ _ l.invariant.told next) c.in_err-read_variant.ensures.err)

pub returns-in_err-push-clause-err : goal.returns-in_err-push-clause-err
returns-in_err-push-clause-err g c =
    let l = c.loop-variant in
    let next = next_left variant_tree (variant_told lexed) c.args.variants.now l.variant-index c.variant-item.result c.loop-variant-test.true c.variant-item.is in
    always_err _ _ (front_told _ _ _ _ _ _ (same_left _ _ _ _ _ l.invariant.told next) c.in_ok-read_variant.ensures.told)

pub loop-variant-preserved : goal.loop-variant-preserved
loop-variant-preserved g c =
    let l = c.loop-variant in
    let x = c.variant-item.result in
    let variants = c.args.variants.now in
    let container = attrs_view c.args.container.now in
    let read = variant_of lexed (name_view c.args.private.now) container.default in
    let told = next_left variant_tree (variant_told lexed) variants l.variant-index x c.loop-variant-test.true c.variant-item.is in
    let next = ap (map read) (mapped_drop variant_tree variants l.variant-index x c.loop-variant-test.true c.variant-item.is) in
    record {
      model = read_on variant_view (name_variant g.R.Renamer.variant_name g.R.Renamer.field_name container) l.read.items _ c.in_ok-read_variant.field-0 _ _ _ _ l.invariant.model next c.in_ok-push.ensures.items c.in_ok-read_variant.ensures.variant;
      told = told_on _ _ _ _ _ _ (same_left _ _ _ _ _ l.invariant.told told) c.in_ok-read_variant.ensures.told;
    }
