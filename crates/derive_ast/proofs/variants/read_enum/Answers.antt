use Rattle.std.proofs.Common.{map, ap, ◌∙◌}
use Rattle.token_trees.specs.View.{name_view}
use Rattle.syntax_trees.specs.Item.{variant_view as variant_tree}
use Rattle.attr_defs.specs.Texts.{lexed}
use Rattle.derive_attr.specs.ContainerView.{container_view as attrs_view}
use Rattle.derive_ast.specs.Tagged.{order_of}
use Rattle.derive_ast.specs.Views.{variant_view}
use Rattle.derive_ast.proofs.Loops.{always_err}
use Rattle.derive_ast.proofs.Made.{told_both, front_both}
use Rattle.derive_ast.proofs.Tagged.{read_order}
use Rattle.derive_ast.proofs.variants.read_enum.Goals as goal

pub returns-in_err-tell_order-clause-err : goal.returns-in_err-tell_order-clause-err
returns-in_err-tell_order-clause-err g c =
    let a = attrs_view c.args.container.now in
    let order = ap (λ vs. order_of (map variant_view vs)) c.deref.ensures.value ∙ ap order_of c.in_ok-read.ensures.variants ∙ read_order lexed g.R.Renamer.variant_name g.R.Renamer.field_name a (name_view c.args.private.now) a.default (map variant_tree c.args.variants.now) in
    always_err _ _ (front_both _ _ _ _ _ _ c.in_ok-read.ensures.told c.in_err-tell_order.ensures.err order)

pub returns-clause-told : goal.returns-clause-told
returns-clause-told g c =
    let a = attrs_view c.args.container.now in
    let order = ap (λ vs. order_of (map variant_view vs)) c.deref.ensures.value ∙ ap order_of c.in_ok-read.ensures.variants ∙ read_order lexed g.R.Renamer.variant_name g.R.Renamer.field_name a (name_view c.args.private.now) a.default (map variant_tree c.args.variants.now) in
    told_both _ _ _ _ _ _ c.in_ok-read.ensures.told c.in_ok-tell_order.ensures.ok order
