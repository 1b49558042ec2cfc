use Rattle.token_trees.specs.View.{name_view}
use Rattle.syntax_trees.specs.Item.{variant_view as variant_tree}
use Rattle.attr_parts.proofs.Steps.{tells_more, tells_all}
use Rattle.attr_defs.specs.Texts.{lexed}
use Rattle.derive_attr.specs.ContainerView.{container_view as attrs_view}
use Rattle.derive_ast.proofs.Loops.{always_err}
use Rattle.derive_ast.proofs.Made.{same_variant, same_told, told_both, front_both}
use Rattle.derive_ast.proofs.variants.read_variant.Goals as goal

pub returns-in_err-attrs-clause-err : goal.returns-in_err-attrs-clause-err
returns-in_err-attrs-clause-err g c = always_err _ _ (tells_more _ _ _ _ c.in_err-attrs.ensures.err)

pub returns-in_err-fields-clause-err : goal.returns-in_err-fields-clause-err
returns-in_err-fields-clause-err g c =
    let same = same_told lexed (name_view c.args.private.now) g.R.Renamer.variant_name g.R.Renamer.field_name (attrs_view c.args.container.now) (variant_tree c.args.variant.now) _ _ c.in_ok-attrs.ensures.attrs c.each_of-each.ensures in
    always_err _ _ (front_both _ _ _ _ _ _ c.in_ok-attrs.ensures.told c.in_err-fields.ensures.err same)

pub returns-in_err-rename_by_rules-clause-err : goal.returns-in_err-rename_by_rules-clause-err
returns-in_err-rename_by_rules-clause-err g c =
    let same = same_told lexed (name_view c.args.private.now) g.R.Renamer.variant_name g.R.Renamer.field_name (attrs_view c.args.container.now) (variant_tree c.args.variant.now) _ _ c.in_ok-attrs.ensures.attrs c.each_of-each.ensures in
    always_err _ _ (tells_all _ _ _ (told_both _ _ _ _ _ _ c.in_ok-attrs.ensures.told c.in_ok-fields.ensures.told same))

pub returns-in_err-ident-clause-err : goal.returns-in_err-ident-clause-err
returns-in_err-ident-clause-err g c =
    let same = same_told lexed (name_view c.args.private.now) g.R.Renamer.variant_name g.R.Renamer.field_name (attrs_view c.args.container.now) (variant_tree c.args.variant.now) _ _ c.in_ok-attrs.ensures.attrs c.each_of-each.ensures in
    always_err _ _ (tells_all _ _ _ (told_both _ _ _ _ _ _ c.in_ok-attrs.ensures.told c.in_ok-fields.ensures.told same))

pub returns-clause-told : goal.returns-clause-told
returns-clause-told g c =
    let same = same_told lexed (name_view c.args.private.now) g.R.Renamer.variant_name g.R.Renamer.field_name (attrs_view c.args.container.now) (variant_tree c.args.variant.now) _ _ c.in_ok-attrs.ensures.attrs c.each_of-each.ensures in
    told_both _ _ _ _ _ _ c.in_ok-attrs.ensures.told c.in_ok-fields.ensures.told same

pub returns-clause-variant : goal.returns-clause-variant
returns-clause-variant g c =
    same_variant lexed (name_view c.args.private.now) g.R.Renamer.variant_name g.R.Renamer.field_name (attrs_view c.args.container.now) (variant_tree c.args.variant.now) _ _ _ _ _ _ _ _ _ _ _
    c.in_ok-ident.ensures c.in_ok-attrs.ensures.attrs c.rename_all_rules-naming.ensures c.in_ok-rename_by_rules.ensures.ok c.style_of-style.ensures c.rename_all_rules-own.ensures c.rename_all_fields_rules-outer.ensures c.or-rules.ensures c.default-default.ensures c.each_of-each.ensures c.in_ok-fields.ensures.fields
