use Rattle.std.proofs.Common.{map, ap, ◌∙◌}
use Rattle.syntax_trees.specs.Item.{variant_view, attribute_view}
use Rattle.attr_defs.specs.Acts.{values_of, added}
use Rattle.attr_defs.specs.Members.{variant_acts}
use Rattle.attr_defs.specs.Owners.{of_variant}
use Rattle.attr_defs.specs.Rows.{all_acts}
use Rattle.attr_defs.specs.Texts.{lexed}
use Rattle.derive_attr.specs.MemberViews.{names_of}
use Rattle.derive_attr.proofs.Variants.{same_attrs}
use Rattle.derive_attr.proofs.variant.Variant.from_ast.Goals as goal

pub returns-clause-attrs : goal.returns-clause-attrs
returns-clause-attrs c =
    let d = variant_view c.args.variant.now in
    let s = c.in_ok-settings.settings in
    same_attrs d (variant_acts lexed d) s _
    (c.in_ok-name.ensures ∙ ap (names_of s) c.in_ok-own.ensures)
    (c.in_ok-settings.ensures.values ∙ ap (λ xs. values_of (all_acts lexed (of_variant d) (map attribute_view xs))) c.deref.ensures.value)
    (c.in_ok-settings.ensures.names ∙ ap (λ xs. added (all_acts lexed (of_variant d) (map attribute_view xs))) c.deref.ensures.value)
