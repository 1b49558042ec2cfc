use Rattle.std.proofs.Common.{map, ◌++◌, ap, ◌∙◌}
use Rattle.token_trees.specs.View.{name_view}
use Rattle.syntax_trees.specs.Item.{field_view as item_view}
use Rattle.attr_parts.specs.Names.{attr_name}
use Rattle.attr_parts.specs.Values.{default_view}
use Rattle.attr_defs.specs.Members.{handed_on}
use Rattle.attr_defs.specs.Owners.{of_field}
use Rattle.attr_defs.specs.Rows.{all_acts}
use Rattle.attr_defs.specs.Texts.{lexed}
use Rattle.attr_acts.specs.Kept.{values_in}
use Rattle.attr_acts.specs.Views.{acts_view}
use Rattle.derive_attr.specs.FieldView.{field_view, handed_view}
use Rattle.derive_attr.proofs.Fields.{from_settings}
use Rattle.derive_attr.proofs.field.Field.from_ast.Goals as goal

pub returns-clause-attrs : goal.returns-clause-attrs
returns-clause-attrs c =
    let f = item_view c.args.field.now in
    let own = attr_name c.in_ok-name.name in
    let s = c.in_ok-settings.settings in
    from_settings f c.args.index (handed_view c.args.attrs) (default_view c.args.container_default.now) (name_view c.args.private.now) own (values_in s) (map attr_name s.names.items) (acts_view c.in_ok-acts.acts.items) (field_view c.in_ok-field.field)
    c.in_ok-name.ensures
    (c.in_ok-acts.ensures ∙ ap (λ o. handed_on f own o ++ all_acts lexed (of_field f own) f.attrs) c.handed.ensures)
    c.in_ok-settings.ensures.values
    c.in_ok-settings.ensures.names
    c.in_ok-field.ensures
