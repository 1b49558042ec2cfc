use Rattle.token_trees.specs.View.{name_view}
use Rattle.syntax_trees.specs.Item.{field_view as field_tree}
use Rattle.attr_parts.specs.Values.{default_view}
use Rattle.attr_defs.specs.Texts.{lexed}
use Rattle.derive_attr.specs.FieldView.{handed_view}
use Rattle.derive_ast.proofs.Made.{same_field}
use Rattle.derive_ast.proofs.fields.read_field.Goals as goal

pub returns-clause-field : goal.returns-clause-field
returns-clause-field g c =
    same_field lexed (name_view c.args.private.now) (default_view c.args.container_default.now) (handed_view c.args.attrs) c.args.index (field_tree c.args.field.now) g.R.Renamer.variant_name g.R.Renamer.field_name c.args.rules _ _ _ c.in_ok-member_of.ensures c.in_ok-own.ensures.attrs c.in_ok-rename_by_rules.ensures.ok
