use Rattle.std.proofs.Common.{◌≡◌, ◌++◌, map, drop}
use Rattle.token_trees.specs.View.{name_view}
use Rattle.syntax_trees.specs.Item.{field_view as field_tree}
use Rattle.attr_parts.specs.Diagnostics.{diagnostics}
use Rattle.attr_parts.specs.Values.{default_view}
use Rattle.attr_defs.specs.Texts.{lexed}
use Rattle.derive_attr.specs.FieldView.{handed_view}
use Rattle.container_defs.specs.Model.{fields_told_from}
use Rattle.container_defs.specs.Reading.{fields_from, name_field}
use Rattle.derive_ast.specs.Views.{field_view}
use Rattle.derive_ast.proofs.Loops.{IsTold}
use Rattle.derive_ast.proofs.fields.read_fields.Given as goal

abbrev pub invariant-loop-index : goal.invariant-loop-index
invariant-loop-index g l = record {
  model : map field_view l.read.items ++ map (name_field g.R.Renamer.variant_name g.R.Renamer.field_name l.rules) (fields_from lexed (name_view l.private) (default_view l.container_default) (handed_view l.attrs) l.index (map field_tree (drop l.index l.fields))) ≡ map (name_field g.R.Renamer.variant_name g.R.Renamer.field_name l.rules) (fields_from lexed (name_view l.private) (default_view l.container_default) (handed_view l.attrs) 0 (map field_tree l.fields));
  told : IsTold (diagnostics l.initial.cx) (diagnostics l.cx) (fields_told_from lexed (handed_view l.attrs) 0 (map field_tree l.fields)) (fields_told_from lexed (handed_view l.attrs) l.index (map field_tree (drop l.index l.fields)));
}
