-- Containers, as contracts see them.
use Rattle.std.specs.Prelude.{map}
use Rattle.token_trees.specs.View.{name_view}
use Rattle.syntax_trees.specs.View.{ty, member_view}
use Rattle.syntax_trees.specs.Item.{field_view as field_tree, variant_view as variant_tree, param_view, predicate_view, item_view}
use Rattle.derive_attr.specs.ContainerView.{container_view as attrs_view}
use Rattle.derive_attr.specs.MemberViews.{variant_view as variant_attrs_view}
use Rattle.derive_attr.specs.FieldView.{field_view as field_attrs_view}
use Rattle.container_defs.specs.Container.{ReadField, ReadVariant, ReadData, read_enum, read_struct, ReadContainer}
use Rattle.derive_ast.specs.declared.container.Field.{Field}
use Rattle.derive_ast.specs.declared.container.Variant.{Variant}
use Rattle.derive_ast.specs.declared.container.Data.{Data}
use Rattle.derive_ast.specs.declared.container.Data.TheVariants.{Enum, Struct}
use Rattle.derive_ast.specs.declared.container.Container.{Container}

abbrev pub field_view : Field → ReadField
field_view f = record { member = member_view f.member; attrs = field_attrs_view f.attrs; ty = ty f.ty.now; original = field_tree f.original.now }

abbrev pub variant_view : Variant → ReadVariant
variant_view v = record {
  name = name_view v.ident;
  attrs = variant_attrs_view v.attrs;
  style = v.style;
  fields = map field_view v.fields.items;
  original = variant_tree v.original.now;
}

abbrev pub data_view : Data → ReadData
data_view (Enum vs) = read_enum (map variant_view vs.items)
data_view (Struct s fs) = read_struct s (map field_view fs.items)

abbrev pub container_view : Container → ReadContainer
container_view c = record {
  name = name_view c.ident;
  attrs = attrs_view c.attrs;
  body = data_view c.body;
  params = map param_view c.generics.now.params.items;
  predicates = map predicate_view c.generics.now.where_clause.items;
  original = item_view c.original.now;
}
