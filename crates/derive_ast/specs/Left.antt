-- The fields that an iterator has left.
use Rattle.std.specs.Prelude.{List}
use Rattle.derive_ast.specs.declared.all_fields.AllFields.{AllFields}
use Rattle.derive_ast.specs.declared.container.Field.{Field}
use Rattle.derive_ast.specs.InOrder.{fields_left}

abbrev pub left : AllFields → List Field
left a = fields_left a.body.now a.variant a.field
