use Rattle.std.proofs.Common.{◌≡◌, take, map}
use Rattle.container_defs.specs.Reader.{field_model}
use Rattle.derive_ast.specs.Views.{field_view as read_view}
use Rattle.value_models.specs.FieldView.{fields_view}
use Rattle.item_models.proofs.field_model.models_of.Given as goal

abbrev pub invariant-loop-field : goal.invariant-loop-field
invariant-loop-field l = fields_view l.models.items ≡ map field_model (map read_view (take l.field-index l.fields))
