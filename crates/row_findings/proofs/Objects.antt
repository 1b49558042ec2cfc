-- The view of an object schema of the program, keyword by keyword.
use Rattle.std.proofs.Common.{◌≡◌, Option, Some, None, option_map, string_bytes, map, refl, ◌∙◌}
use Rattle.schema_defs.specs.Schema.{Plain, Schema, object, Same, Lists, Named, Places}
use Rattle.json_value.specs.View.{kept_view}
use Rattle.schema_types.specs.View.{types_view, numbers_view, texts_view, same_of, lists_of, named_of, items_step, schema_step, array_step, members_step, object_step, subschemas_step, array_view, members_view, object_view, subschemas_view}
use Rattle.schema_types.specs.declared.schema.Items.TheShapes.{former-SchemaObject-subschemas, former-SchemaObject-array, former-SchemaObject-object}
use Rattle.schema_types.specs.declared.schema.SchemaObject.{SchemaObject, out-SchemaObject, fold_out-SchemaObject}
use Rattle.schema_types.specs.declared.schema.Subschemas.{Subschemas}
use Rattle.schema_types.specs.declared.schema.ArrayValidation.{ArrayValidation}
use Rattle.schema_types.specs.declared.schema.ObjectValidation.{ObjectValidation}

abbrev pub plain_of : SchemaObject → Plain
plain_of o = record {
  title = option_map string_bytes (out-SchemaObject o).title;
  description = option_map string_bytes (out-SchemaObject o).description;
  default = option_map kept_view (out-SchemaObject o).default;
  const_value = option_map kept_view (out-SchemaObject o).const_value;
  types = option_map types_view (out-SchemaObject o).types;
  format = option_map string_bytes (out-SchemaObject o).format;
  enum_values = option_map (λ v. map kept_view v.items) (out-SchemaObject o).enum_values;
  numbers = option_map numbers_view (out-SchemaObject o).number;
  texts = option_map texts_view (out-SchemaObject o).string;
  reference = option_map string_bytes (out-SchemaObject o).reference;
  walk = (out-SchemaObject o).walk;
}

same_mapped : (o : Option Subschemas) → same_of (former-SchemaObject-subschemas.map Subschemas Same subschemas_view o) ≡ same_of (option_map subschemas_view o)
same_mapped None = refl
same_mapped (Some s) = refl

lists_mapped : (o : Option ArrayValidation) → lists_of (former-SchemaObject-array.map ArrayValidation Lists array_view o) ≡ lists_of (option_map array_view o)
lists_mapped None = refl
lists_mapped (Some s) = refl

named_mapped : (o : Option ObjectValidation) → named_of (former-SchemaObject-object.map ObjectValidation Named members_view o) ≡ named_of (option_map members_view o)
named_mapped None = refl
named_mapped (Some s) = refl

pub object_seen : (o : SchemaObject) → object_view o
    ≡ object (plain_of o) (same_of (option_map subschemas_view (out-SchemaObject o).subschemas)) (lists_of (option_map array_view (out-SchemaObject o).array)) (named_of (option_map members_view (out-SchemaObject o).object))
object_seen o =
    let x = out-SchemaObject o in
    fold_out-SchemaObject Places Schema Lists Named Schema Same items_step schema_step array_step members_step object_step subschemas_step o
    ∙ (λ i. object (plain_of o) (same_mapped x.subschemas i) (lists_mapped x.array i) (named_mapped x.object i))
