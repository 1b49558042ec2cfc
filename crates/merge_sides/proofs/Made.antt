-- The view of an object of leaves, lists and members, and of one that is tidied.
use Rattle.std.proofs.Common.{◌≡◌, Option, Some, None, option_map, string_bytes, String, Vec, Global, refl, sym, ap, ◌∙◌}
use Rattle.serde_json.specs.declared.value.Value as json
use Rattle.schema_defs.specs.Schema.{Plain, Schema, object, no_same, Same, Lists, Named, Places}
use Rattle.json_value.specs.View.{kept_view}
use Rattle.schema_types.specs.View.{types_view, numbers_view, texts_view, same_of, lists_of, named_of, items_step, schema_step, array_step, members_step, object_step, subschemas_step, array_view, members_view, object_view, subschemas_view}
use Rattle.schema_types.specs.declared.schema.Items.TheShapes.{former-SchemaObject-subschemas, former-SchemaObject-array, former-SchemaObject-object}
use Rattle.schema_types.specs.declared.schema.SchemaObject.{SchemaObject, out-SchemaObject, roll-SchemaObject, fold-roll-SchemaObject}
use Rattle.schema_types.specs.declared.schema.Subschemas.{Subschemas}
use Rattle.schema_types.specs.declared.schema.ArrayValidation.{ArrayValidation}
use Rattle.schema_types.specs.declared.schema.ObjectValidation.{ObjectValidation}
use Rattle.schema_types.specs.declared.schema.Types.{Types}
use Rattle.schema_types.specs.declared.schema.NumberValidation.{NumberValidation}
use Rattle.schema_types.specs.declared.schema.StringValidation.{StringValidation}
use Rattle.merge_defs.specs.Merge.{tidied, tidied_values}
use Rattle.merge_defs.specs.Objects.{no_plain}
use Rattle.merge_leaves.specs.View.{values_view}
use Rattle.merge_sides.specs.Met.{listing}
use Rattle.merge_walked.proofs.Objects.{plain_of, object_seen}

same_mapped : (o : Option Subschemas) → same_of (former-SchemaObject-subschemas.map Subschemas Same subschemas_view o) ≡ same_of (option_map subschemas_view o)
same_mapped None = refl
same_mapped (Some s) = refl

lists_mapped : (o : Option ArrayValidation) → lists_of (former-SchemaObject-array.map ArrayValidation Lists array_view o) ≡ lists_of (option_map array_view o)
lists_mapped None = refl
lists_mapped (Some s) = refl

named_mapped : (o : Option ObjectValidation) → named_of (former-SchemaObject-object.map ObjectValidation Named members_view o) ≡ named_of (option_map members_view o)
named_mapped None = refl
named_mapped (Some s) = refl

-- ---- an object of these parts alone

pub made_object : (types : Option Types) (format : Option (String Global)) (number : Option NumberValidation) (string : Option StringValidation) (values : Option (Vec json.Value Global)) (array : Option ArrayValidation) (members : Option ObjectValidation)
    → object_view (roll-SchemaObject (record {
      title = None;
      description = None;
      default = None;
      const_value = None;
      types = types;
      format = format;
      enum_values = values;
      subschemas = None;
      number = number;
      string = string;
      array = array;
      object = members;
      reference = None;
      walk = None;
    }))
    ≡ object (record no_plain { types = option_map types_view types; format = option_map string_bytes format; numbers = option_map numbers_view number; texts = option_map texts_view string; enum_values = values_view values }) no_same (lists_of (option_map array_view array)) (named_of (option_map members_view members))
made_object types format number string values array members =
    fold-roll-SchemaObject Places Schema Lists Named Schema Same items_step schema_step array_step members_step object_step subschemas_step _
    ∙ (λ i. object (record no_plain { types = option_map types_view types; format = option_map string_bytes format; numbers = option_map numbers_view number; texts = option_map texts_view string; enum_values = values_view values }) no_same (lists_mapped array i) (named_mapped members i))

-- ---- with other listed values

pub values_put : (o : SchemaObject) (vs : Option (Vec json.Value Global)) → object_view (roll-SchemaObject (record (out-SchemaObject o) { enum_values = vs })) ≡ listing (values_view vs) (object_view o)
values_put o vs =
    let x = out-SchemaObject o in
    fold-roll-SchemaObject Places Schema Lists Named Schema Same items_step schema_step array_step members_step object_step subschemas_step (record x { enum_values = vs })
    ∙ (λ i. object (record (plain_of o) { enum_values = values_view vs }) (same_mapped x.subschemas i) (lists_mapped x.array i) (named_mapped x.object i))
    ∙ sym (ap (listing (values_view vs)) (object_seen o))

pub tidied_by : (o : SchemaObject) (vs : Option (Vec json.Value Global)) (s : Schema)
    → ((p : Plain) → values_view vs ≡ tidied_values (record p { types = option_map types_view (out-SchemaObject o).types; const_value = option_map kept_view (out-SchemaObject o).const_value }) (values_view (out-SchemaObject o).enum_values))
    → s ≡ listing (values_view vs) (object_view o) → s ≡ tidied (object_view o)
tidied_by o vs s e h =
    let x = out-SchemaObject o in
    h
    ∙ ap (listing (values_view vs)) (object_seen o)
    ∙ (λ i. object (record (plain_of o) { enum_values = e (plain_of o) i }) (same_of (option_map subschemas_view x.subschemas)) (lists_of (option_map array_view x.array)) (named_of (option_map members_view x.object)))
    ∙ sym (ap tidied (object_seen o))
