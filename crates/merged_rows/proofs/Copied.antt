-- The view of an object whose parts were copied.
use Rattle.std.proofs.Common.{◌≡◌, ℕ, List, Option, Some, None, option_map, map, string_bytes, String, Vec, Global, refl, ap, ◌∙◌}
use Rattle.serde_json.specs.declared.value.Value as json
use Rattle.schema_defs.specs.Schema.{Schema, object, Same, Lists, Named, Places}
use Rattle.json_value.specs.View.{kept_view}
use Rattle.schema_types.specs.View.{types_view, numbers_view, texts_view, same_of, lists_of, named_of, items_step, schema_step, array_step, members_step, object_step, subschemas_step, array_view, members_view, object_view, subschemas_view}
use Rattle.schema_types.specs.declared.schema.Items.TheShapes.{former-SchemaObject-subschemas, former-SchemaObject-array, former-SchemaObject-object}
use Rattle.schema_types.specs.declared.schema.SchemaObject.{roll-SchemaObject, fold-roll-SchemaObject}
use Rattle.schema_types.specs.declared.schema.Subschemas.{Subschemas}
use Rattle.schema_types.specs.declared.schema.ArrayValidation.{ArrayValidation}
use Rattle.schema_types.specs.declared.schema.ObjectValidation.{ObjectValidation}
use Rattle.schema_types.specs.declared.schema.Types.{Types}
use Rattle.schema_types.specs.declared.schema.StringValidation.{StringValidation}
use Rattle.row_findings.specs.declared.given.Keywords.{Keywords}
use Rattle.row_findings.specs.Given.{keywords_view, given_types_view, given_values_view}

same_mapped : (o : Option Subschemas) → same_of (former-SchemaObject-subschemas.map Subschemas Same subschemas_view o) ≡ same_of (option_map subschemas_view o)
same_mapped None = refl
same_mapped (Some s) = refl

lists_mapped : (o : Option ArrayValidation) → lists_of (former-SchemaObject-array.map ArrayValidation Lists array_view o) ≡ lists_of (option_map array_view o)
lists_mapped None = refl
lists_mapped (Some s) = refl

named_mapped : (o : Option ObjectValidation) → named_of (former-SchemaObject-object.map ObjectValidation Named members_view o) ≡ named_of (option_map members_view o)
named_mapped None = refl
named_mapped (Some s) = refl

pub copied : (k : Keywords) (title description : Option (String Global)) (default const_value : Option json.Value) (types : Option Types) (format : Option (String Global)) (values : Option (Vec json.Value Global))
    (subschemas : Option Subschemas) (string : Option StringValidation) (array : Option ArrayValidation) (members : Option ObjectValidation) (reference : Option (String Global)) (walk : Option (List (List (List ℕ))))
    → option_map string_bytes title ≡ option_map (λ t. string_bytes t.now) k.title
    → option_map string_bytes description ≡ option_map (λ t. string_bytes t.now) k.description
    → option_map kept_view default ≡ option_map (λ v. kept_view v.now) k.default
    → option_map kept_view const_value ≡ option_map (λ v. kept_view v.now) k.const_value
    → option_map types_view types ≡ option_map given_types_view k.types
    → option_map string_bytes format ≡ option_map (λ t. string_bytes t.now) k.format
    → option_map (λ v. map kept_view v.items) values ≡ option_map given_values_view k.enum_values
    → option_map subschemas_view subschemas ≡ option_map (λ s. subschemas_view s.now) k.subschemas
    → option_map texts_view string ≡ option_map (λ t. texts_view t.now) k.texts
    → option_map array_view array ≡ option_map (λ a. array_view a.now) k.lists
    → option_map members_view members ≡ option_map (λ m. members_view m.now) k.members
    → option_map string_bytes reference ≡ option_map (λ t. string_bytes t.now) k.reference
    → walk ≡ option_map (λ w. w.now) k.walk
    → object_view (roll-SchemaObject (record {
      title = title;
      description = description;
      default = default;
      const_value = const_value;
      types = types;
      format = format;
      enum_values = values;
      subschemas = subschemas;
      number = k.numbers;
      string = string;
      array = array;
      object = members;
      reference = reference;
      walk = walk;
    })) ≡ keywords_view k
copied k title description default const_value types format values subschemas string array members reference walk e1 e2 e3 e4 e5 e6 e7 e8 e9 e10 e11 e12 e13 =
    fold-roll-SchemaObject Places Schema Lists Named Schema Same items_step schema_step array_step members_step object_step subschemas_step _
    ∙ (λ i. object (record {
      title = e1 i;
      description = e2 i;
      default = e3 i;
      const_value = e4 i;
      types = e5 i;
      format = e6 i;
      enum_values = e7 i;
      numbers = option_map numbers_view k.numbers;
      texts = e9 i;
      reference = e12 i;
      walk = e13 i;
    }) ((same_mapped subschemas ∙ ap same_of e8) i) ((lists_mapped array ∙ ap lists_of e10) i) ((named_mapped members ∙ ap named_of e11) i))
