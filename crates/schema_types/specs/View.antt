-- The schema that a schema of the program stands for.
use Rattle.std.specs.Prelude.{List, map, Option, Some, None, option_map, String, string_bytes}
use Rattle.std.specs.declared.alloc.Global.{Global}
use Rattle.std.specs.declared.boxed.Box.{Box}
use Rattle.json_value.specs.View.{kept_view}
use Rattle.schema_defs.specs.Schema as defs
use Rattle.schema_defs.specs.Schema.{one_type, many_types, Numbers, Texts, Schema, boolean, object, Same, no_same, same_value, Lists, no_lists, lists, Named, no_named, named, MaybeSchema, no_schema, the_schema, MaybeSchemas, no_list, the_list, Places, no_items, each_item, by_place, Properties}
use Rattle.schema_types.specs.declared.schema.Types.{Types}
use Rattle.schema_types.specs.declared.schema.Types.TheVariants.{One, Many}
use Rattle.schema_types.specs.declared.schema.NumberValidation.{NumberValidation}
use Rattle.schema_types.specs.declared.schema.StringValidation.{StringValidation}
use Rattle.schema_types.specs.declared.schema.Schema as tree
use Rattle.schema_types.specs.declared.schema.Schema.{fold-Schema}
use Rattle.schema_types.specs.declared.schema.Items.TheOpen.{Items-F, Schema-F, ArrayValidation-F, ObjectValidation-F, SchemaObject-F, Subschemas-F}
use Rattle.schema_types.specs.declared.schema.Items.{Items, fold-Items}
use Rattle.schema_types.specs.declared.schema.ArrayValidation.{ArrayValidation, fold-ArrayValidation}
use Rattle.schema_types.specs.declared.schema.ObjectValidation.{ObjectValidation, fold-ObjectValidation}
use Rattle.schema_types.specs.declared.schema.SchemaObject.{SchemaObject, fold-SchemaObject}
use Rattle.schema_types.specs.declared.schema.Subschemas.{Subschemas, fold-Subschemas}

-- ---- what holds no schema

abbrev pub types_view : Types → defs.Types
types_view (One k) = one_type k
types_view (Many ks) = many_types ks.items

abbrev pub numbers_view : NumberValidation → Numbers
numbers_view n = record {
  multiple_of = n.multiple_of;
  maximum = n.maximum;
  exclusive_maximum = n.exclusive_maximum;
  minimum = n.minimum;
  exclusive_minimum = n.exclusive_minimum;
}

abbrev pub texts_view : StringValidation → Texts
texts_view t = record { max_length = t.max_length; min_length = t.min_length; patterns = map string_bytes t.patterns.items }

-- ---- lists and maps of schemas that are seen already

abbrev pub maybe_of : Option (Box Schema Global) → MaybeSchema
maybe_of None = no_schema
maybe_of (Some b) = the_schema b.value

abbrev pub named_schemas : List (String Global × Schema) → Properties
named_schemas ps = defs.properties (map (λ p. (string_bytes p.0, p.1)) ps)

abbrev pub same_of : Option Same → Same
same_of None = no_same
same_of (Some s) = s

abbrev pub lists_of : Option Lists → Lists
lists_of None = no_lists
lists_of (Some l) = l

abbrev pub named_of : Option Named → Named
named_of None = no_named
named_of (Some n) = n

abbrev pub places_of : Option Places → Places
places_of None = no_items
places_of (Some p) = p

-- ---- one level each, with the schemas inside already seen

abbrev pub items_step : Items-F Places Schema Lists Named Schema Same → Places
items_step (Items-F.One s) = each_item s.value
items_step (Items-F.Many ss) = by_place (defs.schemas ss.items)

abbrev pub schema_step : Schema-F Places Schema Lists Named Schema Same → Schema
schema_step (Schema-F.Bool b) = boolean b
schema_step (Schema-F.Object o) = o.value

abbrev pub array_step : ArrayValidation-F Places Schema Lists Named Schema Same → Lists
array_step a =
    lists (places_of a.items) (maybe_of a.additional_items) (maybe_of a.contains)
    (record { max_items = a.max_items; min_items = a.min_items; unique_items = a.unique_items })

abbrev pub members_step : ObjectValidation-F Places Schema Lists Named Schema Same → Named
members_step o =
    named (named_schemas o.properties.entries) (named_schemas o.pattern_properties.entries) (maybe_of o.additional_properties) (maybe_of o.property_names)
    (record { max_properties = o.max_properties; min_properties = o.min_properties; required = map string_bytes o.required.keys })

abbrev pub maybe_list : Option (List Schema) → MaybeSchemas
maybe_list None = no_list
maybe_list (Some ss) = the_list (defs.schemas ss)

abbrev pub subschemas_step : Subschemas-F Places Schema Lists Named Schema Same → Same
subschemas_step s =
    same_value (maybe_list (option_map (λ v. v.items) s.all_of)) (maybe_list (option_map (λ v. v.items) s.any_of)) (maybe_list (option_map (λ v. v.items) s.one_of))
    (maybe_of s.not) s.conditional

abbrev pub object_step : SchemaObject-F Places Schema Lists Named Schema Same → Schema
object_step o =
    object (record {
      title = option_map string_bytes o.title;
      description = option_map string_bytes o.description;
      default = option_map kept_view o.default;
      const_value = option_map kept_view o.const_value;
      types = option_map types_view o.types;
      format = option_map string_bytes o.format;
      enum_values = option_map (λ v. map kept_view v.items) o.enum_values;
      numbers = option_map numbers_view o.number;
      texts = option_map texts_view o.string;
      reference = option_map string_bytes o.reference;
      walk = o.walk;
    }) (same_of o.subschemas) (lists_of o.array) (named_of o.object)

-- ---- views

abbrev pub schema_view : tree.Schema → Schema
schema_view = fold-Schema Places Schema Lists Named Schema Same items_step schema_step array_step members_step object_step subschemas_step

abbrev pub items_view : Items → Places
items_view = fold-Items Places Schema Lists Named Schema Same items_step schema_step array_step members_step object_step subschemas_step

abbrev pub array_view : ArrayValidation → Lists
array_view = fold-ArrayValidation Places Schema Lists Named Schema Same items_step schema_step array_step members_step object_step subschemas_step

abbrev pub members_view : ObjectValidation → Named
members_view = fold-ObjectValidation Places Schema Lists Named Schema Same items_step schema_step array_step members_step object_step subschemas_step

abbrev pub object_view : SchemaObject → Schema
object_view = fold-SchemaObject Places Schema Lists Named Schema Same items_step schema_step array_step members_step object_step subschemas_step

abbrev pub subschemas_view : Subschemas → Same
subschemas_view = fold-Subschemas Places Schema Lists Named Schema Same items_step schema_step array_step members_step object_step subschemas_step

-- the parts of a schema

abbrev pub schemas_view : List tree.Schema → List Schema
schemas_view ss = map schema_view ss

abbrev pub properties_view : List (String Global × tree.Schema) → Properties
properties_view ps = named_schemas (map (λ p. (p.0, schema_view p.1)) ps)

abbrev pub maybe_view : Option (Box tree.Schema Global) → MaybeSchema
maybe_view None = no_schema
maybe_view (Some b) = the_schema (schema_view b.value)

abbrev pub maybe_list_view : Option (List tree.Schema) → MaybeSchemas
maybe_list_view o = maybe_list (option_map schemas_view o)
