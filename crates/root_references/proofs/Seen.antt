-- Schemas of the program part by part.
use Rattle.std.proofs.Common.{◌≡◌, Bool, false, ◌||◌, Option, Some, None, Box, Vec, Global, option_map, string_bytes, map, refl, sym, ap, ◌∙◌}
use Rattle.schema_defs.specs.Schema as defs
use Rattle.schema_defs.specs.Schema.{Same, no_same, same_value, Lists, no_lists, lists, Named, no_named, named, Places, no_items}
use Rattle.json_value.specs.View.{kept_view}
use Rattle.schema_types.specs.View.{types_view, numbers_view, texts_view, same_of, lists_of, named_of, maybe_of, maybe_list, places_of, items_step, schema_step, array_step, members_step, object_step, subschemas_step, schema_view, items_view, array_view, members_view, object_view, subschemas_view, properties_view, maybe_view, maybe_list_view}
use Rattle.schema_types.specs.declared.schema.Schema.{Schema}
use Rattle.schema_types.specs.declared.schema.Items.TheShapes.{former-SchemaObject-subschemas, former-SchemaObject-array, former-SchemaObject-object, former-Subschemas-all_of, former-ArrayValidation-items, former-ArrayValidation-additional_items}
use Rattle.schema_types.specs.declared.schema.SchemaObject.{SchemaObject, out-SchemaObject, fold_out-SchemaObject}
use Rattle.schema_types.specs.declared.schema.Subschemas.{Subschemas, out-Subschemas, fold_out-Subschemas}
use Rattle.schema_types.specs.declared.schema.ArrayValidation.{ArrayValidation, out-ArrayValidation, fold_out-ArrayValidation}
use Rattle.schema_types.specs.declared.schema.ObjectValidation.{ObjectValidation, out-ObjectValidation, fold_out-ObjectValidation}
use Rattle.schema_types.specs.declared.schema.Items.{Items}
use Rattle.convert_defs.specs.RootReference.{is_root, has_root, root_in_same, root_in_lists, root_in_named, root_in_maybe, root_in_members, root_in_places, root_in_properties}

list_mapped : (o : Option (Vec Schema Global)) → maybe_list (option_map (λ v. v.items) (former-Subschemas-all_of.map Schema defs.Schema schema_view o)) ≡ maybe_list_view (option_map (λ v. v.items) o)
list_mapped None = refl
list_mapped (Some v) = refl

maybe_mapped : (o : Option (Box Schema Global)) → maybe_of (former-ArrayValidation-additional_items.map Schema defs.Schema schema_view o) ≡ maybe_view o
maybe_mapped None = refl
maybe_mapped (Some b) = refl

places_mapped : (o : Option Items) → places_of (former-ArrayValidation-items.map Items Places items_view o) ≡ places_of (option_map items_view o)
places_mapped None = refl
places_mapped (Some s) = refl

same_mapped : (o : Option Subschemas) → same_of (former-SchemaObject-subschemas.map Subschemas Same subschemas_view o) ≡ same_of (option_map subschemas_view o)
same_mapped None = refl
same_mapped (Some s) = refl

lists_mapped : (o : Option ArrayValidation) → lists_of (former-SchemaObject-array.map ArrayValidation Lists array_view o) ≡ lists_of (option_map array_view o)
lists_mapped None = refl
lists_mapped (Some s) = refl

named_mapped : (o : Option ObjectValidation) → named_of (former-SchemaObject-object.map ObjectValidation Named members_view o) ≡ named_of (option_map members_view o)
named_mapped None = refl
named_mapped (Some s) = refl

-- ---- whether the root is named in each

abbrev pub in_list : Option (Vec Schema Global) → Bool
in_list o = root_in_members (maybe_list_view (option_map (λ v. v.items) o))

pub of_object : (o : SchemaObject) → has_root (object_view o)
    ≡ (is_root (option_map string_bytes (out-SchemaObject o).reference) || (root_in_same (same_of (option_map subschemas_view (out-SchemaObject o).subschemas)) || (root_in_lists (lists_of (option_map array_view (out-SchemaObject o).array)) || root_in_named (named_of (option_map members_view (out-SchemaObject o).object)))))
of_object o =
    let x = out-SchemaObject o in
    ap has_root (fold_out-SchemaObject Places defs.Schema Lists Named defs.Schema Same items_step schema_step array_step members_step object_step subschemas_step o)
    ∙ (λ i. is_root (option_map string_bytes x.reference) || (root_in_same (same_mapped x.subschemas i) || (root_in_lists (lists_mapped x.array i) || root_in_named (named_mapped x.object i))))

pub of_subschemas : (s : Subschemas) → root_in_same (subschemas_view s)
    ≡ (in_list (out-Subschemas s).all_of || (in_list (out-Subschemas s).any_of || (in_list (out-Subschemas s).one_of || root_in_maybe (maybe_view (out-Subschemas s).not))))
of_subschemas s =
    let x = out-Subschemas s in
    ap root_in_same (fold_out-Subschemas Places defs.Schema Lists Named defs.Schema Same items_step schema_step array_step members_step object_step subschemas_step s)
    ∙ (λ i. root_in_members (list_mapped x.all_of i) || (root_in_members (list_mapped x.any_of i) || (root_in_members (list_mapped x.one_of i) || root_in_maybe (maybe_mapped x.not i))))

pub of_array : (a : ArrayValidation) → root_in_lists (array_view a)
    ≡ (root_in_places (places_of (option_map items_view (out-ArrayValidation a).items)) || (root_in_maybe (maybe_view (out-ArrayValidation a).additional_items) || root_in_maybe (maybe_view (out-ArrayValidation a).contains)))
of_array a =
    let x = out-ArrayValidation a in
    ap root_in_lists (fold_out-ArrayValidation Places defs.Schema Lists Named defs.Schema Same items_step schema_step array_step members_step object_step subschemas_step a)
    ∙ (λ i. root_in_places (places_mapped x.items i) || (root_in_maybe (maybe_mapped x.additional_items i) || root_in_maybe (maybe_mapped x.contains i)))

pub of_members : (o : ObjectValidation) → root_in_named (members_view o)
    ≡ (root_in_properties (properties_view (out-ObjectValidation o).properties.entries) || (root_in_properties (properties_view (out-ObjectValidation o).pattern_properties.entries) || (root_in_maybe (maybe_view (out-ObjectValidation o).additional_properties) || root_in_maybe (maybe_view (out-ObjectValidation o).property_names))))
of_members o =
    let x = out-ObjectValidation o in
    ap root_in_named (fold_out-ObjectValidation Places defs.Schema Lists Named defs.Schema Same items_step schema_step array_step members_step object_step subschemas_step o)
    ∙ (λ i. root_in_properties (properties_view x.properties.entries) || (root_in_properties (properties_view x.pattern_properties.entries) || (root_in_maybe (maybe_mapped x.additional_properties i) || root_in_maybe (maybe_mapped x.property_names i))))
