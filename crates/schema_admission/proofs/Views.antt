-- A schema's view, by its parts, and their sizes.
use Rattle.std.proofs.Common.{◌≡◌, ℕ, suc, ◌+◌, List, [], ◌∷◌, length, Bool, true, false, not, ◌&&◌, ◌||◌, Option, Some, None, option_map, Box, Vec, Global, string_bytes, map, rules, refl, sym, ap, ◌∙◌}
use Rattle.json_value.specs.Value as value
use Rattle.json_value.specs.Value.{Value, same, number, fraction, text, list, null, item_count, Members, member_count, has_name}
use Rattle.json_value.specs.View.{items_of, kept_view}
use Rattle.serde_json.specs.View.{items_view as seen_items}
use Rattle.serde_json.specs.declared.value.Value.{Value as Json}
use Rattle.schema_defs.specs.Schema as defs
use Rattle.schema_defs.specs.Schema.{Plain, Schema, boolean, object, Same, same_value, Lists, lists, Named, named, MaybeSchema, MaybeSchemas, Places, each_item, by_place}
use Rattle.schema_defs.specs.Texts.{Relations}
use Rattle.schema_defs.specs.Layer.{Judge, MemberPart, is_passed_over, of_kind_agrees, if_given, types_agree, is_listed, parts_agree, lists_agree, items_agree, contains_agrees, within, all_distinct, maybe, property_at, patterns_agree, is_given, has_any}
use Rattle.schema_defs.specs.Admits.{admits_with, parts_of, name_admits}
use Rattle.schema_types.specs.View.{types_view, numbers_view, texts_view, maybe_of, same_of, lists_of, named_of, places_of, maybe_list, items_step, schema_step, array_step, members_step, object_step, subschemas_step, schema_view, items_view, array_view, members_view, object_view, subschemas_view, schemas_view, properties_view, maybe_view, maybe_list_view}
use Rattle.schema_types.specs.declared.schema.Schema as tree
use Rattle.schema_types.specs.declared.schema.Schema.{Object, the_lemmas}
use Rattle.std.specs.List.{list_all}
use Rattle.schema_types.specs.declared.schema.Items.TheShapes.{former-SchemaObject-subschemas, former-SchemaObject-array, former-SchemaObject-object, former-Subschemas-all_of, former-ArrayValidation-items, former-ArrayValidation-additional_items}
use Rattle.schema_types.specs.declared.schema.SchemaObject.{SchemaObject, out-SchemaObject, fold_out-SchemaObject}
use Rattle.schema_types.specs.declared.schema.Subschemas.{Subschemas, out-Subschemas, fold_out-Subschemas}
use Rattle.schema_types.specs.declared.schema.ArrayValidation.{ArrayValidation, out-ArrayValidation, fold_out-ArrayValidation}
use Rattle.schema_types.specs.declared.schema.ObjectValidation.{ObjectValidation, out-ObjectValidation, fold_out-ObjectValidation}
use Rattle.schema_types.specs.declared.schema.Items.{Items, One as One', Many, the_lemmas as items_lemmas}
use Rattle.schema_defs.specs.Counts.{schema_nodes, schemas_nodes, same_nodes, lists_nodes, named_nodes, maybe_nodes, maybe_list_nodes, places_nodes, properties_nodes}
use Rattle.schema_admission.specs.Judging.{kind_agrees, plain_part, reference_agrees, same_agrees, list_agrees, negation_agrees, named_member, rules_part}
use Rattle.schema_admission.specs.declared.wanted.Wanted.{Wanted}
use Rattle.schema_admission.specs.declared.wanted.Wanted.TheVariants.{All, Any, One}

abbrev pub plain_of : SchemaObject → Plain
plain_of o = record {
  title = option_map string_bytes (out-SchemaObject o).title;
  description = option_map string_bytes (out-SchemaObject o).description;
  default = option_map kept_view (out-SchemaObject o).default;
  const_value = option_map kept_view (out-SchemaObject o).const_value;
  types = option_map types_view (out-SchemaObject o).types;
  format = option_map string_bytes (out-SchemaObject o).format;
  enum_values = option_map (λ v. map kept_view v.items) (out-SchemaObject o).enum_values;
  numbers = option_map numbers_view (out-SchemaObject o).number;
  texts = option_map texts_view (out-SchemaObject o).string;
  reference = option_map string_bytes (out-SchemaObject o).reference;
  walk = (out-SchemaObject o).walk;
}

abbrev pub same_part : SchemaObject → Same
same_part o = same_of (option_map subschemas_view (out-SchemaObject o).subschemas)

abbrev pub lists_part : SchemaObject → Lists
lists_part o = lists_of (option_map array_view (out-SchemaObject o).array)

abbrev pub named_part : SchemaObject → Named
named_part o = named_of (option_map members_view (out-SchemaObject o).object)

same_mapped : (o : Option Subschemas) → same_of (former-SchemaObject-subschemas.map Subschemas Same subschemas_view o) ≡ same_of (option_map subschemas_view o)
same_mapped None = refl
same_mapped (Some s) = refl

lists_mapped : (o : Option ArrayValidation) → lists_of (former-SchemaObject-array.map ArrayValidation Lists array_view o) ≡ lists_of (option_map array_view o)
lists_mapped None = refl
lists_mapped (Some s) = refl

named_mapped : (o : Option ObjectValidation) → named_of (former-SchemaObject-object.map ObjectValidation Named members_view o) ≡ named_of (option_map members_view o)
named_mapped None = refl
named_mapped (Some s) = refl

pub object_view-out : (o : SchemaObject) → object_view o ≡ object (plain_of o) (same_part o) (lists_part o) (named_part o)
object_view-out o =
    let x = out-SchemaObject o in
    fold_out-SchemaObject Places Schema Lists Named Schema Same items_step schema_step array_step members_step object_step subschemas_step o
    ∙ (λ i. object (plain_of o) (same_mapped x.subschemas i) (lists_mapped x.array i) (named_mapped x.object i))

pub object_size : (o : SchemaObject) → schema_nodes (object_view o) ≡ 1 + same_nodes (same_part o) + lists_nodes (lists_part o) + named_nodes (named_part o)
object_size o = ap schema_nodes (object_view-out o)

of_kind : (r : Relations) (p : Plain) (v : Value) → of_kind_agrees r p v ≡ kind_agrees r p.numbers p.texts p.format v
of_kind r p null = refl
of_kind r p (value.boolean b) = refl
of_kind r p (number z) = refl
of_kind r p fraction = refl
of_kind r p (text s) = refl
of_kind r p (list xs) = refl
of_kind r p (value.object ms) = refl

pub plain-out : (r : Relations) (o : SchemaObject) (v : Value) → plain_part r v (object_view o)
    ≡ (if_given (types_agree v) (plain_of o).types && if_given (is_listed v) (plain_of o).enum_values && if_given (same v) (plain_of o).const_value && kind_agrees r (plain_of o).numbers (plain_of o).texts (plain_of o).format v)
plain-out r o v =
    ap (plain_part r v) (object_view-out o)
    ∙ ap (λ b. if_given (types_agree v) (plain_of o).types && if_given (is_listed v) (plain_of o).enum_values && if_given (same v) (plain_of o).const_value && b) (of_kind r (plain_of o) v)

pub judged-out : (r : Relations) (d : defs.Document) (n : ℕ) (v : Value) (o : SchemaObject) → admits_with r d n v (object_view o)
    ≡ (plain_part r v (object_view o) && reference_agrees r d n v (plain_of o).reference && parts_agree r v (parts_of r d v) (lists_part o) (named_part o) && same_agrees r d n v (same_part o))
judged-out r d n v o =
    ap (admits_with r d n v) (object_view-out o)
    ∙ ap (λ s. plain_part r v s && reference_agrees r d n v (plain_of o).reference && parts_agree r v (parts_of r d v) (lists_part o) (named_part o) && same_agrees r d n v (same_part o)) (sym (object_view-out o))

list_mapped : (o : Option (Vec tree.Schema Global)) → maybe_list (option_map (λ v. v.items) (former-Subschemas-all_of.map tree.Schema Schema schema_view o)) ≡ maybe_list_view (option_map (λ v. v.items) o)
list_mapped None = refl
list_mapped (Some v) = refl

maybe_mapped : (o : Option (Box tree.Schema Global)) → maybe_of (former-ArrayValidation-additional_items.map tree.Schema Schema schema_view o) ≡ maybe_view o
maybe_mapped None = refl
maybe_mapped (Some b) = refl

pub subschemas_view-out : (s : Subschemas) → subschemas_view s
    ≡ same_value (maybe_list_view (option_map (λ v. v.items) (out-Subschemas s).all_of)) (maybe_list_view (option_map (λ v. v.items) (out-Subschemas s).any_of)) (maybe_list_view (option_map (λ v. v.items) (out-Subschemas s).one_of)) (maybe_view (out-Subschemas s).not) (out-Subschemas s).conditional
subschemas_view-out s =
    let x = out-Subschemas s in
    fold_out-Subschemas Places Schema Lists Named Schema Same items_step schema_step array_step members_step object_step subschemas_step s
    ∙ (λ i. same_value (list_mapped x.all_of i) (list_mapped x.any_of i) (list_mapped x.one_of i) (maybe_mapped x.not i) x.conditional)

places_mapped : (o : Option Items) → places_of (former-ArrayValidation-items.map Items Places items_view o) ≡ places_of (option_map items_view o)
places_mapped None = refl
places_mapped (Some s) = refl

pub array_view-out : (a : ArrayValidation) → array_view a
    ≡ lists (places_of (option_map items_view (out-ArrayValidation a).items)) (maybe_view (out-ArrayValidation a).additional_items) (maybe_view (out-ArrayValidation a).contains)
    (record { max_items = (out-ArrayValidation a).max_items; min_items = (out-ArrayValidation a).min_items; unique_items = (out-ArrayValidation a).unique_items })
array_view-out a =
    let x = out-ArrayValidation a in
    fold_out-ArrayValidation Places Schema Lists Named Schema Same items_step schema_step array_step members_step object_step subschemas_step a
    ∙ (λ i. lists (places_mapped x.items i) (maybe_mapped x.additional_items i) (maybe_mapped x.contains i) (record { max_items = x.max_items; min_items = x.min_items; unique_items = x.unique_items }))

pub members_view-out : (o : ObjectValidation) → members_view o
    ≡ named (properties_view (out-ObjectValidation o).properties.entries) (properties_view (out-ObjectValidation o).pattern_properties.entries) (maybe_view (out-ObjectValidation o).additional_properties) (maybe_view (out-ObjectValidation o).property_names)
    (record { max_properties = (out-ObjectValidation o).max_properties; min_properties = (out-ObjectValidation o).min_properties; required = map string_bytes (out-ObjectValidation o).required.keys })
members_view-out o =
    let x = out-ObjectValidation o in
    fold_out-ObjectValidation Places Schema Lists Named Schema Same items_step schema_step array_step members_step object_step subschemas_step o
    ∙ (λ i. named (properties_view x.properties.entries) (properties_view x.pattern_properties.entries) (maybe_mapped x.additional_properties i) (maybe_mapped x.property_names i)
    (record { max_properties = x.max_properties; min_properties = x.min_properties; required = map string_bytes x.required.keys }))

pub same-out : (r : Relations) (d : defs.Document) (n : ℕ) (v : Value) (o : Option Subschemas) (s : Subschemas) → o ≡ Some s → same_agrees r d n v (same_of (option_map subschemas_view o))
    ≡ (list_agrees r d All n v (maybe_list_view (option_map (λ v. v.items) (out-Subschemas s).all_of)) && list_agrees r d Any n v (maybe_list_view (option_map (λ v. v.items) (out-Subschemas s).any_of))
    && list_agrees r d One n v (maybe_list_view (option_map (λ v. v.items) (out-Subschemas s).one_of)) && negation_agrees r d n v (maybe_view (out-Subschemas s).not))
same-out r d n v o s e = ap (λ p. same_agrees r d n v (same_of (option_map subschemas_view p))) e ∙ ap (same_agrees r d n v) (subschemas_view-out s)

pub same_small : (o : Option Subschemas) (s : Subschemas) → o ≡ Some s → same_nodes (same_of (option_map subschemas_view o))
    ≡ maybe_list_nodes (maybe_list_view (option_map (λ v. v.items) (out-Subschemas s).all_of)) + maybe_list_nodes (maybe_list_view (option_map (λ v. v.items) (out-Subschemas s).any_of))
    + maybe_list_nodes (maybe_list_view (option_map (λ v. v.items) (out-Subschemas s).one_of)) + maybe_nodes (maybe_view (out-Subschemas s).not)
same_small o s e = ap (λ p. same_nodes (same_of (option_map subschemas_view p))) e ∙ ap same_nodes (subschemas_view-out s)

regrouped : (a b w u : Bool) → (a && b && w && u) ≡ (a && b && (w && u))
regrouped true true w u = refl
regrouped true false w u = refl
regrouped false b w u = refl

pub items_counted : (vs : List Json) → length vs ≡ item_count (items_of (seen_items vs))
items_counted [] = refl
items_counted (v ∷ vs) = ap suc (items_counted vs)

pub lists-out : (a : ArrayValidation) (vs : List Json) (js : List Judge) (n : ℕ) → n ≡ length vs
    → (items_agree js (places_of (option_map items_view (out-ArrayValidation a).items)) (maybe_view (out-ArrayValidation a).additional_items) && contains_agrees js (maybe_view (out-ArrayValidation a).contains)
    && within (out-ArrayValidation a).min_items (out-ArrayValidation a).max_items n && if_given (λ u. not u || all_distinct (items_of (seen_items vs))) (out-ArrayValidation a).unique_items)
    ≡ lists_agree (items_of (seen_items vs)) js (array_view a)
lists-out a vs js n e =
    regrouped (items_agree js (places_of (option_map items_view (out-ArrayValidation a).items)) (maybe_view (out-ArrayValidation a).additional_items)) (contains_agrees js (maybe_view (out-ArrayValidation a).contains))
    (within (out-ArrayValidation a).min_items (out-ArrayValidation a).max_items n) (if_given (λ u. not u || all_distinct (items_of (seen_items vs))) (out-ArrayValidation a).unique_items)
    ∙ ap (λ k. items_agree js (places_of (option_map items_view (out-ArrayValidation a).items)) (maybe_view (out-ArrayValidation a).additional_items) && contains_agrees js (maybe_view (out-ArrayValidation a).contains)
    && (within (out-ArrayValidation a).min_items (out-ArrayValidation a).max_items k && if_given (λ u. not u || all_distinct (items_of (seen_items vs))) (out-ArrayValidation a).unique_items)) (e ∙ items_counted vs)
    ∙ sym (ap (lists_agree (items_of (seen_items vs)) js) (array_view-out a))

pub array_small : (a : ArrayValidation) → lists_nodes (array_view a)
    ≡ places_nodes (places_of (option_map items_view (out-ArrayValidation a).items)) + maybe_nodes (maybe_view (out-ArrayValidation a).additional_items) + maybe_nodes (maybe_view (out-ArrayValidation a).contains)
array_small a = ap lists_nodes (array_view-out a)

pub members_small : (o : ObjectValidation) → named_nodes (members_view o)
    ≡ properties_nodes (properties_view (out-ObjectValidation o).properties.entries) + properties_nodes (properties_view (out-ObjectValidation o).pattern_properties.entries)
    + maybe_nodes (maybe_view (out-ObjectValidation o).additional_properties) + maybe_nodes (maybe_view (out-ObjectValidation o).property_names)
members_small o = ap named_nodes (members_view-out o)

schema_view-Object : (b : Box SchemaObject Global) → schema_view (Object b) ≡ object_view b.value
schema_view-Object b = search (rules, the_lemmas)

pub object_less : (s : tree.Schema) (b : Box SchemaObject Global) → s ≡ Object b → schema_nodes (schema_view s) ≡ schema_nodes (object_view b.value)
object_less s b e = ap (λ x. schema_nodes (schema_view x)) e ∙ ap schema_nodes (schema_view-Object b)

-- what binds one member
pub member-out : (r : Relations) (d : defs.Document) (o : ObjectValidation) (m : MemberPart) → named_member r d (members_view o) m
    ≡ ((is_passed_over (map string_bytes (out-ObjectValidation o).required.keys) m || maybe m.says (property_at m.name (properties_view (out-ObjectValidation o).properties.entries)))
    && patterns_agree (λ q. r.matches q m.name) m.says (properties_view (out-ObjectValidation o).pattern_properties.entries)
    && (is_given (property_at m.name (properties_view (out-ObjectValidation o).properties.entries)) || has_any (λ q. r.matches q m.name) (properties_view (out-ObjectValidation o).pattern_properties.entries) || maybe m.says (maybe_view (out-ObjectValidation o).additional_properties))
    && maybe (name_admits r d m.name) (maybe_view (out-ObjectValidation o).property_names))
member-out r d o m = ap (λ n. named_member r d n m) (members_view-out o)

pub rules-out : (o : ObjectValidation) (ms : Members) → rules_part ms (members_view o)
    ≡ (within (out-ObjectValidation o).min_properties (out-ObjectValidation o).max_properties (member_count ms) && list_all (λ n. has_name n ms) (map string_bytes (out-ObjectValidation o).required.keys))
rules-out o ms = ap (rules_part ms) (members_view-out o)

items_view-One : (b : Box tree.Schema Global) → items_view (One' b) ≡ each_item (schema_view b.value)
items_view-One b = search (rules, items_lemmas)

items_view-Many : (v : Vec tree.Schema Global) → items_view (Many v) ≡ by_place (defs.schemas (schemas_view v.items))
items_view-Many v = search (rules, items_lemmas)

pub one_less : (i : Items) (b : Box tree.Schema Global) → i ≡ One' b → places_nodes (items_view i) ≡ schema_nodes (schema_view b.value)
one_less i b e = ap (λ x. places_nodes (items_view x)) e ∙ ap places_nodes (items_view-One b)

pub many_less : (i : Items) (v : Vec tree.Schema Global) → i ≡ Many v → places_nodes (items_view i) ≡ schemas_nodes (defs.schemas (schemas_view v.items))
many_less i v e = ap (λ x. places_nodes (items_view x)) e ∙ ap places_nodes (items_view-Many v)

pub list_small : (o : Option (Vec tree.Schema Global)) (v : Vec tree.Schema Global) → o ≡ Some v → maybe_list_nodes (maybe_list_view (option_map (λ v. v.items) o)) ≡ schemas_nodes (defs.schemas (schemas_view v.items))
list_small o v e = ap (λ p. maybe_list_nodes (maybe_list_view (option_map (λ v. v.items) p))) e

pub list_there : (r : Relations) (d : defs.Document) (w : Wanted) (n : ℕ) (x : Value) (o : Option (Vec tree.Schema Global)) (v : Vec tree.Schema Global) → o ≡ Some v
    → list_agrees r d w n x (defs.the_list (defs.schemas (schemas_view v.items))) ≡ list_agrees r d w n x (maybe_list_view (option_map (λ v. v.items) o))
list_there r d w n x o v e = ap (λ p. list_agrees r d w n x (maybe_list_view (option_map (λ v. v.items) p))) (sym e)

pub one_there : (o : Option Items) (i : Items) (b : Box tree.Schema Global) → o ≡ Some i → i ≡ One' b → places_of (option_map items_view o) ≡ each_item (schema_view b.value)
one_there o i b e f = ap (λ p. places_of (option_map items_view p)) e ∙ ap items_view f ∙ items_view-One b
