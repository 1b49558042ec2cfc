-- The keywords of lists and of members of the program, part by part.
use Rattle.std.proofs.Common.{◌≡◌, List, [], ◌∷◌, Bool, true, false, ◌&&◌, Option, Some, None, option_map, Box, String, Global, string_bytes, map, length, true≢false, refl, sym, ap, ◌∙◌, arith}
use Rattle.std.specs.Prelude.{◌↔◌, IsTrue, if◌then◌else◌}
use Rattle.schema_defs.specs.Schema.{MemberRules, Schema, Same, Lists, no_lists, lists, Named, no_named, named, MaybeSchema, no_schema, the_schema, Places, no_items, each_item, by_place, Properties, no_properties, property}
use Rattle.schema_types.specs.View.{maybe_of, places_of, items_step, schema_step, array_step, members_step, object_step, subschemas_step, schema_view, items_view, array_view, members_view, properties_view, maybe_view}
use Rattle.schema_types.specs.declared.schema.Schema as tree
use Rattle.schema_types.specs.declared.schema.Items.TheShapes.{former-ArrayValidation-items, former-ArrayValidation-additional_items}
use Rattle.schema_types.specs.declared.schema.ArrayValidation.{ArrayValidation, out-ArrayValidation, fold_out-ArrayValidation}
use Rattle.schema_types.specs.declared.schema.ObjectValidation.{ObjectValidation, out-ObjectValidation, fold_out-ObjectValidation}
use Rattle.schema_types.specs.declared.schema.Items.{Items}
use Rattle.merge_defs.specs.Arrays.{kept_lists}
use Rattle.merge_defs.specs.Objects.{no_member_rules, kept_named}
use Rattle.merge_leaves.specs.Sizes.{holds_no_schema, is_missing, names_none, rules_of_named, says_nothing_of_lists, says_nothing_of_named}

maybe_mapped : (o : Option (Box tree.Schema Global)) → maybe_of (former-ArrayValidation-additional_items.map tree.Schema Schema schema_view o) ≡ maybe_view o
maybe_mapped None = refl
maybe_mapped (Some b) = refl

places_mapped : (o : Option Items) → places_of (former-ArrayValidation-items.map Items Places items_view o) ≡ places_of (option_map items_view o)
places_mapped None = refl
places_mapped (Some s) = refl

-- ---- lists

pub array_seen : (a : ArrayValidation) → array_view a
    ≡ lists (places_of (option_map items_view (out-ArrayValidation a).items)) (maybe_view (out-ArrayValidation a).additional_items) (maybe_view (out-ArrayValidation a).contains)
    (record { max_items = (out-ArrayValidation a).max_items; min_items = (out-ArrayValidation a).min_items; unique_items = (out-ArrayValidation a).unique_items })
array_seen a =
    let x = out-ArrayValidation a in
    fold_out-ArrayValidation Places Schema Lists Named Schema Same items_step schema_step array_step members_step object_step subschemas_step a
    ∙ (λ i. lists (places_mapped x.items i) (maybe_mapped x.additional_items i) (maybe_mapped x.contains i) (record { max_items = x.max_items; min_items = x.min_items; unique_items = x.unique_items }))

pub lists_kept : (ls : Lists) → kept_lists ls ≡ (if says_nothing_of_lists ls then no_lists else ls)
lists_kept no_lists = refl
lists_kept (lists no_items no_schema no_schema c) = refl
lists_kept (lists no_items no_schema (the_schema s) c) = refl
lists_kept (lists no_items (the_schema s) x c) = refl
lists_kept (lists (each_item s) x y c) = refl
lists_kept (lists (by_place ss) x y c) = refl

-- ---- members

pub members_seen : (o : ObjectValidation) → members_view o
    ≡ named (properties_view (out-ObjectValidation o).properties.entries) (properties_view (out-ObjectValidation o).pattern_properties.entries) (maybe_view (out-ObjectValidation o).additional_properties) (maybe_view (out-ObjectValidation o).property_names)
    (record { max_properties = (out-ObjectValidation o).max_properties; min_properties = (out-ObjectValidation o).min_properties; required = map string_bytes (out-ObjectValidation o).required.keys })
members_seen o =
    let x = out-ObjectValidation o in
    fold_out-ObjectValidation Places Schema Lists Named Schema Same items_step schema_step array_step members_step object_step subschemas_step o
    ∙ (λ i. named (properties_view x.properties.entries) (properties_view x.pattern_properties.entries) (maybe_mapped x.additional_properties i) (maybe_mapped x.property_names i)
    (record { max_properties = x.max_properties; min_properties = x.min_properties; required = map string_bytes x.required.keys }))

pub named_kept : (ns : Named) → kept_named ns ≡ (if says_nothing_of_named ns then no_named else ns)
named_kept no_named = refl
named_kept (named no_properties no_properties no_schema no_schema c) = refl
named_kept (named no_properties no_properties no_schema (the_schema s) c) = refl
named_kept (named no_properties no_properties (the_schema s) x c) = refl
named_kept (named no_properties (property n s ps) x y c) = refl
named_kept (named (property n s ps) qs x y c) = refl

pub named_parts : (ns : Named) (c : MemberRules) → rules_of_named ns ≡ Some c → (holds_no_schema ns && no_member_rules c) ≡ says_nothing_of_named ns
named_parts no_named c h = refl
named_parts (named no_properties no_properties no_schema no_schema d) c h = let e : c ≡ d = cc in ap no_member_rules e
named_parts (named no_properties no_properties no_schema (the_schema s) d) c h = refl
named_parts (named no_properties no_properties (the_schema s) x d) c h = refl
named_parts (named no_properties (property n s ps) x y d) c h = refl
named_parts (named (property n s ps) qs x y d) c h = refl

pub none_named : (b : Bool) (es : List (String Global × tree.Schema)) → (IsTrue b ↔ (length es ≡ 0)) → b ≡ names_none (properties_view es)
none_named true [] h = refl
none_named false [] h = absurd (true≢false (sym (h.1 refl)))
none_named true (e ∷ es) h = let k = h.0 refl in absurd (omega (arith, k))
none_named false (e ∷ es) h = refl

parts_held : (ps qs : Properties) (x y : MaybeSchema) (c : MemberRules) → (names_none ps && (names_none qs && (is_missing x && is_missing y))) ≡ holds_no_schema (named ps qs x y c)
parts_held no_properties no_properties no_schema no_schema c = refl
parts_held no_properties no_properties no_schema (the_schema s) c = refl
parts_held no_properties no_properties (the_schema s) y c = refl
parts_held no_properties (property n s ps) x y c = refl
parts_held (property n s ps) qs x y c = refl

pub held_parts : (o : ObjectValidation) (a b x y r : Bool) → a ≡ names_none (properties_view (out-ObjectValidation o).properties.entries) → b ≡ names_none (properties_view (out-ObjectValidation o).pattern_properties.entries)
    → x ≡ is_missing (maybe_view (out-ObjectValidation o).additional_properties) → y ≡ is_missing (maybe_view (out-ObjectValidation o).property_names) → r ≡ (a && (b && (x && y))) → r ≡ holds_no_schema (members_view o)
held_parts o a b x y r ea eb ex ey er =
    er ∙ (λ i. ea i && (eb i && (ex i && ey i))) ∙ parts_held _ _ _ _ (record { max_properties = (out-ObjectValidation o).max_properties; min_properties = (out-ObjectValidation o).min_properties; required = map string_bytes (out-ObjectValidation o).required.keys })
    ∙ ap holds_no_schema (sym (members_seen o))
