-- The view of an object of keywords, and of one with another walk.
use Rattle.std.proofs.Common.{◌≡◌, Option, Some, None, option_map, string_bytes, map, unwrap_or, refl, sym, ap, ◌∙◌}
use Rattle.schema_defs.specs.Schema.{Plain, Schema, object, Same, Lists, Named, Places}
use Rattle.json_value.specs.View.{kept_view}
use Rattle.schema_types.specs.View.{types_view, numbers_view, texts_view, same_of, lists_of, named_of, items_step, schema_step, array_step, members_step, object_step, subschemas_step, array_view, members_view, object_view, subschemas_view}
use Rattle.schema_types.specs.declared.schema.Items.TheShapes.{former-SchemaObject-subschemas, former-SchemaObject-array, former-SchemaObject-object}
use Rattle.schema_types.specs.declared.schema.SchemaObject.{SchemaObject, out-SchemaObject, roll-SchemaObject, fold_out-SchemaObject, fold-roll-SchemaObject}
use Rattle.schema_types.specs.declared.schema.Subschemas.{Subschemas}
use Rattle.schema_types.specs.declared.schema.ArrayValidation.{ArrayValidation}
use Rattle.schema_types.specs.declared.schema.ObjectValidation.{ObjectValidation}
use Rattle.merge_walks.specs.Carried.{Walk, root_walk, unmarked, on_walk, same_inside, lists_inside, named_inside, opened}
use Rattle.merge_walked.specs.Seen.{with_parts}

abbrev pub plain_of : SchemaObject → Plain
plain_of o = record {
  title = option_map string_bytes (out-SchemaObject o).title;
  description = option_map string_bytes (out-SchemaObject o).description;
  default = option_map kept_view (out-SchemaObject o).default;
  const_value = option_map kept_view (out-SchemaObject o).const_value;
  types = option_map types_view (out-SchemaObject o).types;
  format = option_map string_bytes (out-SchemaObject o).format;
  enum_values = option_map (λ v. map kept_view v.items) (out-SchemaObject o).enum_values;
  numbers = option_map numbers_view (out-SchemaObject o).number;
  texts = option_map texts_view (out-SchemaObject o).string;
  reference = option_map string_bytes (out-SchemaObject o).reference;
  walk = (out-SchemaObject o).walk;
}

same_mapped : (o : Option Subschemas) → same_of (former-SchemaObject-subschemas.map Subschemas Same subschemas_view o) ≡ same_of (option_map subschemas_view o)
same_mapped None = refl
same_mapped (Some s) = refl

lists_mapped : (o : Option ArrayValidation) → lists_of (former-SchemaObject-array.map ArrayValidation Lists array_view o) ≡ lists_of (option_map array_view o)
lists_mapped None = refl
lists_mapped (Some s) = refl

named_mapped : (o : Option ObjectValidation) → named_of (former-SchemaObject-object.map ObjectValidation Named members_view o) ≡ named_of (option_map members_view o)
named_mapped None = refl
named_mapped (Some s) = refl

pub object_seen : (o : SchemaObject) → object_view o
    ≡ object (plain_of o) (same_of (option_map subschemas_view (out-SchemaObject o).subschemas)) (lists_of (option_map array_view (out-SchemaObject o).array)) (named_of (option_map members_view (out-SchemaObject o).object))
object_seen o =
    let x = out-SchemaObject o in
    fold_out-SchemaObject Places Schema Lists Named Schema Same items_step schema_step array_step members_step object_step subschemas_step o
    ∙ (λ i. object (plain_of o) (same_mapped x.subschemas i) (lists_mapped x.array i) (named_mapped x.object i))

-- with other parts
pub rebuilt : (o : SchemaObject) (ss : Option Subschemas) (ls : Option ArrayValidation) (ns : Option ObjectValidation) (w : Option Walk)
    → object_view (roll-SchemaObject (record (out-SchemaObject o) { subschemas = ss; array = ls; object = ns; walk = w }))
    ≡ object (record (plain_of o) { walk = w }) (same_of (option_map subschemas_view ss)) (lists_of (option_map array_view ls)) (named_of (option_map members_view ns))
rebuilt o ss ls ns w =
    fold-roll-SchemaObject Places Schema Lists Named Schema Same items_step schema_step array_step members_step object_step subschemas_step
    (record (out-SchemaObject o) { subschemas = ss; array = ls; object = ns; walk = w })
    ∙ (λ i. object (record (plain_of o) { walk = w }) (same_mapped ss i) (lists_mapped ls i) (named_mapped ns i))

-- on a walk, with these parts
pub parts_put : (o : SchemaObject) (ss : Option Subschemas) (ls : Option ArrayValidation) (ns : Option ObjectValidation) (w : Walk)
    → object_view (roll-SchemaObject (record (out-SchemaObject o) { subschemas = ss; array = ls; object = ns; walk = Some w }))
    ≡ with_parts w (same_of (option_map subschemas_view ss)) (lists_of (option_map array_view ls)) (named_of (option_map members_view ns)) (object_view o)
parts_put o ss ls ns w =
    rebuilt o ss ls ns (Some w) ∙ sym (ap (with_parts w (same_of (option_map subschemas_view ss)) (lists_of (option_map array_view ls)) (named_of (option_map members_view ns))) (object_seen o))

-- with each schema directly inside on its walk
pub opens : (o : SchemaObject) (r : Schema) (own w : Walk) (ss : Same) (ls : Lists) (ns : Named) → r ≡ with_parts w ss ls ns (object_view o)
    → own ≡ unwrap_or (option_map unmarked (out-SchemaObject o).walk) root_walk → w ≡ unwrap_or (out-SchemaObject o).walk root_walk
    → ss ≡ same_inside own (same_of (option_map subschemas_view (out-SchemaObject o).subschemas)) → ls ≡ lists_inside own (lists_of (option_map array_view (out-SchemaObject o).array))
    → ns ≡ named_inside own (named_of (option_map members_view (out-SchemaObject o).object)) → r ≡ opened (object_view o)
opens o r own w ss ls ns h hown hw hs hl hn =
    let x = out-SchemaObject o in
    h ∙ ap (with_parts w ss ls ns) (object_seen o)
    ∙ (λ i. object (record (plain_of o) { walk = Some (hw i) }) (hs i) (hl i) (hn i))
    ∙ (λ i. object (record (plain_of o) { walk = Some (unwrap_or x.walk root_walk) }) (same_inside (hown i) (same_of (option_map subschemas_view x.subschemas))) (lists_inside (hown i) (lists_of (option_map array_view x.array))) (named_inside (hown i) (named_of (option_map members_view x.object))))
    ∙ sym (ap opened (object_seen o))

-- on another walk
pub rewalked : (o : SchemaObject) (w : Walk) → object_view (roll-SchemaObject (record (out-SchemaObject o) { walk = Some w })) ≡ on_walk w (object_view o)
rewalked o w =
    let x = out-SchemaObject o in
    rebuilt o x.subschemas x.array x.object (Some w) ∙ sym (ap (on_walk w) (object_seen o))
