-- The view of an object with other members, and of members with other properties.
use Rattle.std.proofs.Common.{◌≡◌, List, [], ◌∷◌, Bool, false, Option, Some, option_map, String, Global, map, string_bytes, true≢false, sym, ap, ◌∙◌}
use Rattle.schema_defs.specs.Schema.{object, Named, named, Properties}
use Rattle.schema_types.specs.View.{array_view, lists_of, maybe_view, members_view, object_view, properties_view, same_of, subschemas_view}
use Rattle.schema_types.specs.declared.schema.Schema as tree
use Rattle.schema_types.specs.declared.schema.ObjectValidation.{ObjectValidation, out-ObjectValidation}
use Rattle.schema_types.specs.declared.schema.SchemaObject.{SchemaObject, out-SchemaObject, roll-SchemaObject}
use Rattle.merge_leaves.specs.Sizes.{names_none}
use Rattle.merge_leaves.proofs.Seen.{members_seen}
use Rattle.merge_walked.proofs.Objects.{object_seen, plain_of, rebuilt}
use Rattle.merge_members.specs.Plans.{maybe_members}
use Rattle.merge_less.specs.Taking.{putting, with_new, with_properties}

pub members_put : (o : ObjectValidation) (ps : Properties) (n : Named)
    → n
    ≡ named ps (properties_view (out-ObjectValidation o).pattern_properties.entries) (maybe_view (out-ObjectValidation o).additional_properties) (maybe_view (out-ObjectValidation o).property_names)
    (record { max_properties = (out-ObjectValidation o).max_properties; min_properties = (out-ObjectValidation o).min_properties; required = map string_bytes (out-ObjectValidation o).required.keys })
    → n ≡ with_new ps (members_view o)
members_put o ps n e = e ∙ sym (ap (with_new ps) (members_seen o))

pub object_put : (o : SchemaObject) (ms : Option ObjectValidation) (ps : Properties) → maybe_members ms ≡ putting ps (maybe_members (out-SchemaObject o).object)
    → object_view (roll-SchemaObject (record (out-SchemaObject o) { object = ms })) ≡ with_properties (object_view o) ps
object_put o ms ps e =
    let x = out-SchemaObject o in
    rebuilt o x.subschemas x.array ms x.walk
    ∙ ap (object (plain_of o) (same_of (option_map subschemas_view x.subschemas)) (lists_of (option_map array_view x.array))) e
    ∙ sym (ap (λ s. with_properties s ps) (object_seen o))

-- there are properties
pub put_some : (es : List (String Global × tree.Schema)) (b : Bool) (o : Option ObjectValidation) (m : ObjectValidation) (n : Named) → b ≡ names_none (properties_view es) → b ≡ false → o ≡ Some m
    → n ≡ with_new (properties_view es) (members_view m) → n ≡ putting (properties_view es) (maybe_members o)
put_some [] b o m n h f e k = absurd (true≢false (sym h ∙ f))
put_some (x ∷ es) b o m n h f e k = k ∙ ap (λ u. with_new (properties_view (x ∷ es)) (maybe_members u)) (sym e)
