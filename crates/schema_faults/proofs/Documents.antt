-- A value is read as a document exactly where it is quiet.
use Rattle.std.proofs.Common.{◌≡◌, ℕ, suc, List, Option, Some, Bool, true, false, ◌&&◌, bytes_eq, refl, sym, ◌∙◌}
use Rattle.std.specs.Prelude.{is_some, if◌then◌else◌}
use Rattle.json_value.specs.Value as value
use Rattle.json_value.specs.Value.{Value, Items, Members, null, number, fraction, text, list, item, no_items, member, no_members, member_at}
use Rattle.schema_defs.specs.Location.{place}
use Rattle.schema_defs.specs.Schema.{Schema, Schemas, Properties, schema, property}
use Rattle.schema_defs.specs.Read.{◌⊛◌, reading, item_readings, member_readings, schemas_of, properties_of}
use Rattle.schema_faults.specs.Schemas.{under, held, held_items, held_members, list_nodes, object_nodes}
use Rattle.schema_faults.proofs.Readings.{quiet, quiet-append, quiet-under, faults, star, Good}
use Rattle.schema_faults.proofs.Objects.{GoodMaybe, schema_reads, quiet_object}

-- ---- each value

chosen : (b : Bool) (v : Value) (o : Option Value) → Good v → GoodMaybe o → GoodMaybe (if b then Some v else o)
chosen true v o g h = g
chosen false v o g h = h

abbrev with_schema : Schema → Schemas → Schemas
with_schema s ss = schema s ss

abbrev ListGood : Items → Type 0
ListGood vs = (k : List ℕ) (i : ℕ) → is_some (schemas_of (item_readings vs)) ≡ quiet faults (list_nodes k i (held_items vs))

abbrev NamedGood : Members → Type 0
NamedGood ms = (k : List ℕ) → is_some (properties_of (member_readings ms)) ≡ quiet faults (object_nodes k (held_members ms))

one_more : (v : Value) (vs : Items) → Good v → ListGood vs → ListGood (item v vs)
one_more v vs g h k i =
    star (Some with_schema ⊛ (reading v).as_schema) (schemas_of (item_readings vs)) ∙ (λ j. star (Some with_schema) (reading v).as_schema j && h k (suc i) j) ∙ (λ j. g.as_schema k j && quiet faults (list_nodes k (suc i) (held_items vs)))
    ∙ sym (quiet-append faults (under (place i) ((held v).nodes k)) (list_nodes k (suc i) (held_items vs)) ∙ (λ j. quiet-under faults (place i) ((held v).nodes k) j && quiet faults (list_nodes k (suc i) (held_items vs))))

abbrev with_property : List ℕ → Schema → Properties → Properties
with_property n s ps = property n s ps

one_named : (n : List ℕ) (v : Value) (ms : Members) → Good v → NamedGood ms → NamedGood (member n v ms)
one_named n v ms g h k =
    star (Some (with_property n) ⊛ (reading v).as_schema) (properties_of (member_readings ms)) ∙ (λ j. star (Some (with_property n)) (reading v).as_schema j && h k j) ∙ (λ j. g.as_schema k j && quiet faults (object_nodes k (held_members ms)))
    ∙ sym (quiet-append faults (under n ((held v).nodes k)) (object_nodes k (held_members ms)) ∙ (λ j. quiet-under faults n ((held v).nodes k) j && quiet faults (object_nodes k (held_members ms))))

good_object : (ms : Members) → ((n : List ℕ) → GoodMaybe (member_at n ms)) → NamedGood ms → Good (value.object ms)
good_object ms g h = record {
  as_schema = λ k. schema_reads ms g ∙ sym (quiet_object false k ms);
  as_list = λ k. refl;
  as_named = h;
}

mutual
  pub good : (v : Value) → Good v
  good null = record { as_schema = λ k. refl; as_list = λ k. refl; as_named = λ k. refl }
  good (value.boolean b) = record { as_schema = λ k. refl; as_list = λ k. refl; as_named = λ k. refl }
  good (number z) = record { as_schema = λ k. refl; as_list = λ k. refl; as_named = λ k. refl }
  good fraction = record { as_schema = λ k. refl; as_list = λ k. refl; as_named = λ k. refl }
  good (text s) = record { as_schema = λ k. refl; as_list = λ k. refl; as_named = λ k. refl }
  good (list xs) = record { as_schema = λ k. refl; as_list = λ k. good_items xs k 0; as_named = λ k. refl }
  good (value.object ms) = good_object ms (good_at ms) (good_named ms)

  good_items : (vs : Items) → ListGood vs
  good_items no_items = λ k i. refl
  good_items (item v vs) = one_more v vs (good v) (good_items vs)

  good_named : (ms : Members) → NamedGood ms
  good_named no_members = λ k. refl
  good_named (member n v ms) = one_named n v ms (good v) (good_named ms)

  pub good_at : (ms : Members) (n : List ℕ) → GoodMaybe (member_at n ms)
  good_at no_members n = tt
  good_at (member k v ms) n = chosen (bytes_eq n k) v (member_at n ms) (good v) (good_at ms n)
