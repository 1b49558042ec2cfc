-- Settled values, type by type: what a type writes of a value, in terms of what types write of its parts.
use Rattle.std.specs.Prelude.{◌≡◌, ℕ, List, [], ◌∷◌, map, Bool, if◌then◌else◌}
use Rattle.json_value.specs.Value.{Value, Items, Members, null, text, list, object, no_members, items, values, entries}
use Rattle.schema_defs.specs.declared.Format.{Format}
use Rattle.schema_defs.specs.Texts.{Relations}
use Rattle.schema_defs.specs.Integers.{Range}
use Rattle.model_defs.specs.Types.{TypeModel, TypeModels, types_of, boolean_type, integer_type, text_type, native_type, any_type, unit_type, option_type, boxed_type, vec_type, set_type, map_type, tuple_type, array_type, item_type}
use Rattle.model_defs.specs.Model.{FieldModel, ContainerModel, ConversionsD, container_named}
use Rattle.model_defs.specs.Layer.{one_type, places, named_fields, MemberPart, Parts, no_parts, list_parts, object_parts, is_null}
use Rattle.model_defs.specs.Reads.{value_reads, leads_to_option}
use Rattle.model_defs.specs.Settled.{Part, put_all, firsts_after, text_of, struct_written, container_writes, value_writes}
use Rattle.model_defs.specs.Reach.{NoneReachesItself}

-- each value by the type of its place
abbrev pub in_places : (TypeModel → Value → Value) → List TypeModel → List Value → List Value
in_places w (t ∷ ts) (v ∷ vs) = w t v ∷ in_places w ts vs
in_places w _ _ = []

module _ (models : List ContainerModel) (conversions : ConversionsD) (relations : Relations) (default_of : ℕ → TypeModel → Value) where
  -- what a type writes of a value, where `default_of` gives what stated defaults are written as
  abbrev pub written : TypeModel → Value → Value
  written t v = value_writes models conversions relations default_of v (one_type t)

  abbrev pub part_of : Value → Part
  part_of v = record { value = v; writes = value_writes models conversions relations default_of v }

  -- a member as fields see it
  abbrev pub member_part_of : List ℕ × Value → MemberPart Part
  member_part_of e = record { name = e.0; key = part_of (text e.0); value = part_of e.1 }

  abbrev pub parts_of : Value → Parts Part
  parts_of (list xs) = list_parts (map part_of (values xs))
  parts_of (object ms) = object_parts (map member_part_of (entries ms))
  parts_of _ = no_parts

  pub record TypesAreWritten : Type 0 where
    pub boolean : (v : Value) → written boolean_type v ≡ v
    pub integer : (g : Range) (v : Value) → written (integer_type g) v ≡ v
    pub a_text : (v : Value) → written text_type v ≡ v
    pub native : (f : Format) (v : Value) → written (native_type f) v ≡ v
    pub any : (v : Value) → written any_type v ≡ v
    pub unit : (v : Value) → written unit_type v ≡ v
    pub option : (t : TypeModel) (v : Value) → written (option_type t) v ≡ (if is_null v then null else written t v)
    pub boxed : (t : TypeModel) (v : Value) → written (boxed_type t) v ≡ written t v
    pub vec : (t : TypeModel) (xs : Items) → written (vec_type t) (list xs) ≡ list (items (map (written t) (values xs)))
    pub set : (t : TypeModel) (xs : Items) → written (set_type t) (list xs) ≡ list (items (firsts_after [] (map (written t) (values xs))))
    pub map_of : (k t : TypeModel) (ms : Members)
        → written (map_type k t) (object ms) ≡ object (put_all (map (λ e. (text_of e.0 (written k (text e.0)), written t e.1)) (entries ms)) no_members)
    pub tuple : (ts : TypeModels) (xs : Items) → written (tuple_type ts) (list xs) ≡ list (items (in_places written (types_of ts) (values xs)))
    pub array : (t : TypeModel) (n : ℕ) (xs : Items) → written (array_type t n) (list xs) ≡ list (items (map (written t) (values xs)))

  -- the contents of variants, and the fields of structs
  pub record ContentsAreWritten : Type 0 where
    pub unnamed : (ts : List TypeModel) (xs : Items)
        → value_writes models conversions relations default_of (list xs) (places ts) ≡ list (items (in_places written ts (values xs)))
    pub named : (closed : Bool) (fs : List FieldModel) (ms : Members)
        → value_writes models conversions relations default_of (object ms) (named_fields closed fs)
        ≡ object (struct_written (leads_to_option models) default_of fs (map member_part_of (entries ms)))

  -- an item writes as its container says, where each type in it writes what it writes alone
  abbrev pub ItemsAreWritten : Type 0
  ItemsAreWritten =
      (n : List ℕ) (v : Value)
      → written (item_type n) v
      ≡ container_writes (leads_to_option models) default_of (value_reads models conversions relations v) v (parts_of v) (λ t. written t v) (container_named n models)

abbrev pub RowsOfWriting : Type 0
RowsOfWriting =
    (models : List ContainerModel) (conversions : ConversionsD) (relations : Relations) (default_of : ℕ → TypeModel → Value)
    → TypesAreWritten models conversions relations default_of
    × ContentsAreWritten models conversions relations default_of
    × (NoneReachesItself models → ItemsAreWritten models conversions relations default_of)
