-- Reading, type by type: what a type says of a value, in terms of what types say of its parts.
use Rattle.std.specs.Prelude.{◌≡◌, ℕ, ◌&&◌, ◌||◌, ◌==◌, List, [], ◌∷◌, length, map, Bool, true, false}
use Rattle.std.specs.List.{list_all}
use Rattle.json_value.specs.Value.{Value, text, list, object, values, entries}
use Rattle.schema_defs.specs.declared.Format.{Format}
use Rattle.schema_defs.specs.Texts.{Relations}
use Rattle.schema_defs.specs.Integers.{Range}
use Rattle.model_defs.specs.Types.{TypeModel, TypeModels, types_of, boolean_type, integer_type, text_type, native_type, any_type, unit_type, option_type, boxed_type, vec_type, set_type, map_type, tuple_type, array_type, outside_type}
use Rattle.model_defs.specs.Model.{FieldModel, ContainerModel, ConversionsD}
use Rattle.model_defs.specs.Layer.{Judge, MemberPart, one_type, places, named_fields, members_take, is_boolean, is_in_range, is_text, has_the_format, is_null}
use Rattle.model_defs.specs.Reads.{reads, value_reads, leads_to_option}

-- a list, each item of which passes
abbrev pub is_list_of : (Value → Bool) → Value → Bool
is_list_of p (list xs) = list_all p (values xs)
is_list_of p _ = false

-- an object, each member of which passes
abbrev pub is_object_of : (List ℕ × Value → Bool) → Value → Bool
is_object_of p (object ms) = list_all p (entries ms)
is_object_of p _ = false

abbrev pub one_to_one : (TypeModel → Value → Bool) → List TypeModel → List Value → Bool
one_to_one p [] [] = true
one_to_one p (t ∷ ts) (v ∷ vs) = p t v && one_to_one p ts vs
one_to_one p _ _ = false

-- a list with an item for each type, in order
abbrev pub is_tuple_of : (TypeModel → Value → Bool) → List TypeModel → Value → Bool
is_tuple_of p ts (list xs) = one_to_one p ts (values xs)
is_tuple_of p ts _ = false

abbrev pub has_length : ℕ → Value → Bool
has_length n (list xs) = length (values xs) == n
has_length n _ = false

module _ (models : List ContainerModel) (conversions : ConversionsD) (relations : Relations) where
  abbrev pub read : TypeModel → Value → Bool
  read t v = reads models conversions relations t v

  -- a member as fields see it
  abbrev pub part_of : List ℕ × Value → MemberPart Judge
  part_of e = record { name = e.0; key = value_reads models conversions relations (text e.0); value = value_reads models conversions relations e.1 }

  abbrev pub is_struct_of : Bool → List FieldModel → Value → Bool
  is_struct_of closed fs (object ms) = members_take (leads_to_option models) closed fs (map part_of (entries ms))
  is_struct_of closed fs _ = false

  pub record TypesAreRead : Type 0 where
    pub boolean : (v : Value) → read boolean_type v ≡ is_boolean v
    pub integer : (g : Range) (v : Value) → read (integer_type g) v ≡ is_in_range g v
    pub a_text : (v : Value) → read text_type v ≡ is_text v
    pub native : (f : Format) (v : Value) → read (native_type f) v ≡ has_the_format relations f v
    pub any : (v : Value) → read any_type v ≡ true
    pub unit : (v : Value) → read unit_type v ≡ is_null v
    pub option : (t : TypeModel) (v : Value) → read (option_type t) v ≡ (is_null v || read t v)
    pub boxed : (t : TypeModel) (v : Value) → read (boxed_type t) v ≡ read t v
    pub vec : (t : TypeModel) (v : Value) → read (vec_type t) v ≡ is_list_of (read t) v
    pub set : (t : TypeModel) (v : Value) → read (set_type t) v ≡ is_list_of (read t) v
    pub map_of : (k t : TypeModel) (v : Value) → read (map_type k t) v ≡ is_object_of (λ e. read k (text e.0) && read t e.1) v
    pub tuple : (ts : TypeModels) (v : Value) → read (tuple_type ts) v ≡ is_tuple_of read (types_of ts) v
    pub array : (t : TypeModel) (n : ℕ) (v : Value) → read (array_type t n) v ≡ (has_length n v && is_list_of (read t) v)
    pub outside : (v : Value) → read outside_type v ≡ false

  -- the contents of variants, and the fields of structs
  pub record ContentsAreRead : Type 0 where
    pub one : (t : TypeModel) (v : Value) → value_reads models conversions relations v (one_type t) ≡ read t v
    pub unnamed : (ts : List TypeModel) (v : Value) → value_reads models conversions relations v (places ts) ≡ is_tuple_of read ts v
    pub named : (closed : Bool) (fs : List FieldModel) (v : Value) → value_reads models conversions relations v (named_fields closed fs) ≡ is_struct_of closed fs v

abbrev pub RowsOfReading : Type 0
RowsOfReading =
    (models : List ContainerModel) (conversions : ConversionsD) (relations : Relations)
    → TypesAreRead models conversions relations × ContentsAreRead models conversions relations
