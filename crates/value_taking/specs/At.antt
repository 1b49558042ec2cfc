-- What a value is read as, level by level, where no text is judged.
use Rattle.std.specs.Prelude.{ℕ, suc, ◌&&◌, ◌||◌, not, List, [], ◌∷◌, map, drop, length, Bool, true, false, Option, Some, None, if◌then◌else◌}
use Rattle.std.specs.List.{list_any, list_all}
use Rattle.json_value.specs.Value as value
use Rattle.json_value.specs.Value.{Value, text, list, object, values, entries}
use Rattle.model_defs.specs.Types.{TypeModel, boolean_type, integer_type, text_type, any_type, unit_type, vec_type, set_type, map_type, tuple_type, array_type, item_type, types_of}
use Rattle.model_defs.specs.Model.{FieldModel, VariantModel, TagModel, BodyModel, ContainerModel, ConversionsD, rule_of}
use Rattle.model_defs.specs.Layer.{Content, Judge, MemberPart, Parts, is_null, is_boolean, is_text, is_in_range, type_takes, content_takes, body_takes, enum_takes, container_takes, struct_takes, members_take, may_be_missing, present_type, variant_content, given_rule_agrees}
use Rattle.model_defs.specs.Reads.{allowed, leads_to_option, item_reads, value_reads, name_reads, parts_of}
use Rattle.example_defs.specs.Enough.{no_texts}
use Rattle.value_parts.specs.At.{Entry, Demand, each, by_place, fits}

pub record Tables : Type 0 where
  pub models : List ContainerModel
  pub conversions : ConversionsD

-- a value as a type that asks nothing of parts and items: no text has a format
abbrev pub scalar_takes : TypeModel → Value → Bool
scalar_takes boolean_type v = is_boolean v
scalar_takes (integer_type g) v = is_in_range g v
scalar_takes text_type v = is_text v
scalar_takes any_type v = true
scalar_takes unit_type v = is_null v
scalar_takes _ v = false

module _ (s : Tables) where
  abbrev pub judge : Value → Judge
  judge v = value_reads s.models s.conversions no_texts v

  abbrev pub parts : Value → Parts Judge
  parts v = parts_of s.models s.conversions no_texts v

  abbrev pub entry_part : Entry → MemberPart Judge
  entry_part e = record { name = e.0; key = name_reads s.models s.conversions no_texts e.0; value = judge e.1 }

  abbrev pub entry_parts : List Entry → List (MemberPart Judge)
  entry_parts es = map entry_part es

  -- a value as a type, with so many items that may still be entered
  abbrev pub type_at : ℕ → TypeModel → Value → Bool
  type_at k t v = type_takes no_texts v (parts v) (item_reads s.models s.conversions no_texts v (parts v) k) t

  abbrev pub item_at : ℕ → List ℕ → Value → Bool
  item_at k n v = item_reads s.models s.conversions no_texts v (parts v) k n

  abbrev pub content_at : ℕ → Content → Value → Bool
  content_at k c v = content_takes (leads_to_option s.models) (parts v) (λ t. type_at k t v) c

  abbrev pub body_at : ℕ → Bool → BodyModel → Value → Bool
  body_at k closed b v = body_takes (leads_to_option s.models) (parts v) (λ t. type_at k t v) closed b v

  abbrev pub rule_at : ContainerModel → Value → Bool
  rule_at m v = not m.try_from || given_rule_agrees no_texts v (rule_of m.name s.conversions.constraints)

  abbrev pub container_at : ℕ → ContainerModel → Value → Bool
  container_at k m v = body_at k m.closed m.body v && rule_at m v

  -- the item of a name, where there is one
  abbrev pub found_at : ℕ → Option ContainerModel → Value → Bool
  found_at k o v = container_takes (leads_to_option s.models) (parts v) (λ t. type_at k t v) no_texts s.conversions v o

  abbrev pub enum_at : ℕ → Bool → TagModel → List VariantModel → Value → Bool
  enum_at k closed tag ws v = enum_takes (leads_to_option s.models) (parts v) (λ t. type_at k t v) closed tag ws v

  abbrev pub untagged_at : ℕ → Bool → List VariantModel → Value → Bool
  untagged_at k closed ws v = list_any (λ w. content_at k (variant_content closed w) v) ws

  abbrev pub struct_at : Bool → List FieldModel → Value → Bool
  struct_at closed fs v = struct_takes (leads_to_option s.models) closed fs (parts v)

  abbrev pub members_at : Bool → List FieldModel → List Entry → Bool
  members_at closed fs es = members_take (leads_to_option s.models) closed fs (entry_parts es)

  -- a part of a value: all items may be entered at it
  abbrev pub part_at : TypeModel → Value → Bool
  part_at t v = type_at (allowed s.models) t v

  -- ---- lists: each item as one type, or each place as its own while there are types; of a length, or of any

  abbrev pub in_front : List TypeModel → List Value → Bool
  in_front (t ∷ ts) (v ∷ vs) = part_at t v && in_front ts vs
  in_front _ _ = true

  abbrev pub demanded_from : Demand → ℕ → List Value → Bool
  demanded_from (each t) i vs = list_all (part_at t) vs
  demanded_from (by_place ts) i vs = in_front (drop i ts) vs

  abbrev pub demanded : Demand → Option ℕ → Value → Bool
  demanded d n (list xs) = fits n (length (values xs)) && demanded_from d 0 (values xs)
  demanded d n _ = false

  -- ---- maps: the name as a text, and the value

  abbrev pub pair_at : TypeModel → TypeModel → Entry → Bool
  pair_at k t e = part_at k (text e.0) && part_at t e.1

  abbrev pub pairs_at : TypeModel → TypeModel → List Entry → Bool
  pairs_at k t es = list_all (pair_at k t) es

  abbrev pub map_at : TypeModel → TypeModel → Value → Bool
  map_at k t (object ms) = pairs_at k t (entries ms)
  map_at k t _ = false

  abbrev pub rest_at : TypeModel → List Entry → Bool
  rest_at (map_type k t) es = pairs_at k t es
  rest_at _ es = false

  -- ---- a value as a type that is no option and no box

  abbrev pub leaf_at : ℕ → TypeModel → Value → Bool
  leaf_at k (vec_type t) v = demanded (each t) None v
  leaf_at k (set_type t) v = demanded (each t) None v
  leaf_at k (map_type u t) v = map_at u t v
  leaf_at k (tuple_type ts) v = demanded (by_place (types_of ts)) (Some (length (types_of ts))) v
  leaf_at k (array_type t n) v = demanded (each t) (Some n) v
  leaf_at k (item_type n) v = item_at k n v
  leaf_at k t v = scalar_takes t v

  -- one unnamed field
  abbrev pub only_at : ℕ → List FieldModel → Value → Bool
  only_at k (f ∷ []) v = type_at k f.field_type v
  only_at k _ v = false

  -- ---- fields, each with the members of its place

  abbrev pub slot_at : FieldModel → List Entry → Bool
  slot_at f [] = may_be_missing (leads_to_option s.models) f
  slot_at f (e ∷ []) = part_at (present_type f) e.1
  slot_at f (d ∷ e ∷ es) = false

  abbrev pub field_at : FieldModel → List Entry → List Entry → Bool
  field_at f unnamed own = if f.is_rest then rest_at f.field_type unnamed else slot_at f own

  -- the fields from a place on
  abbrev pub fields_from : (ℕ → List Entry) → List Entry → ℕ → List FieldModel → Bool
  fields_from own unnamed i [] = true
  fields_from own unnamed i (f ∷ fs) = field_at f unnamed (own i) && fields_from own unnamed (suc i) fs
