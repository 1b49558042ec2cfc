-- Reading at a value, level by level, where it is known which defaults were entered on the way.
use Rattle.std.specs.Prelude.{ℕ, zero, suc, ◌==◌, List, [], ◌∷◌, map, drop, length, Bool, true, false, Option, Some, None, if◌then◌else◌, slice_get}
use Rattle.json_value.specs.Value as value
use Rattle.json_value.specs.Value.{Value, text, list, object, values, entries}
use Rattle.schema_defs.specs.Texts.{Relations}
use Rattle.model_defs.specs.Types.{TypeModel, boolean_type, integer_type, text_type, native_type, any_type, unit_type, option_type, boxed_type, vec_type, set_type, map_type, tuple_type, array_type, item_type, outside_type, types_of}
use Rattle.model_defs.specs.Model.{FieldModel, VariantModel, TagModel, BodyModel, ContainerModel, ConversionsD}
use Rattle.model_defs.specs.Layer.{Content, MemberPart}
use Rattle.model_defs.specs.Reads.{allowed}
use Rattle.typed_defs.specs.Typed as typed
use Rattle.typed_defs.specs.Typed.{Typed, typeds, pairs}
use Rattle.typed_defs.specs.Written.{written}
use Rattle.reading_defs.specs.Reading.{Read, taken, stopped, Reader, read_map, items_read, places_read, pairs_read, pair_read, map_read, rest_read, keep_apart, absent, members_read, struct_read, item_reading, type_within, reader_within, name_reader, value_reader, readers_of, default_inside, content_read, untagged_read, enum_read, body_read, container_read}
use Rattle.value_parts.specs.Leaves.{scalar_read}

-- the tables, and the places of stated defaults entered on the way, with the number of those that may still be
pub record Setting : Type 0 where
  pub models : List ContainerModel
  pub conversions : ConversionsD
  pub relations : Relations
  pub more : ℕ
  pub entered : List ℕ

abbrev pub Entry : Type 0
Entry = List ℕ × Value

module _ (s : Setting) where
  abbrev pub default_of : ℕ → TypeModel → Read Typed
  default_of = default_inside s.models s.conversions s.relations s.more s.entered

  abbrev pub reader : Value → Reader
  reader v = value_reader s.models s.conversions s.relations default_of v

  abbrev pub entry_part : Entry → MemberPart Reader
  entry_part e = record { name = e.0; key = name_reader s.models s.conversions s.relations default_of e.0; value = reader e.1 }

  abbrev pub entry_parts : List Entry → List (MemberPart Reader)
  entry_parts es = map entry_part es

  -- a value as a type, with so many items that may still be entered
  abbrev pub type_at : ℕ → TypeModel → Value → Read Typed
  type_at k t v = type_within s.models s.conversions s.relations default_of v (readers_of s.models s.conversions s.relations default_of v) k t

  abbrev pub item_at : ℕ → List ℕ → Value → Read Typed
  item_at k n v = item_reading s.models s.conversions s.relations default_of v (readers_of s.models s.conversions s.relations default_of v) k n

  abbrev pub content_at : ℕ → Content → Value → Read (List Typed)
  content_at k c v = content_read default_of (absent s.models) s.relations s.conversions v (readers_of s.models s.conversions s.relations default_of v) (λ t. type_at k t v) c

  abbrev pub container_at : ℕ → Option ContainerModel → Value → Read Typed
  container_at k o v = container_read default_of (absent s.models) s.relations s.conversions v (readers_of s.models s.conversions s.relations default_of v) (λ t. type_at k t v) o

  abbrev pub body_at : ℕ → Bool → BodyModel → Value → Read Typed
  body_at k closed b v = body_read default_of (absent s.models) s.relations s.conversions v (readers_of s.models s.conversions s.relations default_of v) (λ t. type_at k t v) closed b

  abbrev pub enum_at : ℕ → Bool → TagModel → List VariantModel → Value → Read Typed
  enum_at k closed tag ws v = enum_read default_of (absent s.models) s.relations s.conversions v (readers_of s.models s.conversions s.relations default_of v) (λ t. type_at k t v) closed tag ws

  abbrev pub untagged_at : ℕ → Bool → ℕ → List VariantModel → Value → Read Typed
  untagged_at k closed i ws v = untagged_read default_of (absent s.models) s.relations s.conversions v (readers_of s.models s.conversions s.relations default_of v) (λ t. type_at k t v) closed i ws

  abbrev pub struct_at : Bool → List FieldModel → Value → Read (List Typed)
  struct_at closed fs v = struct_read default_of (absent s.models) closed fs (readers_of s.models s.conversions s.relations default_of v)

  abbrev pub members_at : Bool → List FieldModel → List Entry → Read (List Typed)
  members_at closed fs es = members_read default_of (absent s.models) closed fs (entry_parts es)

  abbrev pub pairs_at : TypeModel → TypeModel → List Entry → Read (List (Typed × Typed))
  pairs_at k t es = pairs_read k t (entry_parts es)

  abbrev pub map_at : TypeModel → TypeModel → Value → Read (List (Typed × Typed))
  map_at k t (object ms) = pairs_at k t (entries ms)
  map_at k t _ = stopped []

  abbrev pub rest_at : TypeModel → List Entry → Read Typed
  rest_at t es = rest_read t (entry_parts es)

-- ---- lists: each item as one type, or each place as its own; of a length, or of any

pub data Demand : Type 0 where
  each : TypeModel → Demand
  by_place : List TypeModel → Demand

abbrev pub demand_at : Demand → ℕ → Option TypeModel
demand_at (each t) i = Some t
demand_at (by_place ts) i = slice_get ts i

abbrev pub wanted : Demand → Option ℕ
wanted (each t) = None
wanted (by_place ts) = Some (length ts)

abbrev pub fits : Option ℕ → ℕ → Bool
fits None n = true
fits (Some m) n = n == m

module _ (s : Setting) where
  abbrev pub demanded_from : Demand → ℕ → List Value → Read (List Typed)
  demanded_from (each t) i vs = items_read i t (map (reader s) vs)
  demanded_from (by_place ts) i vs = places_read i (drop i ts) (map (reader s) vs)

  abbrev pub demanded : Demand → Option ℕ → Value → Read (List Typed)
  demanded d n (list xs) = if fits n (length (values xs)) then demanded_from d 0 (values xs) else stopped []
  demanded d n _ = stopped []

  -- a value as a type that is no option and no box
  abbrev pub leaf_at : ℕ → TypeModel → Value → Read Typed
  leaf_at k (vec_type t) v = read_map (λ xs. typed.list (typeds xs)) (demanded (each t) None v)
  leaf_at k (set_type t) v = read_map (λ xs. typed.list (typeds (keep_apart (written s.models t) [] xs))) (demanded (each t) None v)
  leaf_at k (map_type t u) v = read_map (λ es. typed.map_of (pairs es)) (map_at s t u v)
  leaf_at k (tuple_type ts) v = read_map (λ xs. typed.list (typeds xs)) (demanded (by_place (types_of ts)) (Some (length (types_of ts))) v)
  leaf_at k (array_type t n) v = read_map (λ xs. typed.list (typeds xs)) (demanded (each t) (Some n) v)
  leaf_at k (item_type n) v = item_at s k n v
  leaf_at k t v = scalar_read s.relations t v
