-- What a typed value is written as: a function of its type and of itself (serde.rs/field-attrs, serde.rs/enum-representations).
-- A value that is of another type is written as null.
use Rattle.std.specs.Prelude.{ℕ, ℤ, pos, negsuc, nat_lt, ◌&&◌, List, [], ◌∷◌, map, slice_get, Bool, true, false, Option, Some, None, if◌then◌else◌}
use Rattle.json_value.specs.Value as value
use Rattle.json_value.specs.Value.{Value, Members, null, number, object, member, no_members, items}
use Rattle.model_defs.specs.Types.{TypeModel, option_type, boxed_type, vec_type, set_type, map_type, tuple_type, array_type, item_type, types_of}
use Rattle.model_defs.specs.Model.{Style, struct_style, tuple_style, newtype_style, unit_style, FieldModel, VariantModel, TagModel, external_tag, internal_tag, adjacent_tag, untagged, BodyModel, struct_model, enum_model, ContainerModel, container_named}
use Rattle.model_defs.specs.Settled.{put, put_all, text_of}
use Rattle.typed_defs.specs.Typed.{Typed, Typeds, TypedPairs, unit, boolean, integer, text, any, none, some, list, map_of, struct, variant, newtype, no_more, typed_then, no_pairs, pair_then}

-- what a typed value is written as, by its type
abbrev pub Writer : Type 0
Writer = TypeModel → Value

-- a field's value: whether it counts as empty, what it is written as, and what its pairs are written as where it is a map
pub record FieldPart : Type 0 where
  pub is_empty : Bool
  pub writes : Writer
  pub rest : TypeModel → List (List ℕ × Value)

-- a typed value, its parts seen as what they are written as
pub data Parts : Type 0 where
  whole : Value → Parts
  nothing : Parts
  one : Writer → Parts
  several : List Writer → Parts
  by_key : List (Writer × Writer) → Parts
  fields : List FieldPart → Parts
  chosen : ℕ → List FieldPart → Parts
  inner : Writer → Parts

-- a whole number from the least i64 to the greatest u64; JSON values hold no other
abbrev pub json_number : ℤ → Value
json_number (pos n) = if nat_lt n 18446744073709551616 then number (pos n) else null
json_number (negsuc n) = if nat_lt n 9223372036854775808 then number (negsuc n) else null

-- ---- lists, places and maps

abbrev pub each_writes : TypeModel → Parts → Value
each_writes t (several ws) = value.list (items (map (λ w. w t) ws))
each_writes t _ = null

abbrev pub by_places : List TypeModel → List Writer → List Value
by_places (t ∷ ts) (w ∷ ws) = w t ∷ by_places ts ws
by_places _ _ = []

abbrev pub places_write : List TypeModel → Parts → Value
places_write ts (several ws) = value.list (items (by_places ts ws))
places_write ts _ = null

-- a name is the text that the key is written as
abbrev pub pairs_write : TypeModel → TypeModel → List (Writer × Writer) → List (List ℕ × Value)
pairs_write k t ws = map (λ w. (text_of [] (w.0 k), w.1 t)) ws

abbrev pub map_writes : TypeModel → TypeModel → Parts → Value
map_writes k t (by_key ws) = object (put_all (pairs_write k t ws) no_members)
map_writes k t _ = null

-- ---- fields

-- a field is let out where it counts as empty and has a skip condition
abbrev pub field_writes : FieldModel → FieldPart → List (List ℕ × Value)
field_writes f p = if f.skip && p.is_empty then [] else (f.serialize_name, p.writes f.field_type) ∷ []

abbrev pub fields_write : List FieldModel → List FieldPart → Members → Members
fields_write (f ∷ fs) (p ∷ ps) done = fields_write fs ps (if f.is_rest then done else put_all (field_writes f p) done)
fields_write _ _ done = done

abbrev pub rests_write : List FieldModel → List FieldPart → Members → Members
rests_write (f ∷ fs) (p ∷ ps) done = rests_write fs ps (if f.is_rest then put_all (p.rest f.field_type) done else done)
rests_write _ _ done = done

-- the rest first, so that a field's member takes the place of one of the rest
abbrev pub members_written : List FieldModel → List FieldPart → Members
members_written fs ps = fields_write fs ps (rests_write fs ps no_members)

abbrev pub field_types : List FieldModel → List TypeModel
field_types fs = map (λ f. f.field_type) fs

abbrev pub first_writes : List FieldModel → List FieldPart → Value
first_writes (f ∷ []) (p ∷ []) = p.writes f.field_type
first_writes _ _ = null

abbrev pub content_writes : Style → List FieldModel → List FieldPart → Value
content_writes struct_style fs ps = object (members_written fs ps)
content_writes tuple_style fs ps = value.list (items (by_places (field_types fs) (map (λ p. p.writes) ps)))
content_writes newtype_style fs ps = first_writes fs ps
content_writes unit_style fs ps = null

-- ---- variants

abbrev pub is_unit_style : Style → Bool
is_unit_style unit_style = true
is_unit_style struct_style = false
is_unit_style tuple_style = false
is_unit_style newtype_style = false

-- the name alone, or the one member of that name
abbrev pub by_name : VariantModel → Value → Value
by_name w content = if is_unit_style w.style then value.text w.serialize_name else object (member w.serialize_name content no_members)

-- the tag, beside the members of the contents
abbrev pub beside_tag : List ℕ → List ℕ → Value → Value
beside_tag tag n (object ms) = object (put tag (value.text n) ms)
beside_tag tag n null = object (put tag (value.text n) no_members)
beside_tag tag n _ = null

-- the tag, and beside it the contents, where there are some
abbrev pub beside_content : List ℕ → List ℕ → VariantModel → Value → Value
beside_content tag content w c = object (put tag (value.text w.serialize_name) (if is_unit_style w.style then no_members else put content c no_members))

abbrev pub wrapped : TagModel → VariantModel → Value → Value
wrapped external_tag w c = by_name w c
wrapped (internal_tag tag) w c = beside_tag tag w.serialize_name c
wrapped (adjacent_tag tag content) w c = beside_content tag content w c
wrapped untagged w c = c

abbrev pub variant_writes : TagModel → VariantModel → List FieldPart → Value
variant_writes tag w ps = wrapped tag w (content_writes w.style w.fields ps)

abbrev pub chosen_writes : TagModel → Option VariantModel → List FieldPart → Value
chosen_writes tag None ps = null
chosen_writes tag (Some w) ps = variant_writes tag w ps

-- ---- items

abbrev pub struct_writes : Style → List FieldModel → Parts → Value
struct_writes struct_style fs (fields ps) = object (members_written fs ps)
struct_writes newtype_style (f ∷ []) (inner w) = w f.field_type
struct_writes _ _ _ = null

abbrev pub enum_writes : TagModel → List VariantModel → Parts → Value
enum_writes tag ws (chosen i ps) = chosen_writes tag (slice_get ws i) ps
enum_writes tag ws _ = null

abbrev pub body_writes : BodyModel → Parts → Value
body_writes (struct_model style fs) p = struct_writes style fs p
body_writes (enum_model tag ws) p = enum_writes tag ws p

abbrev pub item_writes : Option ContainerModel → Parts → Value
item_writes None p = null
item_writes (Some m) p = body_writes m.body p

-- ---- types

abbrev pub option_writes : TypeModel → Parts → Value
option_writes t (one w) = w t
option_writes t _ = null

abbrev pub scalar_writes : Parts → Value
scalar_writes (whole v) = v
scalar_writes _ = null

-- ---- fields of typed values

abbrev pub counts_as_empty : Typed → Bool
counts_as_empty none = true
counts_as_empty (list no_more) = true
counts_as_empty (map_of no_pairs) = true
counts_as_empty _ = false

-- the pairs of a rest
abbrev pub rest_writes : List (Writer × Writer) → TypeModel → List (List ℕ × Value)
rest_writes ws (map_type k t) = pairs_write k t ws
rest_writes ws _ = []

-- ---- typed values

module _ (models : List ContainerModel) where
  abbrev pub type_writes : Parts → TypeModel → Value
  type_writes p (option_type t) = option_writes t p
  type_writes p (boxed_type t) = type_writes p t
  type_writes p (vec_type t) = each_writes t p
  type_writes p (set_type t) = each_writes t p
  type_writes p (map_type k t) = map_writes k t p
  type_writes p (tuple_type ts) = places_write (types_of ts) p
  type_writes p (array_type t n) = each_writes t p
  type_writes p (item_type n) = item_writes (container_named n models) p
  type_writes p _ = scalar_writes p

  abbrev mutual
    pub writes : Typed → Writer
    writes unit = type_writes (whole null)
    writes (boolean b) = type_writes (whole (value.boolean b))
    writes (integer z) = type_writes (whole (json_number z))
    writes (text s) = type_writes (whole (value.text s))
    writes (any v) = type_writes (whole v)
    writes none = type_writes nothing
    writes (some x) = type_writes (one (writes x))
    writes (list xs) = type_writes (several (each_of xs))
    writes (map_of xs) = type_writes (by_key (pairs_in xs))
    writes (struct xs) = type_writes (fields (fields_of xs))
    writes (variant i xs) = type_writes (chosen i (fields_of xs))
    writes (newtype x) = type_writes (inner (writes x))

    pub each_of : Typeds → List Writer
    each_of no_more = []
    each_of (typed_then x xs) = writes x ∷ each_of xs

    pub pairs_in : TypedPairs → List (Writer × Writer)
    pairs_in no_pairs = []
    pairs_in (pair_then k x xs) = (writes k, writes x) ∷ pairs_in xs

    pub rest_of : Typed → TypeModel → List (List ℕ × Value)
    rest_of (map_of xs) = rest_writes (pairs_in xs)
    rest_of _ = λ t. []

    pub fields_of : Typeds → List FieldPart
    fields_of no_more = []
    fields_of (typed_then x xs) = record { is_empty = counts_as_empty x; writes = writes x; rest = rest_of x } ∷ fields_of xs

  -- the parts of a typed value
  abbrev pub parts_of : Typed → Parts
  parts_of unit = whole null
  parts_of (boolean b) = whole (value.boolean b)
  parts_of (integer z) = whole (json_number z)
  parts_of (text s) = whole (value.text s)
  parts_of (any v) = whole v
  parts_of none = nothing
  parts_of (some x) = one (writes x)
  parts_of (list xs) = several (each_of xs)
  parts_of (map_of xs) = by_key (pairs_in xs)
  parts_of (struct xs) = fields (fields_of xs)
  parts_of (variant i xs) = chosen i (fields_of xs)
  parts_of (newtype x) = inner (writes x)

  -- what the typed value is written as
  abbrev pub written : TypeModel → Typed → Value
  written t x = writes x t
