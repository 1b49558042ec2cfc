-- Typed values of a type: where what is written reads back, those that reading answers are among them (typed_laws);
-- by some tables they are not.
use Rattle.std.specs.Prelude.{ℕ, ◌&&◌, ◌||◌, not, ◌==◌, List, [], ◌∷◌, length, map, slice_get, Bool, true, false, Option, Some, None}
use Rattle.std.specs.List.{list_all, list_any}
use Rattle.std.specs.Ordering.{nat_cmp, is_lt}
use Rattle.std.specs.Cmp.Lexicographic.{slice_cmp}
use Rattle.json_value.specs.Value.{Value, same}
use Rattle.schema_defs.specs.Integers.{in_range}
use Rattle.schema_defs.specs.Texts.{Relations}
use Rattle.model_defs.specs.Types.{TypeModel, boolean_type, integer_type, text_type, native_type, any_type, unit_type, option_type, boxed_type, vec_type, set_type, map_type, tuple_type, array_type, item_type, types_of}
use Rattle.model_defs.specs.Model.{Style, struct_style, tuple_style, newtype_style, unit_style, FieldModel, VariantModel, BodyModel, struct_model, enum_model, ContainerModel, ConversionsD, container_named, rule_of}
use Rattle.model_defs.specs.Layer.{given_rule_agrees}
use Rattle.model_defs.specs.Settled.{text_of}
use Rattle.typed_defs.specs.Typed as typed
use Rattle.typed_defs.specs.Typed.{Typed, Typeds, TypedPairs, no_more, typed_then, no_pairs, pair_then}
use Rattle.typed_defs.specs.Written.{Writer, writes, field_types}

-- a part: which types it is of, and what it is written as
pub record Held : Type 0 where
  pub is_of : TypeModel → Bool
  pub writes : Writer

-- a typed value, its parts seen as what they hold
pub data Insides : Type 0 where
  scalar : Typed → Insides
  nothing : Insides
  one : Held → Insides
  several : List Held → Insides
  by_key : List (Held × Held) → Insides
  fields : List Held → Insides
  chosen : ℕ → List Held → Insides
  inner : Held → Insides

-- ---- scalars

module _ (relations : Relations) where
  abbrev pub scalar_is_of : Typed → TypeModel → Bool
  scalar_is_of (typed.boolean b) boolean_type = true
  scalar_is_of (typed.integer z) (integer_type g) = in_range z g
  scalar_is_of (typed.text s) text_type = true
  scalar_is_of (typed.text s) (native_type f) = relations.has_format f s
  scalar_is_of (typed.any v) any_type = true
  scalar_is_of typed.unit unit_type = true
  scalar_is_of _ _ = false

abbrev pub is_scalar_of : Relations → Insides → TypeModel → Bool
is_scalar_of r (scalar x) t = scalar_is_of r x t
is_scalar_of r _ t = false

-- ---- lists, sets and maps

abbrev pub all_are_of : TypeModel → Insides → Bool
all_are_of t (several hs) = list_all (λ h. h.is_of t) hs
all_are_of t _ = false

-- no two are written alike
abbrev pub differ_from : List Value → List Value → Bool
differ_from seen [] = true
differ_from seen (v ∷ vs) = not (list_any (same v) seen) && differ_from (v ∷ seen) vs

abbrev pub written_apart : TypeModel → Insides → Bool
written_apart t (several hs) = differ_from [] (map (λ h. h.writes t) hs)
written_apart t _ = false

abbrev pub has_length : ℕ → Insides → Bool
has_length n (several hs) = length hs == n
has_length n _ = false

abbrev pub in_places : List TypeModel → List Held → Bool
in_places [] [] = true
in_places (t ∷ ts) (h ∷ hs) = h.is_of t && in_places ts hs
in_places _ _ = false

abbrev pub are_in_places : List TypeModel → Insides → Bool
are_in_places ts (several hs) = in_places ts hs
are_in_places ts _ = false

abbrev pub names_rise : List (List ℕ) → Bool
names_rise [] = true
names_rise (m ∷ []) = true
names_rise (m ∷ n ∷ ns) = is_lt (slice_cmp nat_cmp m n) && names_rise (n ∷ ns)

-- the pairs stand in order of what their names are written as
abbrev pub pairs_are_of : TypeModel → TypeModel → List (Held × Held) → Bool
pairs_are_of k t hs = list_all (λ h. h.0.is_of k && h.1.is_of t) hs && names_rise (map (λ h. text_of [] (h.0.writes k)) hs)

abbrev pub is_map_of : TypeModel → TypeModel → Insides → Bool
is_map_of k t (by_key hs) = pairs_are_of k t hs
is_map_of k t _ = false

abbrev pub is_option_of : TypeModel → Insides → Bool
is_option_of t nothing = true
is_option_of t (one h) = h.is_of t
is_option_of t _ = false

-- ---- items

abbrev pub content_is_of : Style → List FieldModel → List Held → Bool
content_is_of struct_style fs hs = in_places (field_types fs) hs
content_is_of tuple_style fs hs = in_places (field_types fs) hs
content_is_of newtype_style (f ∷ []) hs = in_places (f.field_type ∷ []) hs
content_is_of newtype_style _ hs = false
content_is_of unit_style fs [] = true
content_is_of unit_style fs _ = false

abbrev pub variant_is_of : Option VariantModel → List Held → Bool
variant_is_of None hs = false
variant_is_of (Some w) hs = content_is_of w.style w.fields hs

module _ (relations : Relations) (conversions : ConversionsD) where
  -- with `try_from` what it is written as meets the rule
  abbrev pub newtype_is_of : ContainerModel → FieldModel → Held → Bool
  newtype_is_of m f h = h.is_of f.field_type && (not m.try_from || given_rule_agrees relations (h.writes f.field_type) (rule_of m.name conversions.constraints))

  abbrev pub body_is_of : ContainerModel → BodyModel → Insides → Bool
  body_is_of m (struct_model struct_style fs) (fields hs) = in_places (field_types fs) hs
  body_is_of m (struct_model newtype_style (f ∷ [])) (inner h) = newtype_is_of m f h
  body_is_of m (enum_model tag ws) (chosen i hs) = variant_is_of (slice_get ws i) hs
  body_is_of m _ _ = false

  abbrev pub item_is_of : Option ContainerModel → Insides → Bool
  item_is_of None i = false
  item_is_of (Some m) i = body_is_of m m.body i

-- ---- types

module _ (models : List ContainerModel) (conversions : ConversionsD) (relations : Relations) where
  abbrev pub type_is_of : Insides → TypeModel → Bool
  type_is_of i (option_type t) = is_option_of t i
  type_is_of i (boxed_type t) = type_is_of i t
  type_is_of i (vec_type t) = all_are_of t i
  type_is_of i (set_type t) = all_are_of t i && written_apart t i
  type_is_of i (map_type k t) = is_map_of k t i
  type_is_of i (tuple_type ts) = are_in_places (types_of ts) i
  type_is_of i (array_type t n) = has_length n i && all_are_of t i
  type_is_of i (item_type n) = item_is_of relations conversions (container_named n models) i
  type_is_of i t = is_scalar_of relations i t

  abbrev mutual
    pub is_typed : Typed → TypeModel → Bool
    is_typed typed.unit = type_is_of (scalar typed.unit)
    is_typed (typed.boolean b) = type_is_of (scalar (typed.boolean b))
    is_typed (typed.integer z) = type_is_of (scalar (typed.integer z))
    is_typed (typed.text s) = type_is_of (scalar (typed.text s))
    is_typed (typed.any v) = type_is_of (scalar (typed.any v))
    is_typed typed.none = type_is_of nothing
    is_typed (typed.some x) = type_is_of (one (record { is_of = is_typed x; writes = writes models x }))
    is_typed (typed.list xs) = type_is_of (several (each_held xs))
    is_typed (typed.map_of xs) = type_is_of (by_key (pairs_held xs))
    is_typed (typed.struct xs) = type_is_of (fields (each_held xs))
    is_typed (typed.variant i xs) = type_is_of (chosen i (each_held xs))
    is_typed (typed.newtype x) = type_is_of (inner (record { is_of = is_typed x; writes = writes models x }))

    pub each_held : Typeds → List Held
    each_held no_more = []
    each_held (typed_then x xs) = record { is_of = is_typed x; writes = writes models x } ∷ each_held xs

    pub pairs_held : TypedPairs → List (Held × Held)
    pairs_held no_pairs = []
    pairs_held (pair_then k x xs) = (record { is_of = is_typed k; writes = writes models k }, record { is_of = is_typed x; writes = writes models x }) ∷ pairs_held xs

  -- whether the typed value is one of the type
  abbrev pub is_of_type : TypeModel → Typed → Bool
  is_of_type t x = is_typed x t
