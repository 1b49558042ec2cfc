-- The fewest rounds in which each type is built, where it is known in how few each item is. None: it is built in no number of rounds.
use Rattle.std.specs.Prelude.{ℕ, suc, ◌==◌, nat_eq, nat_le, List, [], ◌∷◌, ◌++◌, Bool, true, false, Option, Some, None, if◌then◌else◌}
use Rattle.model_defs.specs.Types.{TypeModel, TypeModels, no_types, type_then, boolean_type, integer_type, text_type, native_type, any_type, unit_type, option_type, boxed_type, vec_type, set_type, map_type, tuple_type, array_type, item_type, outside_type, types}
use Rattle.model_defs.specs.Model.{struct_style, tuple_style, newtype_style, unit_style, FieldModel, VariantModel, TagModel, external_tag, internal_tag, adjacent_tag, untagged, BodyModel, struct_model, enum_model, ContainerModel}
use Rattle.model_defs.specs.Layer.{Content, one_type, places, named_fields, may_be_missing, present_type, variant_content, is_unit}
use Rattle.example_defs.specs.Built.{has_number, found_name, inner_type}

abbrev pub Rounds : Type 0
Rounds = Option ℕ

-- one round more
abbrev pub later : Rounds → Rounds
later None = None
later (Some n) = Some (suc n)

abbrev pub greater : ℕ → ℕ → ℕ
greater a b = if nat_le a b then b else a

abbrev pub lesser : ℕ → ℕ → ℕ
lesser a b = if nat_le a b then a else b

-- those in which both are built
abbrev pub both : Rounds → Rounds → Rounds
both (Some a) (Some b) = Some (greater a b)
both _ _ = None

-- those in which one of the two is built
abbrev pub either : Rounds → Rounds → Rounds
either None b = b
either (Some a) None = Some a
either (Some a) (Some b) = Some (lesser a b)

abbrev pub is_never : Rounds → Bool
is_never None = true
is_never (Some n) = false

abbrev pub same_rounds : Rounds → Rounds → Bool
same_rounds None b = is_never b
same_rounds (Some a) None = false
same_rounds (Some a) (Some b) = nat_eq a b

-- before the first round, or never
abbrev pub before_first : Bool → Rounds
before_first b = if b then Some 0 else None

-- in the first round, or never
abbrev pub in_first : Bool → Rounds
in_first b = if b then Some 1 else None

-- where there is a name
abbrev pub if_found : Option (List ℕ) → Rounds → Rounds
if_found None r = None
if_found (Some n) r = r

-- whether these are no more than so many
abbrev pub are_within : Rounds → ℕ → Bool
are_within None n = false
are_within (Some k) n = nat_le k n

module _ (item : List ℕ → Rounds) where
  abbrev mutual
    pub type_fewest : TypeModel → Rounds
    type_fewest boolean_type = Some 1
    type_fewest (integer_type g) = in_first (has_number g)
    type_fewest text_type = Some 1
    type_fewest (native_type f) = None
    type_fewest any_type = Some 1
    type_fewest unit_type = Some 1
    type_fewest (option_type t) = Some 1
    type_fewest (boxed_type t) = later (type_fewest t)
    type_fewest (vec_type t) = Some 1
    type_fewest (set_type t) = Some 1
    type_fewest (map_type k t) = Some 1
    type_fewest (tuple_type ts) = later (places_fewest ts)
    type_fewest (array_type t n) = if n == 0 then Some 1 else later (type_fewest t)
    type_fewest (item_type n) = item n
    type_fewest outside_type = None

    pub places_fewest : TypeModels → Rounds
    places_fewest no_types = Some 0
    places_fewest (type_then t ts) = both (type_fewest t) (places_fewest ts)

module _ (leads : TypeModel → Bool) (item : List ℕ → Rounds) where
  -- a field that may be missing takes no round
  abbrev pub field_fewest : List (List ℕ) → FieldModel → Rounds
  field_fewest earlier f =
      if may_be_missing leads f then Some 0 else if_found (found_name earlier f.deserialize_names) (type_fewest item (present_type f))

  abbrev pub fields_fewest : List (List ℕ) → List FieldModel → Rounds
  fields_fewest earlier [] = Some 0
  fields_fewest earlier (f ∷ fs) =
      if f.is_rest then fields_fewest earlier fs else both (field_fewest earlier f) (fields_fewest (f.deserialize_names ++ earlier) fs)

  abbrev pub content_fewest : Content → Rounds
  content_fewest (one_type t) = type_fewest item t
  content_fewest (places ts) = later (places_fewest item (types ts))
  content_fewest (named_fields closed fs) = later (fields_fewest [] fs)

  -- whether unknown members are refused changes nothing
  abbrev pub variant_fewest : VariantModel → Rounds
  variant_fewest w = if is_unit w then Some 0 else content_fewest (variant_content false w)

  -- of variants that a name finds
  abbrev pub found_fewest : List (List ℕ) → List VariantModel → Rounds
  found_fewest earlier [] = None
  found_fewest earlier (w ∷ ws) =
      either (if_found (found_name earlier w.deserialize_names) (variant_fewest w)) (found_fewest (w.deserialize_names ++ earlier) ws)

  -- of variants where no name is asked
  abbrev pub ready_fewest : List VariantModel → Rounds
  ready_fewest [] = None
  ready_fewest (w ∷ ws) = either (variant_fewest w) (ready_fewest ws)

  abbrev pub variants_fewest : TagModel → List VariantModel → Rounds
  variants_fewest untagged ws = ready_fewest ws
  variants_fewest external_tag ws = found_fewest [] ws
  variants_fewest (internal_tag t) ws = found_fewest [] ws
  variants_fewest (adjacent_tag t k) ws = found_fewest [] ws

  abbrev pub body_fewest : BodyModel → Rounds
  body_fewest (struct_model struct_style fs) = fields_fewest [] fs
  body_fewest (struct_model newtype_style fs) = type_fewest item (inner_type (struct_model newtype_style fs))
  body_fewest (struct_model tuple_style fs) = None
  body_fewest (struct_model unit_style fs) = None
  body_fewest (enum_model tag ws) = variants_fewest tag ws

  -- where it is known whether its rule gives a value
  abbrev pub container_fewest : Bool → ContainerModel → Rounds
  container_fewest given m = later (if m.try_from then before_first given else body_fewest m.body)

  abbrev pub item_fewest : (ContainerModel → Bool) → Option ContainerModel → Rounds
  item_fewest given None = None
  item_fewest given (Some m) = container_fewest (given m) m
