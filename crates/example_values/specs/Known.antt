-- The fewest rounds of the items of a table, by their places.
use Rattle.std.specs.Prelude.{◌≡◌, ℕ, ◌&&◌, List, Bool, false, Option, Some, None, is_some, slice_get, slice_index_or, if◌then◌else◌}
use Rattle.name_tables.specs.Names.{place_of}
use Rattle.value_models.specs.Names.{container_names}
use Rattle.model_defs.specs.Types.{TypeModel}
use Rattle.model_defs.specs.Model.{FieldModel, VariantModel, ContainerModel, ConversionsD}
use Rattle.model_defs.specs.Layer.{Content}
use Rattle.model_defs.specs.Reads.{leads_to_option}
use Rattle.example_defs.specs.Built.{ruled_value, content_built_in}
use Rattle.example_defs.specs.Enough.{no_texts}
use Rattle.example_parts.specs.Names.{names_of_fields, names_of_variants, name_found}
use Rattle.model_defs.specs.Layer.{may_be_missing, present_type}
use Rattle.example_values.specs.Fewest.{Rounds, both, either, if_found, type_fewest, content_fewest, variant_fewest, item_fewest, are_within}

abbrev pub rounds_at : List Rounds → ℕ → Rounds
rounds_at rounds p = slice_index_or rounds p None

abbrev pub rounds_of_place : List Rounds → Option ℕ → Rounds
rounds_of_place rounds None = None
rounds_of_place rounds (Some p) = rounds_at rounds p

-- those of the item of that name
abbrev pub rounds_of : List ContainerModel → List Rounds → List ℕ → Rounds
rounds_of ms rounds n = rounds_of_place rounds (place_of n (container_names 0 ms))

-- whether an item has a rule that binds, and it gives a value
abbrev pub gives : List ContainerModel → ConversionsD → ContainerModel → Bool
gives ms cs m = m.try_from && is_some (ruled_value ms cs no_texts m)

-- which items' rules give values, by their places
abbrev pub AreGiven : List ContainerModel → ConversionsD → List Bool → Type 0
AreGiven ms cs given = (i : ℕ) (m : ContainerModel) → slice_get ms i ≡ Some m → slice_index_or given i false ≡ gives ms cs m

-- rounds that stay as they are where they are counted again by themselves
abbrev pub AreSettled : List ContainerModel → ConversionsD → List Rounds → Type 0
AreSettled ms cs rounds = (i : ℕ) → rounds_at rounds i ≡ item_fewest (leads_to_option ms) (rounds_of ms rounds) (gives ms cs) (slice_get ms i)

-- a content is built in exactly those numbers of rounds that are no less than its fewest
abbrev pub AreCounted : List ContainerModel → ConversionsD → List Rounds → Type 0
AreCounted ms cs rounds = (n : ℕ) (c : Content) → content_built_in ms cs no_texts n c ≡ are_within (content_fewest (leads_to_option ms) (rounds_of ms rounds) c) n

-- ---- one field or variant before others, by its place among all

module _ (leads : TypeModel → Bool) (item : List ℕ → Rounds) where
  abbrev pub field_fewest_at : List FieldModel → ℕ → FieldModel → Rounds
  field_fewest_at fs i f = if may_be_missing leads f then Some 0 else if_found (name_found (names_of_fields fs) i) (type_fewest item (present_type f))

  abbrev pub field_before : List FieldModel → ℕ → FieldModel → Rounds → Rounds
  field_before fs i f later = if f.is_rest then later else both (field_fewest_at fs i f) later

  abbrev pub variant_before : List VariantModel → ℕ → VariantModel → Rounds → Rounds
  variant_before ws i w later = either (if_found (name_found (names_of_variants ws) i) (variant_fewest leads item w)) later
