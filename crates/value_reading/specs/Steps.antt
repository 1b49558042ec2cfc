-- The steps of reading, each at a value.
use Rattle.std.specs.Prelude.{ℕ, List, [], ◌∷◌, Bool}
use Rattle.json_value.specs.Value.{Value}
use Rattle.schema_defs.specs.Location.{place}
use Rattle.model_defs.specs.Types.{TypeModel, option_type, outside_type}
use Rattle.model_defs.specs.Model.{HelperModel, some_helper, no_helper, whole_helper, FieldModel, VariantModel}
use Rattle.model_defs.specs.Layer.{one_type, helped_type}
use Rattle.model_defs.specs.Reads.{allowed}
use Rattle.model_defs.specs.Settled.{default_at}
use Rattle.typed_defs.specs.Typed as typed
use Rattle.typed_defs.specs.Typed.{Typed}
use Rattle.reading_defs.specs.Reading.{Read, stopped, read_map, under, pair_read, helped, absent, newtype_read, variant_read, readers_of}
use Rattle.value_parts.specs.At.{Setting, Entry, default_of, type_at, content_at, entry_part}

module _ (s : Setting) where
  -- a part of a value: all items may be entered at it
  abbrev pub part_at : TypeModel → Value → Read Typed
  part_at t v = type_at s (allowed s.models) t v

  abbrev pub place_at : ℕ → TypeModel → Value → Read Typed
  place_at i t v = under (place i) (part_at t v)

  abbrev pub pair_at : TypeModel → TypeModel → Entry → Read (Typed × Typed)
  pair_at k t e = pair_read k t (entry_part s e)

  abbrev pub newtype_at : ℕ → List FieldModel → Value → Read Typed
  newtype_at k (f ∷ []) v = read_map typed.newtype (type_at s k f.field_type v)
  newtype_at k _ v = stopped []

  abbrev pub only_at : ℕ → List FieldModel → Value → Read (List Typed)
  only_at k (f ∷ []) v = read_map (λ x. x ∷ []) (type_at s k f.field_type v)
  only_at k _ v = stopped []

  abbrev pub inner_at : TypeModel → Value → Read Typed
  inner_at (option_type t) v = read_map typed.some (part_at t v)
  inner_at _ v = stopped []

  abbrev pub helped_at : HelperModel → TypeModel → Value → Read Typed
  helped_at h t v = helped h (part_at (helped_type h t) v)

  -- by the variant of that place
  abbrev pub variant_at : ℕ → Bool → ℕ → VariantModel → Value → Read Typed
  variant_at k closed i w v = variant_read (default_of s) (absent s.models) s.relations s.conversions v (readers_of s.models s.conversions s.relations (default_of s) v) (λ t. type_at s k t v) closed i w

  -- a stated default, where its place was entered
  abbrev pub default_stated : ℕ → TypeModel → Read Typed
  default_stated n t = part_at t (default_at s.models s.conversions s.relations n)
