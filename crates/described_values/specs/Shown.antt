-- The properties of an object while they are gathered, from the last to the first.
use Rattle.std.specs.Prelude.{ℕ, List, [], ◌∷◌, ◌++◌, map, Bool, Option, Some, None, codes, if◌then◌else◌}
use Rattle.json_value.specs.Value.{Value, Members, text, list}
use Rattle.schema_defs.specs.Build.{◌≔◌, str, num, obj}
use Rattle.model_defs.specs.Settled.{put}
use Rattle.model_defs.specs.Model.{FieldModel, VariantModel}
use Rattle.model_defs.specs.Layer.{variant_content, is_unit}
use Rattle.describe_defs.specs.Description.{with_entry}
use Rattle.describe_defs.specs.Written.{EntryV, member_of, field_value, content_value, required_value, map_value, rest_part, members_value, texts_of_names}
use Rattle.described_types.specs.Seen.{is_picked}
use Rattle.described_values.specs.Seen.{kept_entries}
use Rattle.described_values.specs.declared.entries.Entries.{Entries}

-- the properties in the order of their names, and those that are required, each with its name as a text
pub record Shown : Type 0 where
  pub properties : List (List ℕ × Value)
  pub required : List (List ℕ × Value)

abbrev pub entries_view : Entries → Shown
entries_view e = record { properties = kept_entries e.properties.entries; required = kept_entries e.required.entries }

abbrev pub nothing_shown : Shown
nothing_shown = record { properties = []; required = [] }

abbrev pub named_text : EntryV → List ℕ × Value
named_text e = (e.name, text e.name)

-- a property more
abbrev pub shown_with : EntryV → Shown → Shown
shown_with e s = record { properties = with_entry (member_of e) s.properties; required = if e.required then with_entry (named_text e) s.required else s.required }

abbrev pub shown : List EntryV → Shown
shown [] = nothing_shown
shown (e ∷ es) = shown_with e (shown es)

abbrev pub shown_field : Bool → FieldModel → Shown → Shown
shown_field all f s = if is_picked all f then shown_with (field_value f) s else s

abbrev pub shown_fields : Bool → List FieldModel → Shown
shown_fields all [] = nothing_shown
shown_fields all (f ∷ fs) = shown_field all f (shown_fields all fs)

-- ---- objects

abbrev pub object_by : List (List ℕ × Value) → List (List ℕ) → Option Value → Value
object_by [] ns rest = obj (rest_part rest ++ ("type" ≔ str "object" ∷ []))
object_by (p ∷ ps) ns rest = members_value (p ∷ ps) ns rest

abbrev pub object_of : Shown → Option Value → Value
object_of s rest = object_by s.properties (map (λ e. e.0) s.required) rest

abbrev pub put_rest : Option Value → Members → Members
put_rest None ms = ms
put_rest (Some v) ms = put (codes "additionalProperties") v ms

abbrev pub put_required : List (List ℕ) → Members → Members
put_required [] ms = ms
put_required (n ∷ ns) ms = put (codes "required") (list (texts_of_names (n ∷ ns))) ms

-- ---- rests

-- what the first rest takes
abbrev pub rest_of : Option FieldModel → Option Value → Option Value
rest_of None otherwise = otherwise
rest_of (Some f) otherwise = map_value f.field_type otherwise

-- ---- variants

-- the properties beside an internal tag
abbrev pub beside_internal : VariantModel → List EntryV
beside_internal w = if is_unit w then [] else map field_value w.fields

-- the property beside an adjacent tag
abbrev pub beside_adjacent : Bool → List ℕ → VariantModel → List EntryV
beside_adjacent closed content w = if is_unit w then [] else required_value content (content_value (variant_content closed w)) ∷ []

-- ---- lengths

abbrev pub put_length : List ℕ → Option ℕ → Members → Members
put_length name None ms = ms
put_length name (Some n) ms = put name (num n) ms
