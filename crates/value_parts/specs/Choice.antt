-- Which variant a value is read as, before its contents are.
use Rattle.std.specs.Prelude.{ℕ, zero, suc, not, ◌&&◌, List, [], ◌∷◌, filter, Bool, true, false, Option, Some, None, bytes_eq, if◌then◌else◌}
use Rattle.std.specs.List.{list_any}
use Rattle.json_value.specs.Value as value
use Rattle.json_value.specs.Value.{Value, text, object, entries}
use Rattle.model_defs.specs.Model.{Style, struct_style, tuple_style, newtype_style, unit_style, FieldModel, VariantModel, TagModel, external_tag, internal_tag, adjacent_tag, untagged}
use Rattle.model_defs.specs.Layer.{is_unit, variant_content}
use Rattle.model_defs.specs.Reads.{allowed}
use Rattle.typed_defs.specs.Typed.{Typed}
use Rattle.reading_defs.specs.Reading.{Read, taken, stopped, read_map, under, unit_of, variant_of}
use Rattle.value_parts.specs.At.{Setting, Entry, content_at, members_at, untagged_at}

-- settled at once; the contents under a name; the fields beside a tag; each variant in turn
pub data Choice : Type 0 where
  settled : Read Typed → Choice
  inside : ℕ → VariantModel → Entry → Choice
  beside : ℕ → List FieldModel → List Entry → Choice
  in_turn : List VariantModel → Choice

-- the first variant that has the name, with its place
abbrev pub variant_from : ℕ → List VariantModel → List ℕ → Option (ℕ × VariantModel)
variant_from i [] n = None
variant_from i (w ∷ ws) n = if list_any (bytes_eq n) w.deserialize_names then Some (i, w) else variant_from (suc i) ws n

-- the first member of the name, and the others
abbrev pub entry_of : List ℕ → List Entry → Option Entry
entry_of n [] = None
entry_of n (e ∷ es) = if bytes_eq n e.0 then Some e else entry_of n es

abbrev pub entries_without : List ℕ → List Entry → List Entry
entries_without n es = filter (λ e. not (bytes_eq n e.0)) es

-- ---- by the one member, or the text

abbrev pub unit_choice : Option (ℕ × VariantModel) → Choice
unit_choice None = settled (stopped [])
unit_choice (Some f) = settled (if is_unit f.1 then taken (unit_of f.0 []) else stopped [])

abbrev pub contents_choice : Entry → Option (ℕ × VariantModel) → Choice
contents_choice e None = settled (stopped [])
contents_choice e (Some f) = if is_unit f.1 then settled (stopped []) else inside f.0 f.1 e

abbrev pub one_choice : List VariantModel → List Entry → Choice
one_choice ws (e ∷ []) = contents_choice e (variant_from 0 ws e.0)
one_choice ws _ = settled (stopped [])

abbrev pub external_choice : List VariantModel → Value → Choice
external_choice ws (text n) = unit_choice (variant_from 0 ws n)
external_choice ws (object ms) = one_choice ws (entries ms)
external_choice ws _ = settled (stopped [])

-- ---- by a tag

-- the variant that the tag names
abbrev pub tagged : List VariantModel → Value → Option (ℕ × VariantModel)
tagged ws (text n) = variant_from 0 ws n
tagged ws _ = None

abbrev pub bare_choice : Bool → ℕ → List Entry → Choice
bare_choice true i (e ∷ es) = settled (stopped (e.0 ∷ []))
bare_choice _ i _ = settled (taken (unit_of i []))

abbrev pub style_choice : Bool → ℕ → VariantModel → Style → List Entry → Choice
style_choice closed i w struct_style es = beside i w.fields es
style_choice closed i w unit_style es = bare_choice closed i es
style_choice closed i w tuple_style es = settled (stopped [])
style_choice closed i w newtype_style es = settled (stopped [])

abbrev pub internal_found : Bool → List ℕ → List Entry → Option (ℕ × VariantModel) → Choice
internal_found closed tag es None = settled (stopped (tag ∷ []))
internal_found closed tag es (Some f) = style_choice closed f.0 f.1 f.1.style (entries_without tag es)

abbrev pub content_choice : ℕ → VariantModel → Option Entry → Choice
content_choice i w None = settled (if is_unit w then taken (unit_of i []) else stopped [])
content_choice i w (Some e) = if is_unit w then settled (stopped (e.0 ∷ [])) else inside i w e

abbrev pub closed_choice : Bool → List Entry → Choice → Choice
closed_choice true (o ∷ os) c = settled (stopped (o.0 ∷ []))
closed_choice _ _ c = c

abbrev pub adjacent_found : Bool → List ℕ → List ℕ → List Entry → Option (ℕ × VariantModel) → Choice
adjacent_found closed tag content es None = settled (stopped (tag ∷ []))
adjacent_found closed tag content es (Some f) = closed_choice closed (entries_without content (entries_without tag es)) (content_choice f.0 f.1 (entry_of content es))

abbrev pub internal_choice : Bool → List ℕ → List VariantModel → List Entry → Option Entry → Choice
internal_choice closed tag ws es None = settled (stopped [])
internal_choice closed tag ws es (Some e) = internal_found closed tag es (tagged ws e.1)

abbrev pub adjacent_choice : Bool → List ℕ → List ℕ → List VariantModel → List Entry → Option Entry → Choice
adjacent_choice closed tag content ws es None = settled (stopped [])
adjacent_choice closed tag content ws es (Some e) = adjacent_found closed tag content es (tagged ws e.1)

abbrev pub entries_in : Value → List Entry
entries_in (object ms) = entries ms
entries_in _ = []

abbrev pub choice : Bool → TagModel → List VariantModel → Value → Choice
choice closed external_tag ws v = external_choice ws v
choice closed (internal_tag tag) ws v = internal_choice closed tag ws (entries_in v) (entry_of tag (entries_in v))
choice closed (adjacent_tag tag content) ws v = adjacent_choice closed tag content ws (entries_in v) (entry_of tag (entries_in v))
choice closed untagged ws v = in_turn ws

-- what the choice reads, of a value at which so many items may still be entered
abbrev pub inside_at : Setting → Bool → ℕ → VariantModel → Entry → Read Typed
inside_at s closed i w e = under e.0 (read_map (variant_of i) (content_at s (allowed s.models) (variant_content closed w) e.1))

abbrev pub choice_at : Setting → ℕ → Bool → Value → Choice → Read Typed
choice_at s k closed v (settled r) = r
choice_at s k closed v (inside i w e) = inside_at s closed i w e
choice_at s k closed v (beside i fs es) = read_map (variant_of i) (members_at s closed fs es)
choice_at s k closed v (in_turn ws) = untagged_at s k closed 0 ws v
