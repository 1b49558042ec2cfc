-- An item alone: a struct whose fields are required and are booleans, integers or texts. What reads it, in plain words.
use Rattle.std.specs.Prelude.{◌≡◌, ℕ, ◌&&◌, ◌||◌, not, List, [], ◌∷◌, map, Bool, true, false, Option, Some, None, bytes_eq, if◌then◌else◌}
use Rattle.std.specs.List.{list_any, list_all}
use Rattle.json_value.specs.Value.{Value, Members, object, member, no_members, member_at, has_name, IsSmall, IsBelowFirst}
use Rattle.schema_defs.specs.Texts.{Relations}
use Rattle.model_defs.specs.Types.{TypeModel, boolean_type, integer_type, text_type, item_type}
use Rattle.model_defs.specs.Model.{struct_style, no_default, no_helper, FieldModel, struct_model, ContainerModel, ConversionsD}
use Rattle.model_defs.specs.Layer.{is_boolean, is_in_range, is_text}
use Rattle.model_defs.specs.Reads.{reads}
use Rattle.schema_defs.specs.Location.{Location}
use Rattle.model_defs.specs.Settled.{settled}
use Rattle.model_defs.specs.Refusals.{refused_at}

-- a field: its one name, and its type
abbrev pub Flat : Type 0
Flat = List ℕ × TypeModel

abbrev pub is_simple : TypeModel → Bool
is_simple boolean_type = true
is_simple (integer_type g) = true
is_simple text_type = true
is_simple _ = false

abbrev pub simple_takes : TypeModel → Value → Bool
simple_takes boolean_type v = is_boolean v
simple_takes (integer_type g) v = is_in_range g v
simple_takes text_type v = is_text v
simple_takes _ v = false

abbrev pub value_taken : TypeModel → Option Value → Bool
value_taken t None = false
value_taken t (Some v) = simple_takes t v

-- each member's name is some field's
abbrev pub all_named : List Flat → Members → Bool
all_named fs no_members = true
all_named fs (member k v ms) = list_any (λ f. bytes_eq f.0 k) fs && all_named fs ms

-- the value is an object, where closed each member's name is some field's, and each field has a member that its type takes
abbrev pub takes_flat : Bool → List Flat → Value → Bool
takes_flat closed fs (object ms) = (not closed || all_named fs ms) && list_all (λ f. value_taken f.1 (member_at f.0 ms)) fs
takes_flat closed fs _ = false

-- ---- as a model

abbrev pub flat_field : Flat → FieldModel
flat_field f = record { has_name = true; serialize_name = f.0; deserialize_names = f.0 ∷ []; field_type = f.1; default = no_default; helper = no_helper; skip = false; is_rest = false }

abbrev pub flat_model : List ℕ → Bool → List Flat → ContainerModel
flat_model n closed fs = record { name = n; transparent = false; try_from = false; closed = closed; body = struct_model struct_style (map flat_field fs) }

abbrev pub all_simple : List Flat → Bool
all_simple fs = list_all (λ f. is_simple f.1) fs

abbrev pub names_differ : List Flat → Bool
names_differ [] = true
names_differ (f ∷ fs) = list_all (λ g. not (bytes_eq f.0 g.0)) fs && names_differ fs

-- no name stands twice among the members
abbrev pub MembersApart : Members → Type 0
MembersApart no_members = Unit {0}
MembersApart (member k v ms) = (has_name k ms ≡ false) × MembersApart ms

abbrev pub NamesApart : Value → Type 0
NamesApart (object ms) = MembersApart ms
NamesApart _ = Unit {0}

abbrev pub FlatReading : Type 0
FlatReading =
    (n : List ℕ) (closed : Bool) (fs : List Flat) (conversions : ConversionsD) (relations : Relations)
    → names_differ fs ≡ true → all_simple fs ≡ true → (v : Value) → NamesApart v
    → reads (flat_model n closed fs ∷ []) conversions relations (item_type n) v ≡ takes_flat closed fs v

-- the members stand in order of their names, byte by byte
abbrev pub MembersRise : Members → Type 0
MembersRise no_members = Unit {0}
MembersRise (member k v ms) = IsBelowFirst k ms × MembersRise ms

abbrev pub NamesRise : Value → Type 0
NamesRise (object ms) = MembersRise ms
NamesRise _ = Unit {0}

-- names that rise stand once; those of a small value rise
pub record RisingNames : Type 0 where
  pub once : (v : Value) → NamesRise v → NamesApart v
  pub small : (v : Value) → IsSmall v → NamesRise v

-- so the names of a small value stand once
abbrev pub SmallNamesApart : Type 0
SmallNamesApart = (v : Value) → IsSmall v → NamesApart v

-- ---- where reading stops

-- the first member whose name no field has
abbrev pub first_unnamed : List Flat → Members → Option (List ℕ)
first_unnamed fs no_members = None
first_unnamed fs (member k v ms) = if list_any (λ f. bytes_eq f.0 k) fs then first_unnamed fs ms else Some k

-- a missing field is refused at the object, another at itself
abbrev pub stops_at_field : Flat → Option Value → Location → Location
stops_at_field f None further = []
stops_at_field f (Some v) further = if simple_takes f.1 v then further else f.0 ∷ []

abbrev pub first_wrong : List Flat → Members → Location
first_wrong [] ms = []
first_wrong (f ∷ fs) ms = stops_at_field f (member_at f.0 ms) (first_wrong fs ms)

abbrev pub or_further : Option (List ℕ) → Location → Location
or_further None further = further
or_further (Some k) further = k ∷ []

-- where closed, at the first member whose name no field has; else at the first field in order that is missing or is not taken
abbrev pub members_stop : Bool → List Flat → Members → Location
members_stop true fs ms = or_further (first_unnamed fs ms) (first_wrong fs ms)
members_stop false fs ms = first_wrong fs ms

abbrev pub flat_stops : Bool → List Flat → Value → Location
flat_stops closed fs (object ms) = members_stop closed fs ms
flat_stops closed fs _ = []

abbrev pub FlatRefusals : Type 0
FlatRefusals =
    (n : List ℕ) (closed : Bool) (fs : List Flat) (conversions : ConversionsD) (relations : Relations)
    → names_differ fs ≡ true → all_simple fs ≡ true → (v : Value) → NamesApart v → takes_flat closed fs v ≡ false
    → refused_at (flat_model n closed fs ∷ []) conversions relations (item_type n) v ≡ flat_stops closed fs v

-- ---- what is written

-- the members that some field names
abbrev pub named_only : List Flat → Members → Members
named_only fs no_members = no_members
named_only fs (member k v ms) = if list_any (λ f. bytes_eq f.0 k) fs then member k v (named_only fs ms) else named_only fs ms

abbrev pub flat_written : List Flat → Value → Value
flat_written fs (object ms) = object (named_only fs ms)
flat_written fs v = v

-- a value that is read is written without the members that no field names: as it was, where the struct is closed
pub record FlatWriting (n : List ℕ) (fs : List Flat) (conversions : ConversionsD) (relations : Relations) : Type 0 where
  pub any : (closed : Bool) (v : Value) → NamesRise v → takes_flat closed fs v ≡ true → settled (flat_model n closed fs ∷ []) conversions relations (item_type n) v ≡ flat_written fs v
  pub closed : (v : Value) → NamesRise v → takes_flat true fs v ≡ true → settled (flat_model n true fs ∷ []) conversions relations (item_type n) v ≡ v

abbrev pub FlatStructsAreWritten : Type 0
FlatStructsAreWritten =
    (n : List ℕ) (fs : List Flat) (conversions : ConversionsD) (relations : Relations) → names_differ fs ≡ true → all_simple fs ≡ true → FlatWriting n fs conversions relations
