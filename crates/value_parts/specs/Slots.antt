-- The members of an object by the fields that take them.
use Rattle.std.specs.Prelude.{ℕ, zero, suc, ◌+◌, not, List, [], ◌∷◌, ◌++◌, filter, Bool, true, false, Option, Some, None, is_some, if◌then◌else◌, get_or, set}
use Rattle.json_value.specs.Value.{value_size}
use Rattle.model_defs.specs.Types.{TypeModel}
use Rattle.model_defs.specs.Model.{FieldModel}
use Rattle.model_defs.specs.Layer.{present_type}
use Rattle.model_defs.specs.Reads.{allowed}
use Rattle.typed_defs.specs.Typed.{Typed}
use Rattle.name_tables.specs.Names.{Names, place_of}
use Rattle.value_models.specs.Names.{is_place, field_names}
use Rattle.reading_defs.specs.Reading.{Read, taken, stopped, under, helped, followed, default_given, absent}
use Rattle.value_parts.specs.At.{Setting, Entry, default_of, type_at, rest_at}

-- as many as decide: none, one, or a second
abbrev pub first_two : List Entry → List Entry
first_two (d ∷ e ∷ es) = d ∷ e ∷ []
first_two es = es

abbrev pub entries_at : ℕ → Names → List Entry → List Entry
entries_at i names es = filter (λ e. is_place i (place_of e.0 names)) es

abbrev pub entries_without_place : Names → List Entry → List Entry
entries_without_place names es = filter (λ e. not (is_some (place_of e.0 names))) es

-- the first, where there may be none
abbrev pub first_if : Bool → List Entry → Option Entry
first_if true (e ∷ es) = Some e
first_if _ _ = None

module _ (s : Setting) where
  abbrev pub present_at : FieldModel → Entry → Read Typed
  present_at f e = under e.0 (helped f.helper (type_at s (allowed s.models) (present_type f) e.1))

  abbrev pub missing_at : FieldModel → Read Typed
  missing_at f = default_given (default_of s) (absent s.models) f f.default

  abbrev pub slot_at : FieldModel → List Entry → Read Typed
  slot_at f [] = missing_at f
  slot_at f (e ∷ []) = present_at f e
  slot_at f (d ∷ e ∷ es) = stopped (e.0 ∷ [])

  abbrev pub field_at : FieldModel → List Entry → List Entry → Read Typed
  field_at f unnamed own = if f.is_rest then rest_at s f.field_type unnamed else slot_at f own

  -- the fields from a place on, where `own` says which members a place has
  abbrev pub fields_from : (ℕ → List Entry) → List Entry → ℕ → List FieldModel → Read (List Typed)
  fields_from own unnamed i [] = taken []
  fields_from own unnamed i (f ∷ fs) = followed (field_at f unnamed (own i)) (fields_from own unnamed (suc i) fs)

-- ---- sorting: each member in the slot of its place

abbrev pub slot_or_none : List (List Entry) → ℕ → List Entry
slot_or_none ss i = get_or ss i []

abbrev pub added : ℕ → Entry → List (List Entry) → List (List Entry)
added p e ss = set ss p (first_two (slot_or_none ss p ++ e ∷ []))

abbrev pub added_if : Option ℕ → Entry → List (List Entry) → List (List Entry)
added_if None e ss = ss
added_if (Some p) e ss = added p e ss

abbrev pub slots_after : Names → List Entry → List (List Entry) → List (List Entry)
slots_after names [] ss = ss
slots_after names (e ∷ es) ss = slots_after names es (added_if (place_of e.0 names) e ss)

abbrev pub empty_slots : ℕ → List (List Entry)
empty_slots zero = []
empty_slots (suc n) = [] ∷ empty_slots n

-- ---- sizes: each member counts its name and its value

abbrev pub entries_size : List Entry → ℕ
entries_size [] = 0
entries_size (e ∷ es) = 1 + value_size e.1 + entries_size es
