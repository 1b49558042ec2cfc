-- What reading by the containers of an emitted table gives is what is found by the table's entries.
use Rattle.std.specs.Prelude.{◌≡◌, ℕ, zero, suc, List, Bool, true, Some, slice_get}
use Rattle.json_value.specs.Value.{Value}
use Rattle.schema_defs.specs.Texts.{Relations}
use Rattle.model_defs.specs.Types.{TypeModel}
use Rattle.model_defs.specs.Model.{ContainerModel, ConversionsD}
use Rattle.model_defs.specs.Settled.{default_at}
use Rattle.typed_defs.specs.Typed.{Typed}
use Rattle.reading_defs.specs.Reading.{Read, taken, stopped, unsound, value_reader}
use Rattle.entry_defs.specs.Entry.{Entry}
use Rattle.entry_defs.specs.Table.{Table, items_of}
use Rattle.entry_defs.specs.Sound.{IsSound}
use Rattle.entry_defs.specs.Takes.{takes}
use Rattle.emit_defs.specs.Models.{conversions_of_items}
use Rattle.emit_defs.specs.Emission.{models_of, type_outside}
use Rattle.emit_defs.specs.Law.{IsOf}
use Rattle.default_defs.specs.Found.{Found, refused, ended, endless}
use Rattle.default_defs.specs.Supplied.{value_read, read_inside, supplied}
use Rattle.naming_defs.specs.Names.{named_table}
use Rattle.reading_defs.specs.Laws.{defaults_are_sound}
use Rattle.default_laws.specs.Stated.{StatedAt, HoldsOfStated}

-- what is read is ended, where reading stops it is refused, and a default that isn't read never ends
abbrev pub as_found : {A : Type 0} → Read A → Found
as_found (taken x) = ended
as_found (stopped l) = refused
as_found unsound = endless

-- a stated default is read by the type of its field, and what is read of it is what it comes to by the field's entry
abbrev pub DefaultsAreRead : Table → (Entry → Value → Found) → (ℕ → TypeModel → Read Typed) → Type 0
DefaultsAreRead t missed default_read =
    (n : ℕ) (e : Entry) (w : Value) (ty : TypeModel) → StatedAt t n e w ty → (missed e w ≡ refused → ⊥) × (as_found (default_read n ty) ≡ missed e w)

abbrev pub FoundIsRead : Type 0
FoundIsRead =
    (t : Table) → IsSound t → (r : Relations) (missed : Entry → Value → Found) (default_read : ℕ → TypeModel → Read Typed) → DefaultsAreRead t missed default_read
    → (e : Entry) → IsOf t e → (v : Value)
    → as_found ((value_reader (models_of t) (conversions_of_items (items_of t)) r default_read v).as_type (type_outside t e)) ≡ value_read t r missed v e

-- the same of a field with a stated default: by its type, with the boxes of the item that it stands in
abbrev pub StatedIsRead : Type 0
StatedIsRead =
    (t : Table) → IsSound t → (r : Relations) (missed : Entry → Value → Found) (default_read : ℕ → TypeModel → Read Typed) → DefaultsAreRead t missed default_read
    → (n : ℕ) (e : Entry) (w : Value) (ty : TypeModel) → StatedAt t n e w ty → (v : Value)
    → as_found ((value_reader (models_of t) (conversions_of_items (items_of t)) r default_read v).as_type ty) ≡ value_read t r missed v e

-- and the default itself stands at its place of the table of conversions
abbrev pub StatedStands : Type 0
StatedStands = (t : Table) (n : ℕ) (e : Entry) (w : Value) (ty : TypeModel) → StatedAt t n e w ty → slice_get (conversions_of_items (items_of t)).defaults n ≡ Some w

-- ---- so many defaults inside one another

module _ (models : List ContainerModel) (conversions : ConversionsD) (r : Relations) where
  -- what the default at a place is read as by a type
  abbrev pub read_by_levels : ℕ → ℕ → TypeModel → Read Typed
  read_by_levels zero n ty = unsound
  read_by_levels (suc k) n ty = (value_reader models conversions r (read_by_levels k) (default_at models conversions r n)).as_type ty

-- where each stated default is taken by its field's entry
abbrev pub LevelsAreRead : Type 0
LevelsAreRead =
    (t : Table) → IsSound t → (r : Relations) → ((n : ℕ) (e : Entry) (w : Value) (ty : TypeModel) → StatedAt t n e w ty → takes t r e w ≡ true)
    → (k : ℕ) (e : Entry) → IsOf t e → (v : Value)
    → as_found ((value_reader (models_of t) (conversions_of_items (items_of t)) r (read_by_levels (models_of t) (conversions_of_items (items_of t)) r k) v).as_type (type_outside t e))
    ≡ read_inside t r (suc k) e v

-- ---- tables whose stated defaults all come to an end

abbrev pub AllEnd : Table → Relations → Type 0
AllEnd t r = HoldsOfStated (λ e w. supplied t r e w ≡ ended) t

-- they are sound where the emitted items are read back
abbrev pub EndedIsSound : Type 0
EndedIsSound = (t : Table) → IsSound t → (r : Relations) → AllEnd t r → defaults_are_sound (models_of t) (conversions_of_items (items_of t)) r ≡ true

-- and stay so when the table is named
abbrev pub NamedStillEnd : Type 0
NamedStillEnd = (is_good : List ℕ → Bool) (t : Table) (r : Relations) → AllEnd t r → AllEnd (named_table is_good t) r
