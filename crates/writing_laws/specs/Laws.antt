-- What is written of what was read is read again as what it was.
use Rattle.std.specs.Prelude.{◌≡◌, List, true}
use Rattle.json_value.specs.Value.{Value}
use Rattle.schema_defs.specs.Texts.{Relations}
use Rattle.model_defs.specs.Types.{TypeModel}
use Rattle.model_defs.specs.Model.{ContainerModel, ConversionsD}
use Rattle.model_defs.specs.Reads.{reads}
use Rattle.model_defs.specs.Settled.{settled}
use Rattle.typed_defs.specs.Typed.{Typed}
use Rattle.typed_defs.specs.Written.{written}
use Rattle.reading_defs.specs.Proper.{has_json_numbers}
use Rattle.reading_defs.specs.Reading.{taken, reading}
use Rattle.reading_defs.specs.Laws.{IsProper}
use Rattle.writing_laws.specs.Kinds.{kind_of, may_read}
use Rattle.writing_laws.specs.Tables.{IsOrdered, IsReadBack}

-- of a value that a JSON text may hold: its numbers are whole, and its names rise
abbrev pub WrittenIsReadBack : Type 0
WrittenIsReadBack =
    (models : List ContainerModel) (conversions : ConversionsD) (relations : Relations) → IsReadBack models conversions
    → (t : TypeModel) (v : Value) (x : Typed) → has_json_numbers v ≡ true → IsOrdered v
    → reading models conversions relations t v ≡ taken x → reading models conversions relations t (written models t x) ≡ taken x

-- and so what a value that is read settles to is read as the value is
abbrev pub SettledIsReadAlike : Type 0
SettledIsReadAlike =
    (models : List ContainerModel) (conversions : ConversionsD) (relations : Relations) → IsProper models conversions relations → IsReadBack models conversions
    → (t : TypeModel) (v : Value) → has_json_numbers v ≡ true → IsOrdered v → reads models conversions relations t v ≡ true
    → reading models conversions relations t (settled models conversions relations t v) ≡ reading models conversions relations t v

-- each value that a type reads has one of the type's kinds
abbrev pub KindsAreSound : Type 0
KindsAreSound =
    (models : List ContainerModel) (conversions : ConversionsD) (relations : Relations) (t : TypeModel) (v : Value)
    → reads models conversions relations t v ≡ true → may_read (kind_of v) models t ≡ true
