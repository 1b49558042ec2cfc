-- What a value is read as is a typed value of the type.
use Rattle.std.specs.Prelude.{◌≡◌, List, true}
use Rattle.json_value.specs.Value.{Value}
use Rattle.schema_defs.specs.Texts.{Relations}
use Rattle.model_defs.specs.Types.{TypeModel}
use Rattle.model_defs.specs.Model.{ContainerModel, ConversionsD}
use Rattle.typed_defs.specs.Typed.{Typed}
use Rattle.typed_defs.specs.IsTyped.{is_of_type}
use Rattle.reading_defs.specs.Proper.{has_json_numbers}
use Rattle.reading_defs.specs.Reading.{taken, reading}
use Rattle.writing_laws.specs.Tables.{IsOrdered, IsReadBack}

-- of a value that a JSON text may hold: its numbers are whole, and its names rise
abbrev pub WhatIsReadIsTyped : Type 0
WhatIsReadIsTyped =
    (models : List ContainerModel) (conversions : ConversionsD) (relations : Relations) → IsReadBack models conversions
    → (t : TypeModel) (v : Value) (x : Typed) → has_json_numbers v ≡ true → IsOrdered v
    → reading models conversions relations t v ≡ taken x → is_of_type models conversions relations t x ≡ true
