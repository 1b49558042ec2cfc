-- Examples by a judge of texts.
use Rattle.std.specs.Prelude.{◌≡◌, List, true, false, Option, Some, None}
use Rattle.json_value.specs.Value.{Value, IsSmall}
use Rattle.schema_defs.specs.Texts.{Relations}
use Rattle.model_defs.specs.Types.{TypeModel}
use Rattle.model_defs.specs.Model.{ContainerModel, ConversionsD}
use Rattle.model_defs.specs.Reads.{reads}

-- a value that is read by this judge; or no small value is
abbrev pub IsExampleBy : List ContainerModel → ConversionsD → Relations → TypeModel → Option Value → Type 0
IsExampleBy models conversions relations t (Some v) = reads models conversions relations t v ≡ true
IsExampleBy models conversions relations t None = (v : Value) → IsSmall v → reads models conversions relations t v ≡ false
