-- What stands at a place of a list, as it is seen.
use Rattle.std.proofs.Common.{◌≡◌, ℕ, List, Option, option_map, slice_get, Bor}
use Rattle.std.specs.Slice.{IsItemAt}
use Rattle.value_models.specs.declared.field.Field.{Field}
use Rattle.value_models.specs.FieldView.{field_view, fields_view}
use Rattle.value_models.proofs.Tables.{item_behind}

pub field_behind : (fs : List Field) (i : ℕ) (o : Option (Bor Field)) → IsItemAt fs i o → option_map (λ (f : Bor Field). field_view f.now) o ≡ slice_get (fields_view fs) i
field_behind fs i o h = item_behind field_view fs i o h
