-- A type behind its options and boxes: what a present value is read as, and how it is wrapped.
use Rattle.std.specs.Prelude.{ℕ, Bool, true, false, List, []}
use Rattle.json_value.specs.Value.{Value}
use Rattle.schema_defs.specs.Texts.{Relations}
use Rattle.model_defs.specs.Types.{TypeModel, boolean_type, integer_type, text_type, native_type, any_type, unit_type, option_type, boxed_type, vec_type, set_type, map_type, tuple_type, array_type, item_type, outside_type}
use Rattle.typed_defs.specs.Typed as typed
use Rattle.typed_defs.specs.Typed.{Typed}
use Rattle.reading_defs.specs.Reading.{Read, taken, stopped, boolean_read, integer_read, text_read, native_read, unit_read}

abbrev pub leaf : TypeModel → TypeModel
leaf (option_type t) = leaf t
leaf (boxed_type t) = leaf t
leaf t = t

-- behind boxes an option
abbrev pub is_optional : TypeModel → Bool
is_optional (option_type t) = true
is_optional (boxed_type t) = is_optional t
is_optional _ = false

abbrev pub wrapped : TypeModel → Typed → Typed
wrapped (option_type t) x = typed.some (wrapped t x)
wrapped (boxed_type t) x = wrapped t x
wrapped _ x = x

-- a value as a type that asks nothing of parts and items
abbrev pub scalar_read : Relations → TypeModel → Value → Read Typed
scalar_read r boolean_type v = boolean_read v
scalar_read r (integer_type g) v = integer_read g v
scalar_read r text_type v = text_read v
scalar_read r (native_type f) v = native_read r f v
scalar_read r any_type v = taken (typed.any v)
scalar_read r unit_type v = unit_read v
scalar_read r _ v = stopped []

-- what a type asks for an absence: an option, behind boxes, or an item
pub data Absence : Type 0 where
  an_option : Absence
  of_item : List ℕ → Absence
  no_absence : Absence

abbrev pub absence : TypeModel → Absence
absence (option_type t) = an_option
absence (boxed_type t) = absence t
absence (item_type n) = of_item n
absence _ = no_absence
