-- The typed value that one of the program stands for.
use Rattle.std.specs.Prelude.{List, map, string_bytes}
use Rattle.serde_json.specs.View as json
use Rattle.json_value.specs.View.{value_of}
use Rattle.typed_defs.specs.Typed as defs
use Rattle.typed_defs.specs.Typed.{typeds, pairs}
use Rattle.value_models.specs.declared.typed.Typed.{Typed, fold-Typed}
use Rattle.value_models.specs.declared.typed.Typed.TheOpen.{Typed-F}

-- one level, with the values inside already seen
abbrev pub typed_step : Typed-F defs.Typed → defs.Typed
typed_step Typed-F.Unit = defs.unit
typed_step (Typed-F.Bool b) = defs.boolean b
typed_step (Typed-F.Int z) = defs.integer z
typed_step (Typed-F.Text s) = defs.text (string_bytes s)
typed_step (Typed-F.Any v) = defs.any (value_of (json.view v))
typed_step Typed-F.None = defs.none
typed_step (Typed-F.Some x) = defs.some x.value
typed_step (Typed-F.List xs) = defs.list (typeds xs.items)
typed_step (Typed-F.Map xs) = defs.map_of (pairs xs.items)
typed_step (Typed-F.Struct xs) = defs.struct (typeds xs.items)
typed_step (Typed-F.Variant i xs) = defs.variant i (typeds xs.items)
typed_step (Typed-F.Newtype x) = defs.newtype x.value

abbrev pub typed_view : Typed → defs.Typed
typed_view = fold-Typed defs.Typed typed_step

abbrev pub typeds_view : List Typed → List defs.Typed
typeds_view xs = map typed_view xs

abbrev pub pairs_view : List (Typed × Typed) → List (defs.Typed × defs.Typed)
pairs_view xs = map (λ e. (typed_view e.0, typed_view e.1)) xs
