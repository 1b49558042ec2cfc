-- What reading answers, as it is seen.
use Rattle.std.specs.Prelude.{ℤ, List, Option, Some, None, option_map, map}
use Rattle.std.specs.declared.vec.Vec.{Vec}
use Rattle.std.specs.declared.alloc.Global.{Global}
use Rattle.json_value.specs.Value.{Value, number}
use Rattle.typed_defs.specs.Typed as defs
use Rattle.value_models.specs.declared.typed.Typed.{Typed}
use Rattle.value_models.specs.TypedView.{typed_view, typeds_view, pairs_view}
use Rattle.reading_defs.specs.Reading.{Read, taken, stopped, unsound}
use Rattle.value_parts.specs.declared.outcome.Outcome.{Outcome}
use Rattle.value_parts.specs.declared.outcome.Outcome.TheVariants.{Taken, Refused, Unsound}

abbrev pub outcome_view : {X A : Type 0} → (X → A) → Outcome X → Read A
outcome_view f (Taken x) = taken (f x)
outcome_view f (Refused p) = stopped p
outcome_view f Unsound = unsound

-- a typed value, several, and pairs
abbrev pub one_view : Outcome Typed → Read defs.Typed
one_view = outcome_view typed_view

abbrev pub several_view : Outcome (Vec Typed Global) → Read (List defs.Typed)
several_view = outcome_view (λ v. typeds_view v.items)

abbrev pub pairs_read_view : Outcome (Vec (Typed × Typed) Global) → Read (List (defs.Typed × defs.Typed))
pairs_read_view = outcome_view (λ v. pairs_view v.items)

abbrev pub pair_view : Outcome (Typed × Typed) → Read (defs.Typed × defs.Typed)
pair_view = outcome_view (λ e. (typed_view e.0, typed_view e.1))

-- the whole number that a value is
abbrev pub whole_of : Value → Option ℤ
whole_of (number z) = Some z
whole_of _ = None
