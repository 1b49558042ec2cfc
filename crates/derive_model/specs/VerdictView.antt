-- Verdicts, as contracts see them.
use Rattle.std.specs.Prelude.{Option, Some, None}
use Rattle.serde_json.specs.Data.{Data}
use Rattle.serde_json.specs.View.{view}
use Rattle.schema_defs.specs.Location.{Location}
use Rattle.derive_model.specs.declared.verdict.State.{State}
use Rattle.derive_model.specs.declared.verdict.State.TheVariants.{Taken, Refused}
use Rattle.derive_model.specs.declared.verdict.Verdict.{Verdict}

-- a value is taken, and written back as another; or it is refused at a place in it
pub data VerdictD : Type 0 where
  taken : Data → VerdictD
  refused : Location → VerdictD

abbrev pub state_view : State → VerdictD
state_view (Taken w) = taken (view w)
state_view (Refused l) = refused l

abbrev pub verdict_view : Verdict → VerdictD
verdict_view v = state_view v.state

abbrev pub written_of : VerdictD → Option Data
written_of (taken d) = Some d
written_of (refused l) = None

abbrev pub refused_at : VerdictD → Option Location
refused_at (taken d) = None
refused_at (refused l) = Some l
