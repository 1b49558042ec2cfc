-- The tables of a history to which the items that references lead to came first: they are those of which history_laws speaks.
use Rattle.std.specs.Prelude.{ℕ}
use Rattle.schema_defs.specs.Location.{Location}
use Rattle.schema_defs.specs.Texts.{Relations}
use Rattle.schema_defs.specs.Schema.{Document}
use Rattle.convert_defs.specs.Convert.{Handed}
use Rattle.history_laws.specs.Laws.{ComesAbout}
use Rattle.typify_convert.specs.Space.{History}
use Rattle.typify_convert.specs.Added.{with_targets, added}

pub record HistoriesGrow (r : Relations) (d : Document) (depth n : ℕ) : Type 0 where
  pub first : (h : History) → ComesAbout r d depth n (with_targets r d depth n h).table
  -- whatever location is asked for, and by whatever name
  pub next : (at : Location) (name : Handed) (h : History) → ComesAbout r d depth n h.table → ComesAbout r d depth n (added r d depth n at name h).0.table

abbrev pub HistoriesComeAbout : Type 0
HistoriesComeAbout = (r : Relations) (d : Document) (depth n : ℕ) → HistoriesGrow r d depth n
