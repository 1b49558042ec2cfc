-- Histories each of whose calls had a judge of texts of its own: their tables are those of which history_laws and id_trees speak.
use Rattle.std.specs.Prelude.{ℕ}
use Rattle.schema_defs.specs.Location.{Location}
use Rattle.schema_defs.specs.Texts.{Relations}
use Rattle.schema_defs.specs.Schema.{Document}
use Rattle.convert_defs.specs.Convert.{Handed}
use Rattle.history_laws.specs.Added.{target_nodes}
use Rattle.history_laws.specs.Laws.{ComesAbout}
use Rattle.judge_laws.specs.Asked.{Answered}
use Rattle.typify_convert.specs.Space.{History}
use Rattle.typify_convert.specs.Added.{with_targets, added, added_nodes}

-- `q` is the judge of now: it answers alike what each call asked its own, and each was without faults
pub data Grew (q : Relations) (d : Document) (depth n : ℕ) : History → Type 0 where
  targets_first : (r : Relations) (h : History) → Answered r q d depth n (target_nodes r d depth n) → Grew q d depth n (with_targets r d depth n h)
  -- whatever location is asked for, and by whatever name
  then_schema : (r : Relations) (at : Location) (name : Handed) (h : History) → Grew q d depth n h → Answered r q d depth n (added_nodes r d depth n at name) → Grew q d depth n (added r d depth n at name h).0

abbrev pub HistoriesMayChangeJudges : Type 0
HistoriesMayChangeJudges = (q : Relations) (d : Document) (depth n : ℕ) (h : History) → Grew q d depth n h → ComesAbout q d depth n h.table
