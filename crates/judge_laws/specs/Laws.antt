-- Where each call of a space has a judge of its own: what judges make of schemas that answer alike what was asked, and the tables that a space then comes to.
-- Reading values, and the stated values that aren't read, asks judges more, of which nothing is said here.
use Rattle.std.specs.Prelude.{◌≡◌, ℕ, Some}
use Rattle.schema_defs.specs.Location.{Location}
use Rattle.schema_defs.specs.Texts.{Relations}
use Rattle.schema_defs.specs.Schema.{Schema, Document}
use Rattle.schema_defs.specs.Children.{schema_at}
use Rattle.entry_defs.specs.Table.{Table}
use Rattle.convert_defs.specs.Convert.{Handed}
use Rattle.convert_defs.specs.Row.{Way}
use Rattle.convert_walks.specs.Spot.{Spot}
use Rattle.convert_walks.specs.Told.{notes_in, faults_in}
use Rattle.convert_walks.specs.Tree.{entry_at, tree_at}
use Rattle.history_laws.specs.Placing.{with_tree}
use Rattle.history_laws.specs.Added.{target_nodes, targets_table, begins_at}
use Rattle.history_laws.specs.Laws.{ComesAbout, AreClean, ComesSince}
use Rattle.judge_laws.specs.Asked.{Answered}

-- ---- what is converted

pub record SameTree (r q : Relations) (d : Document) (most n : ℕ) (o : Spot) (s : Schema) : Type 0 where
  pub entry : entry_at q d most n o s ≡ entry_at r d most n o s
  pub tree : tree_at q d most n o s ≡ tree_at r d most n o s
  pub notes : notes_in q d most n (tree_at q d most n o s) ≡ notes_in r d most n (tree_at r d most n o s)
  pub faults : faults_in q d most n (tree_at q d most n o s) ≡ faults_in r d most n (tree_at r d most n o s)

abbrev pub TreesStay : Type 0
TreesStay = (r q : Relations) (d : Document) (most n : ℕ) (o : Spot) (s : Schema) → Answered r q d most n (tree_at r d most n o s) → SameTree r q d most n o s

pub record SameTargets (r q : Relations) (d : Document) (most n : ℕ) : Type 0 where
  pub table : targets_table q d most n ≡ targets_table r d most n
  pub nodes : target_nodes q d most n ≡ target_nodes r d most n
  pub notes : notes_in q d most n (target_nodes q d most n) ≡ notes_in r d most n (target_nodes r d most n)
  pub faults : faults_in q d most n (target_nodes q d most n) ≡ faults_in r d most n (target_nodes r d most n)

abbrev pub TargetsStay : Type 0
TargetsStay = (r q : Relations) (d : Document) (most n : ℕ) → Answered r q d most n (target_nodes r d most n) → SameTargets r q d most n

-- what was clean by the judge that was asked is clean by the other
pub record CleanStays : Type 0 where
  pub tree : (way : Way) (r q : Relations) (d : Document) (most n : ℕ) (o : Spot) (s : Schema) → Answered r q d most n (tree_at r d most n o s)
      → AreClean way r d most n (tree_at r d most n o s) → AreClean way q d most n (tree_at q d most n o s)
  pub targets : (way : Way) (r q : Relations) (d : Document) (most n : ℕ) → Answered r q d most n (target_nodes r d most n)
      → AreClean way r d most n (target_nodes r d most n) → AreClean way q d most n (target_nodes q d most n)

-- ---- the tables that a space comes to: `q` is the judge of now, and each call before had its own

pub data ComesByJudges (q : Relations) (d : Document) (depth n : ℕ) : Table → Type 0 where
  targets_by : (r : Relations) → Answered r q d depth n (target_nodes r d depth n) → ComesByJudges q d depth n (targets_table r d depth n)
  schema_by : (r : Relations) (t : Table) (at : Location) (h : Handed) (s : Schema) → ComesByJudges q d depth n t → schema_at d at ≡ Some s
      → Answered r q d depth n (tree_at r d depth n (begins_at at h) s) → ComesByJudges q d depth n (with_tree t (entry_at r d depth n (begins_at at h) s))

-- so the laws of such tables speak of it, by the judge of now
abbrev pub JudgesMayChange : Type 0
JudgesMayChange = (q : Relations) (d : Document) (depth n : ℕ) (t : Table) → ComesByJudges q d depth n t → ComesAbout q d depth n t

pub data SinceByJudges (q : Relations) (d : Document) (depth n : ℕ) (t : Table) : Table → Type 0 where
  nothing_since : SinceByJudges q d depth n t t
  schema_since : (r : Relations) (u : Table) (at : Location) (h : Handed) (s : Schema) → SinceByJudges q d depth n t u → schema_at d at ≡ Some s
      → Answered r q d depth n (tree_at r d depth n (begins_at at h) s) → SinceByJudges q d depth n t (with_tree u (entry_at r d depth n (begins_at at h) s))

abbrev pub JudgesMayChangeSince : Type 0
JudgesMayChangeSince = (q : Relations) (d : Document) (depth n : ℕ) (t u : Table) → SinceByJudges q d depth n t u → ComesSince q d depth n t u
