-- What `covers` answers of two reports.
use Rattle.std.specs.Prelude.{◌≡◌, ◌↔◌, ℕ, List}
use Rattle.describe_defs.specs.Plain.{IsPlainTable}
use Rattle.evolve_defs.specs.Covers as walk
use Rattle.evolve_defs.specs.Forms.{Table, a_type}
use Rattle.evolve_rows.specs.declared.turn.Broken.{Broken}
use Rattle.model_evolve.specs.Answer.{AreKept, IsBroken, IsFound, IsLedTo}
use Rattle.model_evolve.specs.declared.node.Covered.{Covered}
use Rattle.model_evolve.specs.declared.node.Covered.TheVariants.{Yes, No}
use Rattle.model_evolve.specs.declared.node.Mark.{Mark}
use Rattle.model_evolve.specs.declared.node.Node.{Node}
use Rattle.std.specs.declared.alloc.Global.{Global}
use Rattle.std.specs.declared.vec.Vec.{Vec}
use Rattle.schema_tree.specs.Conversions.{conversions_view}
use Rattle.schema_words.specs.Said.{Said, page, no}
use Rattle.typify_run.specs.Examine.{as_it_stands}
use Rattle.typify_run.specs.Headline.{models_of, root_of}
use Rattle.typify_run.specs.declared.report.Report.{Report}
use Rattle.covers_run.specs.Page.{broken_page, covered_page}

-- the containers that the items are read back as, with their conversions
abbrev pub table_of : Report → Table
table_of r = record { models = models_of as_it_stands r; conversions = conversions_view r.conversions }

-- The answer of `covers` from root to root: that of the walk over pairs, so that a yes carries that each old value is read, and a no that its pair is reached and breaks the
-- rule, and that its way leads there; a yes comes exactly where no pair that is reached breaks one, and where both tables are the same plain table.
pub record IsAnswer (old new : Report) (c : Covered) : Type 0 where
  pub found : IsFound (table_of old) (root_of old) (table_of new) (root_of new) c
  pub kept : AreKept (table_of old) (root_of old) (table_of new) (root_of new) c
  pub broken : IsBroken (table_of old) (root_of old) (table_of new) (root_of new) c
  pub led : IsLedTo (table_of old) (root_of old) (table_of new) (root_of new) c
  pub exact : (c ≡ Yes) ↔ walk.Covers (table_of old) (table_of new) (a_type (root_of old)) (a_type (root_of new))
  pub plain : table_of old ≡ table_of new → root_of old ≡ root_of new → IsPlainTable (models_of as_it_stands old) (conversions_view old.conversions) (root_of old) → c ≡ Yes

-- the page says yes
pub record IsCovered (old new : Report) (text : List ℕ) : Type 0 where
  pub answer : IsAnswer old new Yes
  pub told : text ≡ covered_page old new

-- the page says no, with the first pair that breaks a rule
pub record IsUncovered (old new : Report) (text : List ℕ) : Type 0 where
  pub old_node : Node
  pub new_node : Node
  pub rule : Broken
  pub way : Vec Mark Global
  pub answer : IsAnswer old new (No old_node new_node rule way)
  pub told : text ≡ broken_page old new old_node new_node rule way.items

abbrev pub Compares : Report → Report → Said → Type 0
Compares old new (page text) = IsCovered old new text
Compares old new (no text) = IsUncovered old new text
