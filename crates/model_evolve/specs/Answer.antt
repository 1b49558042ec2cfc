-- What `covers` answers, as the checker says it.
use Rattle.std.specs.Prelude.{◌≡◌, ℕ, slice_get, true}
use Rattle.json_value.specs.Value.{Value}
use Rattle.schema_defs.specs.Texts.{Relations, IsLawful}
use Rattle.syntax_trees.specs.View.{ty as ty_view}
use Rattle.type_spellings.specs.Types.{type_of}
use Rattle.model_defs.specs.Types.{TypeModel}
use Rattle.model_defs.specs.Reads.{reads}
use Rattle.model_defs.specs.Settled.{settled}
use Rattle.derive_model.specs.Judging.{AreSound}
use Rattle.derive_model.specs.ModuleView.{models_in, conversions_in}
use Rattle.derive_model.specs.declared.module.Module.{Module}
use Rattle.evolve_defs.specs.Forms as forms
use Rattle.evolve_defs.specs.Forms.{Table, a_type}
use Rattle.evolve_defs.specs.Steps as steps
use Rattle.evolve_defs.specs.Steps.{fails, step}
use Rattle.evolve_defs.specs.Covers.{Reached}
use Rattle.evolve_defs.specs.Walk.{Walked, covered, broken_at}
use Rattle.evolve_defs.specs.Spots.{Spots, node_at, container_node, covering}
use Rattle.evolve_walks.specs.Same.{same_spots}
use Rattle.evolve_rows.specs.TurnView.{broken_view}
use Rattle.evolve_ways.specs.Ways.{Leads}
use Rattle.model_evolve.specs.WayView.{way_view}
use Rattle.model_evolve.specs.declared.node.Node.{Node}
use Rattle.model_evolve.specs.declared.node.Node.TheVariants.{Ty, Content}
use Rattle.model_evolve.specs.declared.node.Covered.{Covered}
use Rattle.model_evolve.specs.declared.node.Covered.TheVariants.{Yes, No}

abbrev pub table_in : Module → Table
table_in m = record { models = models_in m; conversions = conversions_in m }

-- a type, or the contents of a variant by the numbers of its item and its own
abbrev pub node_in : Table → Node → forms.Node
node_in t (Ty s) = a_type (type_of (ty_view s))
node_in t (Content i v) = container_node (slice_get t.models i) v

-- the answer stands for what the walk came to, which is the first pair that fails, if one does
abbrev pub answered : Table → Table → Covered → Walked Spots → Type 0
answered old new Yes covered = Unit {0}
answered old new (No a b e way) (broken_at p f) = (node_in old a ≡ node_at old p.0) × (node_in new b ≡ node_at new p.1) × (broken_view e ≡ f)
answered old new _ _ = ⊥

module _ (old : Table) (s : TypeModel) (new : Table) (t : TypeModel) where
  -- the answer of the walk from the roots, where so many pairs as it needs may be entered
  abbrev pub IsFound : Covered → Type 0
  IsFound c = (n : ℕ) × answered old new c (covering old new same_spots n s t)

  -- by every lawful judge of texts by which the old defaults are sound: what the old table reads and settles, the new one reads
  abbrev pub AreKept : Covered → Type 0
  AreKept Yes =
      (r : Relations) → IsLawful r → AreSound old.models old.conversions r → (v : Value) → reads old.models old.conversions r s v ≡ true
      → reads new.models new.conversions r t (settled old.models old.conversions r s v) ≡ true
  AreKept (No a b e way) = Unit {0}

  -- a pair that is carried is reached from the roots, and breaks the rule
  pub record Breaks (a b : forms.Node) (e : steps.Broken) : Type 0 where
    pub reached : Reached old new (a_type s) (a_type t) a b
    pub rule : step old new a b ≡ fails e

  abbrev pub IsBroken : Covered → Type 0
  IsBroken Yes = Unit {0}
  IsBroken (No a b e way) = Breaks (node_in old a) (node_in new b) (broken_view e)

  -- the way that is carried leads from the roots to the pair
  abbrev pub IsLedTo : Covered → Type 0
  IsLedTo Yes = Unit {0}
  IsLedTo (No a b e way) = Leads old new (node_in old a) (node_in new b) (a_type s) (a_type t) (way_view way.items)
