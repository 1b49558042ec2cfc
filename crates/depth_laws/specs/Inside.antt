-- What is told of a document names schemas inside it, and the walk of Depth is a way through it.
use Rattle.std.specs.Prelude.{◌≡◌, ◌≤◌, ◌<◌, ℕ, suc, [], ◌∷◌, true, length, Some, IsSome}
use Rattle.std.specs.List.{AllByRecursion}
use Rattle.json_value.specs.Value.{Value}
use Rattle.distinct_names.specs.Names.{NamesDiffer}
use Rattle.schema_defs.specs.declared.Setting.{Setting}
use Rattle.schema_defs.specs.Read.{document_of}
use Rattle.schema_defs.specs.Location.{Location}
use Rattle.schema_defs.specs.Texts.{Relations}
use Rattle.schema_defs.specs.Schema.{Document}
use Rattle.schema_defs.specs.Admits.{defined}
use Rattle.schema_defs.specs.Children.{schema_at}
use Rattle.schema_defs.specs.Counts.{nodes}
use Rattle.schema_defs.specs.Walks.{IsWalkFrom, IsGuarded}
use Rattle.merge_walks.specs.Carried.{Walk}
use Rattle.convert_walks.specs.Tree.{document_tree}
use Rattle.convert_walks.specs.Told.{Reason, too_deep, faults_of, notes_of}
use Rattle.each_schema.specs.Each.{EachSchema, of_any_size}
use Rattle.depth_laws.specs.Cycles.{HasNoCycle}
use Rattle.depth_laws.specs.Leading.{IsBare, TargetsAreBare}

-- each location is a child of the one before, or the target of its reference, whatever merges
abbrev pub IsWay : Document → Walk → Type 0
IsWay d [] = ⊥
IsWay d (l ∷ ls) = IsWalkFrom d true l ls

-- no schema has a walk or a name twice, and each definition is found by its name
pub record IsBareDocument (d : Document) : Type 0 where
  pub root : EachSchema IsBare of_any_size d.root
  pub definitions : AllByRecursion (λ e. EachSchema IsBare of_any_size e.body × (defined e.name d.definitions ≡ Some e)) d.definitions
  pub targets : TargetsAreBare d

-- each schema of the conversion tree has its place where one stands, and a way leads to where it comes from
abbrev pub TreesAreInside : Type 0
TreesAreInside = (r : Relations) (d : Document) (most n : ℕ) → IsGuarded d → IsBareDocument d → AllByRecursion (λ t. IsSome (schema_at d t.spot.path) × IsWay d t.spot.walk) (document_tree r d most n)

-- a schema stands there, and the walk of Depth is a way with more steps than are allowed
abbrev pub IsToldInside : Document → ℕ → Location × Reason → Type 0
IsToldInside d most (l, too_deep w) = IsSome (schema_at d l) × IsWay d w × (suc most < length w)
IsToldInside d most (l, reason) = IsSome (schema_at d l)

-- so is each document that is read of a value in whose objects no name stands twice
abbrev pub ReadIsBare : Type 0
ReadIsBare = (setting : Setting) (v : Value) (d : Document) → document_of setting v ≡ Some d → NamesDiffer v → IsBareDocument d

abbrev pub FaultsAreInside : Type 0
FaultsAreInside = (r : Relations) (d : Document) (most n : ℕ) → IsGuarded d → IsBareDocument d → AllByRecursion (IsToldInside d most) (faults_of r d most n)

-- a schema stands where a note is told
abbrev pub NotesAreInside : Type 0
NotesAreInside = (r : Relations) (d : Document) (most n : ℕ) → IsGuarded d → IsBareDocument d → AllByRecursion (λ m. IsSome (schema_at d m.place)) (notes_of r d most n)

abbrev pub IsNotDeep : Location × Reason → Type 0
IsNotDeep (l, too_deep w) = ⊥
IsNotDeep (l, reason) = Unit {0}

-- where references have no cycle, as many steps as there are schemas are enough
abbrev pub NodesAreEnough : Type 0
NodesAreEnough = (r : Relations) (d : Document) (most n : ℕ) → HasNoCycle d → IsBareDocument d → nodes d ≤ suc most → AllByRecursion IsNotDeep (faults_of r d most n)
