-- The first fault of a conversion tree: where it is Depth, its walk has exactly one step more than are allowed.
use Rattle.std.specs.Prelude.{◌≡◌, ℕ, suc, List, [], ◌∷◌, take, length, Option, Some, None, Contains, ◌⊎◌}
use Rattle.std.specs.List.{AllByRecursion}
use Rattle.json_value.specs.Value.{Value}
use Rattle.schema_defs.specs.declared.Setting.{Setting}
use Rattle.schema_defs.specs.Read.{document_of}
use Rattle.schema_defs.specs.Location.{Location}
use Rattle.schema_defs.specs.Texts.{Relations}
use Rattle.schema_defs.specs.Schema.{Schema, Document}
use Rattle.merge_walks.specs.Samples.{walk_in}
use Rattle.convert_defs.specs.Row.{Part, child, of_branch, lone, made, Finding, row_parts}
use Rattle.convert_defs.specs.Table.{finding_of}
use Rattle.convert_walks.specs.Spot.{Branches}
use Rattle.convert_walks.specs.Tree.{if_merged}
use Rattle.convert_walks.specs.Told.{Reason, too_deep, faults_of}
use Rattle.depth_laws.specs.Steps.{AreShort, TargetsAreShort}

-- ---- what is asked of rows

-- what a row makes in the place of a schema has that schema's walk or none
abbrev pub IsOfWalk : Schema → Schema → Type 0
IsOfWalk s t = (walk_in t ≡ None) ⊎ (walk_in t ≡ walk_in s)

-- a member with these steps
abbrev pub IsThere : Branches → Location → Type 0
IsThere ms k = (m : Location × Schema) × Contains ms m × (k ≡ m.0)

module _ (most : ℕ) (s : Schema) where
  abbrev pub IsFitPart : Branches → Part → Type 0
  IsFitPart ms (child k t) = AreShort most t
  IsFitPart ms (of_branch k t) = AreShort most t × IsThere ms (take 2 k)
  IsFitPart ms (lone k t) = AreShort most t
  IsFitPart ms (made t) = AreShort most t × IsOfWalk s t

  abbrev pub AreFitParts : Branches → List Part → Type 0
  AreFitParts ms [] = Unit {0}
  AreFitParts ms (p ∷ ps) = IsFitPart ms p × AreFitParts ms ps

  abbrev pub AreShortBranches : Branches → Type 0
  AreShortBranches [] = Unit {0}
  AreShortBranches (m ∷ ms) = AreShort most m.1 × AreShortBranches ms

  -- those of a row that merges
  abbrev pub IsMergedPart : Part → Type 0
  IsMergedPart (child k t) = AreShort most t
  IsMergedPart (of_branch k t) = ⊥
  IsMergedPart (lone k t) = AreShort most t
  IsMergedPart (made t) = AreShort most t

  abbrev pub AreMergedParts : List Part → Type 0
  AreMergedParts [] = Unit {0}
  AreMergedParts (p ∷ ps) = IsMergedPart p × AreMergedParts ps

  abbrev pub IfMerged : Option (List Part) → Type 0
  IfMerged None = Unit {0}
  IfMerged (Some ps) = AreMergedParts ps

  pub record IsFitFinding (f : Finding) : Type 0 where
    pub branches : AreShortBranches f.branches
    pub parts : AreFitParts f.branches (row_parts f.row)
    pub merged : IfMerged (if_merged f.row)

-- what a row hands on is in the schema, or is made of it
abbrev pub RowsAreFit : Type 0
RowsAreFit = (r : Relations) (d : Document) (most : ℕ) → TargetsAreShort d most → (s : Schema) → AreShort most s → IsFitFinding most s (finding_of r d s)

-- ---- documents

abbrev pub IsFreshSchema : ℕ → Schema → Type 0
IsFreshSchema most s = AreShort most s × (walk_in s ≡ None)

-- no schema of it has a walk, as none has that was read
pub record IsFresh (d : Document) (most : ℕ) : Type 0 where
  pub targets : TargetsAreShort d most
  pub root : IsFreshSchema most d.root
  pub definitions : AllByRecursion (λ e. IsFreshSchema most e.body) d.definitions

abbrev pub IsExact : ℕ → Location × Reason → Type 0
IsExact most (l, too_deep w) = length w ≡ suc (suc most)
IsExact most f = Unit {0}

abbrev pub FirstIsExact : ℕ → List (Location × Reason) → Type 0
FirstIsExact most [] = Unit {0}
FirstIsExact most (f ∷ fs) = IsExact most f

abbrev pub FirstDepthIsExact : Type 0
FirstDepthIsExact = (r : Relations) (d : Document) (most n : ℕ) → IsFresh d most → FirstIsExact most (faults_of r d most n)

-- so is each document that is read
abbrev pub ReadIsFresh : Type 0
ReadIsFresh = (setting : Setting) (v : Value) (d : Document) → document_of setting v ≡ Some d → (most : ℕ) → IsFresh d most
