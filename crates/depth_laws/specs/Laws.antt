-- How many steps the walk has that Depth carries.
use Rattle.std.specs.Prelude.{◌≡◌, ℕ, ◌+◌, List, ◌∷◌, Some, length}
use Rattle.json_value.specs.Value.{Value}
use Rattle.schema_defs.specs.declared.Setting.{Setting}
use Rattle.schema_defs.specs.Location.{Location}
use Rattle.schema_defs.specs.Texts.{Relations}
use Rattle.schema_defs.specs.Schema.{Document}
use Rattle.schema_defs.specs.Read.{document_of}
use Rattle.merge_walks.specs.Carried.{Walk}
use Rattle.convert_walks.specs.Told.{Reason, too_deep, faults_of}

-- where the first fault of a document is Depth, its walk has exactly one step more than are allowed; a later one may have two, since what is told of a branch's part comes after its branch
abbrev pub DepthIsOneStepMore : Type 0
DepthIsOneStepMore =
    (setting : Setting) (v : Value) (d : Document) → document_of setting v ≡ Some d → (r : Relations) (most n : ℕ) (l : Location) (w : Walk) (fs : List (Location × Reason)) → faults_of r d most n ≡ (l, too_deep w) ∷ fs → length w ≡ most + 2
