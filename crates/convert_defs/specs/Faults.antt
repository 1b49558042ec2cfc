-- Why a schema of the conversion tree is not converted.
use Rattle.std.specs.Prelude.{ℕ, not, nat_le, List, [], ◌∷◌, ◌++◌, Bool, if◌then◌else◌}
use Rattle.std.specs.List.{list_all}
use Rattle.schema_defs.specs.Location.{Location}
use Rattle.schema_defs.specs.Texts.{Relations}
use Rattle.schema_defs.specs.Schema.{Document}
use Rattle.convert_defs.specs.Row.{Row, merged_row, refused_row, Finding, Cause, mix, places, bad_pattern, too_deep}
use Rattle.convert_defs.specs.Table.{finding_of}
use Rattle.convert_defs.specs.Convert.{Node, document_tree}

abbrev pub fault_if : Bool → Cause → List Cause
fault_if b c = if b then c ∷ [] else []

module _ (r : Relations) (d : Document) (depth : ℕ) where
  abbrev pub row_faults : Row → List Cause
  row_faults (refused_row c) = c ∷ []
  row_faults (merged_row ps) = mix ∷ []
  row_faults w = []

  -- patterns are asked first; places are counted where a list is shorter than its sizes
  abbrev pub finding_faults : Finding → List Cause
  finding_faults f = fault_if (not (list_all r.is_pattern f.patterns)) bad_pattern ++ fault_if (not (nat_le f.places depth)) places ++ row_faults f.row

  abbrev pub node_faults : Node → List Cause
  node_faults t = if t.is_deep then too_deep ∷ [] else finding_faults (finding_of r d t.schema)

  abbrev pub placed : Location → List Cause → List (Location × Cause)
  placed l [] = []
  placed l (c ∷ cs) = (l, c) ∷ placed l cs

  abbrev pub faults_in : List Node → List (Location × Cause)
  faults_in [] = []
  faults_in (t ∷ ts) = placed t.place (node_faults t) ++ faults_in ts

  abbrev pub faults_of : List (Location × Cause)
  faults_of = faults_in (document_tree r d depth)
