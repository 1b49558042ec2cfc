-- The graph of a document's references at one value: its nodes are the places that references lead to.
use Rattle.std.specs.Prelude.{ℕ, suc, List, [], ◌∷◌, ◌++◌, map, length, Bool, true, false, Option, Some, None, filter, bytes_eq, if◌then◌else◌, slice_index_or, ◌<◌, ◌≡◌}
use Rattle.std.specs.Cmp.Lexicographic.{pointwise}
use Rattle.json_value.specs.Value.{same_bool}
use Rattle.schema_defs.specs.Location.{Location}
use Rattle.schema_defs.specs.Schema.{Schema, Definition, Document}
use Rattle.schema_defs.specs.Admits.{definition_location, target_location}
use Rattle.schema_defs.specs.Children.{schema_at}
use Rattle.schema_defs.specs.Walks.{Leads}
use Rattle.schema_defs.specs.References.{same_references}
use Rattle.reference_graph.specs.Graph.{Graph}

-- the definitions under `$defs`, or those under `definitions`, in the order of their names
abbrev pub definitions_under : Bool → List Definition → List Definition
definitions_under under_defs ds = filter (λ e. same_bool e.under_defs under_defs) ds

-- the root, then the definitions under `$defs` by name, then those under `definitions` by name
abbrev pub target_places : Document → List Location
target_places d = [] ∷ map definition_location (definitions_under true d.definitions ++ definitions_under false d.definitions)

abbrev pub same_place : Location → Location → Bool
same_place = pointwise bytes_eq

-- the number of a place in a list, or the list's length where it isn't there
abbrev pub number_in : List Location → Location → ℕ
number_in [] l = 0
number_in (m ∷ ms) l = if same_place m l then 0 else suc (number_in ms l)

-- the number of a place that a reference may lead to; where it leads nowhere, a number that no place has
abbrev pub number_at : Document → Option Location → ℕ
number_at d None = length (target_places d)
number_at d (Some m) = number_in (target_places d) m

abbrev pub number_of : Document → List ℕ → ℕ
number_of d q = number_at d (target_location d q)

-- the places that the references at one value lead to, from what stands at a place
abbrev pub numbers_at : Document → Option Schema → List ℕ
numbers_at d None = []
numbers_at d (Some s) = map (number_of d) (same_references s)

abbrev pub reference_graph_of : Document → Graph
reference_graph_of d = map (λ l. numbers_at d (schema_at d l)) (target_places d)

-- no target whose place has a lesser number than i lies on a loop at one value
abbrev pub NoLoopBefore : Document → ℕ → Type 0
NoLoopBefore d i = (k : ℕ) → k < i → ¬ (Leads d (slice_index_or (target_places d) k []) (slice_index_or (target_places d) k []))

-- the walk begins at the place of a target before which none lies on a loop
abbrev pub BeginsFirst : Document → List Location → Type 0
BeginsFirst d [] = ⊥
BeginsFirst d (l ∷ ls) = (i : ℕ) × (i < length (target_places d)) × (l ≡ slice_index_or (target_places d) i []) × NoLoopBefore d i
