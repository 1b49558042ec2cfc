-- The targets of references by name, and their numbers.
use Rattle.std.specs.Prelude.{ℕ, suc, List, [], ◌∷◌, ◌++◌, map, filter, length, Bool, true, false, Option, Some, None, is_some, option_map, unwrap_or, bytes_eq, codes, if◌then◌else◌}
use Rattle.std.specs.Ordering.{nat_cmp}
use Rattle.std.specs.Cmp.Lexicographic.{slice_cmp}
use Rattle.std.specs.BTreeMap.{BTreeMap, get_by}
use denote.Ref.{Bor}
use Rattle.json_value.specs.Value.{same_bool}
use Rattle.schema_defs.specs.Schema.{Schema, Document}
use Rattle.schema_defs.specs.Admits.{defined, definition_name, is_root_reference}
use Rattle.schema_defs.specs.Children.{schema_at}
use Rattle.schema_defs.specs.References.{same_references}
use Rattle.schema_defs.specs.Laws.{NamesRise}
use Rattle.reference_graph.specs.Graph.{Graph}

-- the definitions stand in the order of their names, each name once
abbrev pub Rises : Document → Type 0
Rises d = NamesRise (map (λ e. e.name) d.definitions)

-- whether the definition of the name stands under `$defs`
abbrev pub is_under_defs : Document → List ℕ → Bool
is_under_defs d n = is_some (schema_at d (codes "$defs" ∷ n ∷ []))

abbrev pub names_under : Document → Bool → List (List ℕ)
names_under d b = filter (λ n. same_bool (is_under_defs d n) b) (map (λ e. e.name) d.definitions)

-- the names of the targets in the order of their numbers; the root has none
abbrev pub target_names : Document → List (Option (List ℕ))
target_names d = None ∷ (map Some (names_under d true) ++ map Some (names_under d false))

-- the texts behind references
abbrev pub seen : List (Option (Bor (List ℕ))) → List (Option (List ℕ))
seen ts = map (option_map (λ t. t.now)) ts

-- what stands at the target of a name
abbrev pub schema_named : Document → Option (List ℕ) → Option Schema
schema_named d None = Some d.root
schema_named d (Some n) = option_map (λ e. e.body) (defined n d.definitions)

abbrev pub is_named : List ℕ → Option (List ℕ) → Bool
is_named n None = false
is_named n (Some m) = bytes_eq m n

-- the number of the name among these targets, the first of which has the number i
abbrev pub place_named : List ℕ → ℕ → List (Option (List ℕ)) → Option ℕ
place_named n i [] = None
place_named n i (t ∷ ts) = if is_named n t then Some i else place_named n (suc i) ts

abbrev pub number_of_name : BTreeMap (Bor (List ℕ)) ℕ → List ℕ → Option ℕ
number_of_name m n = get_by (λ k. slice_cmp nat_cmp n k.now) m

abbrev pub named_number : (List ℕ → Option ℕ) → ℕ → Option (List ℕ) → ℕ
named_number f count None = count
named_number f count (Some n) = unwrap_or (f n) count

-- the number of a reference's target, where names have these numbers; `count` where it has no target
abbrev pub number_by : (List ℕ → Option ℕ) → ℕ → List ℕ → ℕ
number_by f count q = if is_root_reference q then 0 else named_number f count (definition_name q)

abbrev pub row_at : (List ℕ → Option ℕ) → ℕ → Option Schema → List ℕ
row_at f count None = []
row_at f count (Some s) = map (number_by f count) (same_references s)

-- the graph of references, by the names of the targets
abbrev pub named_graph : Document → Graph
named_graph d = map (λ t. row_at (λ n. place_named n 0 (target_names d)) (length (target_names d)) (schema_named d t)) (target_names d)
