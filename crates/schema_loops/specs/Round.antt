-- Walks at one value, and the places on a way down.
use Rattle.std.specs.Prelude.{◌≡◌, ℕ, List, [], ◌∷◌, ◌++◌, Option, Some, None, length, ◌<◌, slice_index_or}
use Rattle.schema_defs.specs.Location.{Location}
use Rattle.schema_defs.specs.Schema.{Document}
use Rattle.schema_defs.specs.Admits.{definition_word}
use Rattle.schema_defs.specs.Walks.{Goes}
use Rattle.schema_loops.specs.Named.{Rises, is_under_defs, seen, target_names, number_of_name, place_named, named_graph}
use Rattle.reference_graph.specs.Graph as graph
use Rattle.schema_loops.specs.declared.numbers.Numbers.{Numbers}
use denote.Ref.{Bor}

-- where the target of a name stands
abbrev pub location_named : Document → Option (List ℕ) → Location
location_named d None = []
location_named d (Some n) = definition_word (is_under_defs d n) ∷ n ∷ []

-- the places that these steps lead to, one after the other
abbrev pub places_down : Location → List Location → List Location
places_down l [] = []
places_down l (k ∷ ks) = (l ++ k) ∷ places_down (l ++ k) ks

-- from l one goes to the first of these places, from each of them to the next, and m is the last, or l itself
abbrev pub Follows : Document → Location → List Location → Location → Type 0
Follows d l [] m = l ≡ m
Follows d l (k ∷ ks) m = Goes d l k × Follows d k ks m

-- the walk's places have one or more others at their end, which lead from l to m
abbrev pub GoesOn : Document → Location → Location → List Location → List Location → Type 0
GoesOn d l m old new = (ks : List Location) × (new ≡ old ++ ks) × (0 < length ks) × Follows d l ks m

-- the targets are those of the document, whose names rise, and names have their numbers
abbrev pub IsNumbered : Document → Numbers → List (Option (Bor (List ℕ))) → Type 0
IsNumbered d m ts = (seen ts ≡ target_names d) × ((n : List ℕ) → number_of_name m.by_name n ≡ place_named n 0 (target_names d)) × (m.count ≡ length (target_names d)) × Rises d

-- where the target with a number stands
abbrev pub location_at : Document → ℕ → Location
location_at d j = location_named d (slice_index_or (target_names d) j None)

-- the walk begins where the first of these targets stands
abbrev pub BeginsAt : Document → List ℕ → List Location → Type 0
BeginsAt d [] walk = ⊥
BeginsAt d (i ∷ is) walk = (ks : List Location) × (walk ≡ location_at d i ∷ ks)

-- the walk from the place of the first target has come to that of another, from which these lead back
abbrev pub IsOnTheWay : Document → ℕ → ℕ → List ℕ → List Location → Type 0
IsOnTheWay d first at left places = graph.GoesRound (named_graph d) first at left × ((ks : List Location) × (places ≡ location_at d first ∷ ks) × Follows d (location_at d first) ks (location_at d at))
