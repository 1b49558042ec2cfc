-- The kinds that items read, found in rounds; and which item hands a value on to which.
use Rattle.std.specs.Prelude.{◌≡◌, ℕ, zero, suc, ◌||◌, List, [], ◌∷◌, map, false, Option, Some, None, slice_index_or, filter_map}
use Rattle.std.specs.List.{list_any}
use Rattle.name_tables.specs.Names.{Names, place_of}
use Rattle.reference_graph.specs.Graph.{Graph}
use Rattle.model_defs.specs.Model.{ContainerModel}
use Rattle.model_defs.specs.Reads.{allowed}
use Rattle.model_defs.specs.Reach.{asked_by}
use Rattle.value_models.specs.Names.{container_names}
use Rattle.writing_laws.specs.Kinds.{Kind, may_within}
use Rattle.value_kinds.specs.Claims.{ClaimD}
use Rattle.value_kinds.specs.Kinds.{has, kinds_where}
use Rattle.value_kinds.specs.declared.type_kinds.TypeKinds.{TypeKinds}

-- ---- the graph of what is asked

-- the places of those names, as far as they have one
abbrev pub places_of : Names → List (List ℕ) → List ℕ
places_of names ns = filter_map (λ n. place_of n names) ns

abbrev pub asked_places : Names → ContainerModel → List ℕ
asked_places names m = places_of names (asked_by (Some m))

-- each item refers to those that it hands a value on to
abbrev pub asked_graph : List ContainerModel → Graph
asked_graph ms = map (asked_places (container_names 0 ms)) ms

-- ---- kinds

abbrev pub no_kinds : TypeKinds
no_kinds = kinds_where (λ k. false)

abbrev pub kinds_at : List TypeKinds → ℕ → TypeKinds
kinds_at kinds p = slice_index_or kinds p no_kinds

-- its own, and those of the places
abbrev pub with_places : List TypeKinds → List ℕ → TypeKinds → TypeKinds
with_places kinds row own = kinds_where (λ k. has own k || list_any (λ p. has (kinds_at kinds p) k) row)

-- one round
abbrev pub next_kinds : List TypeKinds → List TypeKinds → Graph → List TypeKinds
next_kinds kinds [] rows = []
next_kinds kinds (own ∷ owns) [] = []
next_kinds kinds (own ∷ owns) (row ∷ rows) = with_places kinds row own ∷ next_kinds kinds owns rows

-- after so many rounds
abbrev pub kinds_after : List TypeKinds → Graph → ℕ → List TypeKinds
kinds_after owns rows zero = []
kinds_after owns rows (suc n) = next_kinds (kinds_after owns rows n) owns rows

-- those of a place that a name may have
abbrev pub kinds_of_place : List TypeKinds → Option ℕ → TypeKinds
kinds_of_place kinds None = no_kinds
kinds_of_place kinds (Some p) = kinds_at kinds p

-- by their names, they are those that items may read
pub record AreKinds (ms : List ContainerModel) (kinds : List TypeKinds) : Type 0 where
  pub read : (k : Kind) (n : List ℕ) → has (kinds_of_place kinds (place_of n (container_names 0 ms))) k ≡ may_within k ms (allowed ms) n

-- what a content may read, by what it asks
abbrev pub claimed_kinds : List ContainerModel → ClaimD → TypeKinds
claimed_kinds ms d = kinds_where (λ k. has d.own k || list_any (may_within k ms (allowed ms)) d.asked)
