-- Which items types and bodies name, by their places.
use Rattle.std.specs.Prelude.{ℕ, List, [], ◌∷◌, map}
use Rattle.std.specs.List.{flat_map}
use Rattle.reference_graph.specs.Graph.{Graph}
use Rattle.model_defs.specs.Types.{TypeModel}
use Rattle.model_defs.specs.Model.{FieldModel, VariantModel, ContainerModel}
use Rattle.example_defs.specs.Outside.{items_in, types_in}
use Rattle.value_kinds.specs.Rounds.{places_of}
use Rattle.value_models.specs.Names.{container_names}

-- the places of those names, as far as they have one
abbrev pub item_places : List ContainerModel → List (List ℕ) → List ℕ
item_places ms ns = places_of (container_names 0 ms) ns

-- the items that types name, one after another
abbrev pub items_of : List TypeModel → List (List ℕ)
items_of ts = flat_map items_in ts

abbrev pub field_items : List FieldModel → List (List ℕ)
field_items fs = items_of (map (λ f. f.field_type) fs)

abbrev pub variant_items : List VariantModel → List (List ℕ)
variant_items ws = items_of (flat_map (λ w. map (λ f. f.field_type) w.fields) ws)

abbrev pub body_places : List ContainerModel → ContainerModel → List ℕ
body_places ms m = item_places ms (items_of (types_in m.body))

-- each item leads to those that its body names
abbrev pub used_graph : List ContainerModel → Graph
used_graph ms = map (body_places ms) ms
