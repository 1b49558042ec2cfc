-- Which ids an entry uses by value: through options, tuples and arrays; a reference uses the item that it leads to, and an item what its fields and variants hold.
use Rattle.std.specs.Prelude.{List, [], ◌∷◌, length, map, Bool}
use Rattle.std.specs.List.{flat_map}
use Rattle.entry_defs.specs.Space.{Id, ContentsAt, unit_at, newtype_at, tuple_at, struct_at, ShapeAt, struct_shape_at, enum_shape_at, newtype_shape_at, EntryAt, option_at, tuple_entry_at, array_at, reference_at, item_at, Space}
use Rattle.use_graph.specs.Graph.{Graph, reaches_within}

abbrev pub used_by_contents : ContentsAt → List Id
used_by_contents unit_at = []
used_by_contents (newtype_at j) = j ∷ []
used_by_contents (tuple_at js) = js
used_by_contents (struct_at gs) = map (λ g. g.entry) gs

-- a rest is a map, which uses nothing by value
abbrev pub used_by_shape : ShapeAt → List Id
used_by_shape (struct_shape_at closed gs p) = map (λ g. g.entry) gs
used_by_shape (enum_shape_at closed tag xs) = flat_map (λ x. used_by_contents x.contents) xs
used_by_shape (newtype_shape_at j rule) = j ∷ []

abbrev pub used_by : EntryAt → List Id
used_by (option_at j) = j ∷ []
used_by (tuple_entry_at js) = js
used_by (array_at j n) = j ∷ []
used_by (reference_at j) = j ∷ []
used_by (item_at n s) = used_by_shape s
used_by _ = []

abbrev pub uses_at : Space → Graph
uses_at space = map used_by space

-- whether an item boxes its use of another: exactly where the used one reaches the using one
abbrev pub boxes_at : Space → Id → Id → Bool
boxes_at space owner used = reaches_within (uses_at space) (length space) used owner
