-- The entry of a schema where rows may merge, and the conversion tree, by the levels that are left.
use Rattle.std.specs.Prelude.{ℕ, zero, suc, List, [], ◌∷◌, ◌++◌, map, Bool, true, false, Option, Some, None}
use Rattle.schema_defs.specs.Texts.{Relations}
use Rattle.schema_defs.specs.Schema.{Plain, Schema, boolean, object, Definition, Document}
use Rattle.schema_defs.specs.Admits.{definition_location}
use Rattle.entry_defs.specs.Entry.{the_root, definition, Entry, any_entry, reference}
use Rattle.entry_defs.specs.Table.{TargetEntry, Table}
use Rattle.convert_defs.specs.Row.{Part, Row, merged_row, row_parts}
use Rattle.convert_defs.specs.RootReference.{refers_to_root}
use Rattle.convert_defs.specs.Table.{finding_of, row_of}
use Rattle.convert_defs.specs.Convert.{named_by, entry_of, as_item, root_name}
use Rattle.merge_defs.specs.Outcome.{Outcome, fault, never, answer}
use Rattle.merge_walks.specs.Carried.{root_walk, has_more_steps, own_walk}
use Rattle.convert_walks.specs.Spot.{Spot, Branches, spot_inside, part_spot, part_schema, is_made_schema}
use Rattle.convert_walks.specs.Merging.{annotated, merged_at}

-- ---- what is converted in place of a schema whose row merges

pub record Standing : Type 0 where
  pub spot : Spot
  pub schema : Schema

abbrev pub plain_of : Schema → Option Plain
plain_of (boolean b) = None
plain_of (object p ss ls ns) = Some p

-- it stands at the place of the written schema, on its own walk, and is named as that; a boolean has the written schema's walk
abbrev pub answered_as : Spot → Schema → Option Plain → Schema → Standing
answered_as o s w (boolean b) = record { spot = record o { handed = Some (named_by o.handed s) }; schema = boolean b }
answered_as o s None (object q ss ls ns) = record { spot = record o { walk = own_walk q; in_made = is_made_schema (object q ss ls ns) }; schema = object q ss ls ns }
answered_as o s (Some p) (object q ss ls ns) = record { spot = record o { walk = own_walk q; in_made = is_made_schema (object q ss ls ns) }; schema = annotated p (object q ss ls ns) }

-- never is converted to never; what is refused, to nothing
abbrev pub instead : Spot → Schema → Outcome Schema → Option Standing
instead o s (fault f) = None
instead o s (never ns) = Some (answered_as o s (plain_of s) (boolean false))
instead o s (answer ns m) = Some (answered_as o s (plain_of s) m)

-- ---- the conversion tree: each schema that is converted, where it stands, and its entry

-- it is converted, with the outcome of its row's merge
pub data State : Type 0 where
  too_few_levels : State
  too_many_steps : State
  converted : Option (Outcome Schema) → State

pub record Node : Type 0 where
  pub spot : Spot
  pub schema : Schema
  pub entry : Entry
  pub state : State

abbrev pub cut : State → Spot → Schema → Node
cut t o s = record { spot = o; schema = s; entry = any_entry; state = t }

abbrev pub Trees : Type 0
Trees = Spot → Schema → List Node

-- ---- entries

abbrev pub if_merged : Row → Option (List Part)
if_merged (merged_row ps) = Some ps
if_merged _ = None

module _ (r : Relations) (d : Document) (most : ℕ) where
  module _ (n : ℕ) (convert : Spot → Schema → Entry) where
    abbrev pub standing_entry : Option Standing → Entry
    standing_entry None = any_entry
    standing_entry (Some t) = convert t.spot t.schema

    abbrev pub row_entry : Spot → Schema → Branches → Row → Option (List Part) → Entry
    row_entry o s ms w (Some ps) = standing_entry (instead o s (merged_at d most n o s ps))
    row_entry o s ms w None = entry_of (λ p. convert (part_spot o ms p) (part_schema p)) (named_by o.handed s) w

  -- nothing is said where there are too few levels
  abbrev pub entry_at : ℕ → Spot → Schema → Entry
  entry_at zero o s = any_entry
  entry_at (suc n) o s = row_entry n (λ o s. entry_at n o s) o s (finding_of r d s).branches (row_of r d s) (if_merged (row_of r d s))

  -- ---- the tree

  abbrev pub parts_trees : Trees → Spot → Branches → List Part → List Node
  parts_trees tree o ms [] = []
  parts_trees tree o ms (p ∷ ps) = tree (part_spot o ms p) (part_schema p) ++ parts_trees tree o ms ps

  -- a branch is no schema of the tree, but is met
  abbrev pub deep_branches : Spot → Branches → List Node
  deep_branches o [] = []
  deep_branches o (m ∷ ms) =
      elim (has_more_steps most (spot_inside o None m.0 m.1).walk) [ true ↦ cut too_many_steps (spot_inside o None m.0 m.1) m.1 ∷ deep_branches o ms | false ↦ deep_branches o ms ]

  abbrev pub standing_tree : Trees → Option Standing → List Node
  standing_tree tree None = []
  standing_tree tree (Some t) = tree t.spot t.schema

  -- below a schema: what stands in its place, or its row's parts
  abbrev pub below : ℕ → Trees → Spot → Schema → Branches → Row → Option (List Part) → List Node
  below n tree o s ms w (Some ps) = standing_tree tree (instead o s (merged_at d most n o s ps))
  below n tree o s ms w None = deep_branches o ms ++ parts_trees tree o ms (row_parts w)

  abbrev pub merge_of : ℕ → Spot → Schema → Option (List Part) → Option (Outcome Schema)
  merge_of n o s None = None
  merge_of n o s (Some ps) = Some (merged_at d most n o s ps)

  abbrev pub tree_at : ℕ → Trees
  tree_at zero o s = cut too_few_levels o s ∷ []
  tree_at (suc n) o s = elim (has_more_steps most o.walk) [
    | true ↦ cut too_many_steps o s ∷ []
    | false ↦ record { spot = o; schema = s; entry = entry_at (suc n) o s; state = converted (merge_of n o s (if_merged (row_of r d s))) }
        ∷ below n (λ o s. tree_at n o s) o s (finding_of r d s).branches (row_of r d s) (if_merged (row_of r d s))
  ]

  -- ---- a document, by so many levels

  module _ (n : ℕ) where
    abbrev pub definition_spot : Definition → Spot
    definition_spot e = record { handed = Some e.name; path = definition_location e; walk = definition_location e ∷ []; in_made = false }

    abbrev pub root_spot : Spot
    root_spot = record { handed = Some (root_name d.root); path = []; walk = root_walk; in_made = false }

    abbrev pub root_entry : Entry
    root_entry = entry_at n root_spot d.root

    abbrev pub definition_target : Definition → TargetEntry
    definition_target e = record { target = definition e.name; led_to = as_item e.name (entry_at n (definition_spot e) e.body) }

    abbrev pub root_targets : Bool → List TargetEntry
    root_targets true = record { target = the_root; led_to = as_item (root_name d.root) root_entry } ∷ []
    root_targets false = []

    abbrev pub root_use : Bool → Entry
    root_use true = reference the_root
    root_use false = root_entry

    abbrev pub table_of : Table
    table_of = record { targets = map definition_target d.definitions ++ root_targets (refers_to_root d); trees = root_use (refers_to_root d) ∷ [] }

    abbrev pub definition_trees : List Definition → List Node
    definition_trees [] = []
    definition_trees (e ∷ es) = tree_at n (definition_spot e) e.body ++ definition_trees es

    -- the definitions in the order of their names, then the root
    abbrev pub document_tree : List Node
    document_tree = definition_trees d.definitions ++ tree_at n root_spot d.root
