-- What comes to a table: the items that references lead to, or the entry of one more schema.
use Rattle.std.specs.Prelude.{ℕ, List, [], ◌∷◌, ◌++◌, Bool, true, false, Option, Some, None, bytes_eq, if◌then◌else◌}
use Rattle.schema_defs.specs.Location.{Step, Location}
use Rattle.schema_defs.specs.Texts.{Relations}
use Rattle.schema_defs.specs.Schema.{Schema, Definition, Document}
use Rattle.schema_defs.specs.Admits.{defined, definition_word}
use Rattle.entry_defs.specs.Entry.{Target, the_root, definition, Entry}
use Rattle.entry_defs.specs.Table.{Table}
use Rattle.convert_defs.specs.Convert.{Handed, root_name}
use Rattle.convert_defs.specs.RootReference.{refers_to_root}
use Rattle.convert_walks.specs.Spot.{Spot}
use Rattle.convert_walks.specs.Tree.{Node, definition_trees, entry_at, root_spot, table_of, tree_at}
use Rattle.history_laws.specs.Placing.{led_alone}

-- ---- where items stand that references lead to

abbrev pub definition_at : Step → Step → Option Definition → Option Target
definition_at word n None = None
definition_at word n (Some e) = if bytes_eq word (definition_word e.under_defs) then Some (definition n) else None

-- a definition, and the root where some `$ref` is `#`
abbrev pub target_at : Document → Location → Option Target
target_at d [] = if refers_to_root d then Some the_root else None
target_at d (word ∷ n ∷ []) = definition_at word n (defined n d.definitions)
target_at d _ = None

-- ---- the items that references lead to, where walks have at most so many steps, and there are n levels

module _ (r : Relations) (d : Document) (depth n : ℕ) where
  abbrev pub used_root_tree : Bool → List Node
  used_root_tree true = tree_at r d depth n (root_spot r d depth n) d.root
  used_root_tree false = []

  -- the schemas that they stand for: the definitions in the order of their names, and then the root
  abbrev pub target_nodes : List Node
  target_nodes = definition_trees r d depth n d.definitions ++ used_root_tree (refers_to_root d)

  abbrev pub targets_table : Table
  targets_table = led_alone (table_of r d depth n)

-- ---- one more schema

-- the name that is given, or else by the rule of wanted names: the root's, or its title
abbrev pub wanted_at : Document → Location → Handed → Handed
wanted_at d at (Some n) = Some n
wanted_at d [] None = Some (root_name d.root)
wanted_at d (k ∷ ks) None = None

-- walks begin at it
abbrev pub begins_at : Location → Handed → Spot
begins_at at h = record { handed = h; path = at; walk = at ∷ []; in_made = false }

module _ (r : Relations) (d : Document) (depth n : ℕ) (at : Location) (name : Handed) where
  abbrev pub schema_spot : Spot
  schema_spot = begins_at at (wanted_at d at name)

  abbrev pub schema_entry : Schema → Entry
  schema_entry s = entry_at r d depth n schema_spot s

  abbrev pub schema_nodes : Schema → List Node
  schema_nodes s = tree_at r d depth n schema_spot s
