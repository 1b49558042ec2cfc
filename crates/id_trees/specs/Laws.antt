-- The ids of the entries of a table that a space comes to: each has a tree, and takes what the tree takes and what the schema admits for which it was told.
use Rattle.std.specs.Prelude.{◌≡◌, ℕ, Some}
use Rattle.json_value.specs.Value.{Value, IsSmall}
use Rattle.schema_defs.specs.Location.{Location}
use Rattle.schema_defs.specs.Texts.{Relations, IsLawful}
use Rattle.schema_defs.specs.Schema.{Schema, Document}
use Rattle.schema_defs.specs.Admits.{admits}
use Rattle.schema_defs.specs.Children.{schema_at}
use Rattle.entry_defs.specs.Entry.{Target, Entry}
use Rattle.entry_defs.specs.Space.{Id, EntryAt, entry_at as at_id}
use Rattle.entry_defs.specs.Table.{Table}
use Rattle.entry_defs.specs.Takes.{takes}
use Rattle.convert_defs.specs.Convert.{Handed}
use Rattle.convert_defs.specs.Laws.{Keeps}
use Rattle.convert_defs.specs.Row.{Way}
use Rattle.convert_walks.specs.Tree.{entry_at, tree_at}
use Rattle.document_laws.specs.Laws.{WasRead}
use Rattle.space_defs.specs.Held.{Stands}
use Rattle.space_trees.specs.Filled.{leads_in}
use Rattle.entry_laws.specs.Ids.{takes_at}
use Rattle.history_laws.specs.Placing.{with_names, entries_of, target_id, with_tree, next_id}
use Rattle.history_laws.specs.Added.{target_at, target_nodes, begins_at}
use Rattle.history_laws.specs.Laws.{ComesAbout, OfTables, StandsAt, AreClean, ComesSince}

-- no id is without a tree
abbrev pub IdsHaveTrees : Type 0
IdsHaveTrees = OfTables (λ t. (i : Id) (x : EntryAt) → at_id (entries_of t) i ≡ Some x → (e : Entry) × StandsAt t e i)

-- whatever relations texts have
abbrev pub IdsTakeTheirTrees : Type 0
IdsTakeTheirTrees = OfTables (λ t. (r : Relations) (e : Entry) (i : Id) → Stands (leads_in (with_names t)) (entries_of t) e i → (v : Value) → takes (with_names t) r e v ≡ takes_at (entries_of t) r i v)

-- a schema that is added without faults, and without notes of one way: its id takes what it admits, whatever comes since
abbrev pub SchemasMeanIds : Type 0
SchemasMeanIds =
    (way : Way) (r : Relations) → IsLawful r → (d : Document) (depth n : ℕ) → WasRead d → AreClean way r d depth n (target_nodes r d depth n) → (t : Table) → ComesAbout r d depth n t
    → (at : Location) (h : Handed) (s : Schema) → schema_at d at ≡ Some s → AreClean way r d depth n (tree_at r d depth n (begins_at at h) s)
    → let e = entry_at r d depth n (begins_at at h) s in (u : Table) → ComesSince r d depth n (with_tree t e) u → (v : Value) → IsSmall v
    → Keeps way (admits r d v s) (takes_at (entries_of u) r (next_id t e) v)

-- the id of an item that references lead to
abbrev pub ItemsMeanIds : Type 0
ItemsMeanIds =
    (way : Way) (r : Relations) → IsLawful r → (d : Document) (depth n : ℕ) → WasRead d → AreClean way r d depth n (target_nodes r d depth n) → (t : Table) → ComesAbout r d depth n t
    → (at : Location) (q : Target) (s : Schema) → target_at d at ≡ Some q → schema_at d at ≡ Some s → (v : Value) → IsSmall v
    → Keeps way (admits r d v s) (takes_at (entries_of t) r (target_id t q) v)
