-- What the entries of a space mean: the tables that it comes to, and how one more schema is added. A walk has at most `depth` steps, and there are n levels.
-- Notes and stated values, which a space keeps beside its table, say nothing of entries: so the laws speak of tables alone.
use Rattle.std.specs.Prelude.{◌≡◌, ℕ, List, [], Bool, Some}
use Rattle.token_trees.specs.Token.{Name}
use Rattle.json_value.specs.Value.{Value, IsSmall}
use Rattle.schema_defs.specs.Location.{Location}
use Rattle.schema_defs.specs.Texts.{Relations, IsLawful}
use Rattle.schema_defs.specs.Schema.{Schema, Document}
use Rattle.schema_defs.specs.Admits.{admits}
use Rattle.schema_defs.specs.Children.{schema_at}
use Rattle.attr_parts.specs.declared.derive.Derive.{Derive}
use Rattle.attr_defs.specs.Renames.{Meaning}
use Rattle.attr_defs.specs.Texts.{lexed}
use Rattle.container_defs.specs.Reader.{item_models}
use Rattle.model_defs.specs.Reads.{reads}
use Rattle.type_spellings.specs.Types.{type_of}
use Rattle.entry_defs.specs.Entry.{Target, Entry, item}
use Rattle.entry_defs.specs.Space.{Id, EntryAt, Holds, entry_at as at_id}
use Rattle.entry_defs.specs.Table.{ItemEntry, Table, target_item}
use Rattle.entry_defs.specs.Takes.{takes}
use Rattle.naming_defs.specs.Laws.{IsFit}
use Rattle.emit_defs.specs.Emission.{Emission, emission}
use Rattle.emit_defs.specs.Formed.{IsEmittable}
use Rattle.convert_defs.specs.Convert.{Handed}
use Rattle.convert_defs.specs.Laws.{Keeps}
use Rattle.convert_defs.specs.Row.{Way}
use Rattle.convert_walks.specs.Spot.{Spot}
use Rattle.convert_walks.specs.Told.{notes_in, faults_in}
use Rattle.convert_walks.specs.Tree.{Node, entry_at, tree_at}
use Rattle.merging_laws.specs.Conversion.{Free, AllNodes}
use Rattle.document_laws.specs.Laws.{WasRead}
use Rattle.space_defs.specs.Emission.{emission_at}
use Rattle.space_defs.specs.Held.{Stands, HoldsTable}
use Rattle.space_trees.specs.Filled.{leads_in}
use Rattle.space_trees.specs.Formed.{IsFormed}
use Rattle.history_laws.specs.Placing.{with_names, entries_of, target_id, with_tree, next_named, next_id}
use Rattle.history_laws.specs.Added.{target_at, target_nodes, targets_table, begins_at}

-- ---- the tables that a space comes to: the items that references lead to, and then the entries of schemas of the document, one after another

pub data ComesAbout (r : Relations) (d : Document) (depth n : ℕ) : Table → Type 0 where
  by_targets : ComesAbout r d depth n (targets_table r d depth n)
  -- whatever name is handed to the schema
  by_schema : (t : Table) (at : Location) (h : Handed) (s : Schema) → ComesAbout r d depth n t → schema_at d at ≡ Some s → ComesAbout r d depth n (with_tree t (entry_at r d depth n (begins_at at h) s))

-- in the tables that come about for a document that was read
abbrev pub OfTables : (Table → Type 0) → Type 0
OfTables P = (r : Relations) (d : Document) (depth n : ℕ) → WasRead d → (t : Table) → ComesAbout r d depth n t → P t

-- references lead and end, and names of fields differ
abbrev pub TablesAreFit : Type 0
TablesAreFit = OfTables IsFit

-- with names they can be written
abbrev pub TablesAreEmittable : Type 0
TablesAreEmittable = OfTables (λ t. IsEmittable (with_names t))

-- an entry follows wherever a place has that of the next one, and rests are named after the fields
abbrev pub TablesAreFormed : Type 0
TablesAreFormed = OfTables (λ t. IsFormed (with_names t))

-- ---- where their trees stand

-- each tree, and each item that a reference leads to, stands in the entries at some id
abbrev pub IsHeld : Table → Type 0
IsHeld t = HoldsTable (leads_in (with_names t)) (entries_of t) (with_names t)

abbrev pub TablesAreHeld : Type 0
TablesAreHeld = OfTables IsHeld

-- at its id in the entries so far
abbrev pub StandsAt : Table → Entry → Id → Type 0
StandsAt t e i = Holds (leads_in (with_names t)) (entries_of t) e i

-- one more tree: it comes last, with names, it stands at the id that is told, and all that stood at an id stands there still
pub record AddsOne (t : Table) (e : Entry) : Type 0 where
  pub last : with_names (with_tree t e) ≡ with_tree (with_names t) (next_named t e)
  pub stands : StandsAt (with_tree t e) (next_named t e) (next_id t e)
  pub kept : (x : Entry) (i : Id) → StandsAt t x i → StandsAt (with_tree t e) x i
  pub same : (i : Id) (x : EntryAt) → at_id (entries_of t) i ≡ Some x → at_id (entries_of (with_tree t e)) i ≡ Some x

-- the id of a schema that is added
abbrev pub SchemasStand : Type 0
SchemasStand =
    (r : Relations) (d : Document) (depth n : ℕ) → WasRead d → (t : Table) → ComesAbout r d depth n t
    → (at : Location) (h : Handed) (s : Schema) → schema_at d at ≡ Some s → AddsOne t (entry_at r d depth n (begins_at at h) s)

-- the item that a reference leads to stands at the id that is told
abbrev pub ItemStands : Table → Target → Type 0
ItemStands t q = (x : ItemEntry) × (target_item (with_names t) q ≡ Some x) × StandsAt t (item x.name x.shape) (target_id t q)

abbrev pub ItemsStand : Type 0
ItemsStand = (r : Relations) (d : Document) (depth n : ℕ) → WasRead d → (t : Table) → ComesAbout r d depth n t → (at : Location) (q : Target) → target_at d at ≡ Some q → ItemStands t q

-- ---- what the trees take

-- of schemas that are converted no fault is told, and no note of one way
pub record AreClean (way : Way) (r : Relations) (d : Document) (depth n : ℕ) (ts : List Node) : Type 0 where
  pub faultless : faults_in r d depth n ts ≡ []
  pub noteless : Free way (notes_in r d depth n ts)

-- what the schema admits its tree takes, named as the next of table t, by the items of table u; and so does each schema of its conversion tree with its entry
pub record Agrees (way : Way) (r : Relations) (d : Document) (depth n : ℕ) (t u : Table) (o : Spot) (s : Schema) (v : Value) : Type 0 where
  pub itself : Keeps way (admits r d v s) (takes (with_names u) r (next_named t (entry_at r d depth n o s)) v)
  pub inside : AllNodes (λ x. Keeps way (admits r d v x.schema) (takes u r x.entry v)) (tree_at r d depth n o s)

-- whatever came before it, and whatever has come since; what references lead to is without faults and such notes too
abbrev pub SchemasAgree : Type 0
SchemasAgree =
    (way : Way) (r : Relations) → IsLawful r → (d : Document) (depth n : ℕ) → WasRead d → AreClean way r d depth n (target_nodes r d depth n) → (t u : Table) → ComesAbout r d depth n u
    → (at : Location) (h : Handed) (s : Schema) → schema_at d at ≡ Some s → AreClean way r d depth n (tree_at r d depth n (begins_at at h) s)
    → (v : Value) → IsSmall v → Agrees way r d depth n t u (begins_at at h) s v

-- the item that references lead to takes what is admitted at its location
abbrev pub ItemsAgree : Type 0
ItemsAgree =
    (way : Way) (r : Relations) → IsLawful r → (d : Document) (depth n : ℕ) → WasRead d → AreClean way r d depth n (target_nodes r d depth n) → (t : Table) → ComesAbout r d depth n t
    → (at : Location) (q : Target) (s : Schema) → target_at d at ≡ Some q → schema_at d at ≡ Some s → (x : ItemEntry) → target_item (with_names t) q ≡ Some x
    → (v : Value) → IsSmall v → Keeps way (admits r d v s) (takes (with_names t) r (item x.name x.shape) v)

-- ---- what is emitted

-- for what stands at an id that of its tree in the table
abbrev pub EmitsTable : Table → Type 0
EmitsTable t = (e : Entry) (root : Id) → Stands (leads_in (with_names t)) (entries_of t) e root → emission_at (entries_of t) root ≡ emission (with_names t) e

abbrev pub TablesAreEmitted : Type 0
TablesAreEmitted = OfTables EmitsTable

-- ---- what is read back, whatever has come since

-- the containers that are read from items, whatever serde's own module is called, whatever a renamer makes of names, and for either derive
abbrev pub read_back : Meaning → Meaning → Name → Derive → Relations → Emission → Value → Bool
read_back variant_name field_name private derive r x v = reads (item_models lexed variant_name field_name private derive x.items) x.conversions r (type_of x.root) v

pub data ComesSince (r : Relations) (d : Document) (depth n : ℕ) (t : Table) : Table → Type 0 where
  at_once : ComesSince r d depth n t t
  after_schema : (u : Table) (at : Location) (h : Handed) (s : Schema) → ComesSince r d depth n t u → schema_at d at ≡ Some s → ComesSince r d depth n t (with_tree u (entry_at r d depth n (begins_at at h) s))

-- what is emitted for the id of a schema that was added
abbrev pub SchemasMeanItems : Type 0
SchemasMeanItems =
    (variant_name field_name : Meaning) (private : Name) (derive : Derive)
    (way : Way) (r : Relations) → IsLawful r → (d : Document) (depth n : ℕ) → WasRead d → AreClean way r d depth n (target_nodes r d depth n) → (t : Table) → ComesAbout r d depth n t
    → (at : Location) (h : Handed) (s : Schema) → schema_at d at ≡ Some s → AreClean way r d depth n (tree_at r d depth n (begins_at at h) s)
    → let e = entry_at r d depth n (begins_at at h) s in (u : Table) → ComesSince r d depth n (with_tree t e) u → (v : Value) → IsSmall v
    → Keeps way (admits r d v s) (read_back variant_name field_name private derive r (emission_at (entries_of u) (next_id t e)) v)

-- and for that of an item that references lead to
abbrev pub ItemsMeanItems : Type 0
ItemsMeanItems =
    (variant_name field_name : Meaning) (private : Name) (derive : Derive)
    (way : Way) (r : Relations) → IsLawful r → (d : Document) (depth n : ℕ) → WasRead d → AreClean way r d depth n (target_nodes r d depth n) → (t : Table) → ComesAbout r d depth n t
    → (at : Location) (q : Target) (s : Schema) → target_at d at ≡ Some q → schema_at d at ≡ Some s → (v : Value) → IsSmall v
    → Keeps way (admits r d v s) (read_back variant_name field_name private derive r (emission_at (entries_of t) (target_id t q)) v)
