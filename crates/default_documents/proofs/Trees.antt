-- Where no node of a document's tree has a fault or states what isn't read, each stated default of what its schemas are converted to comes to an end.
use Rattle.std.proofs.Common.{ℕ, ◌≡◌, zero, suc, List, [], ◌∷◌, not, Bool, true, false, Option, Some, None, refl, subst}
use Rattle.std.specs.Prelude.{filter, if◌then◌else◌}
use Rattle.std.specs.List.{AllByRecursion}
use Rattle.json_value.specs.Value.{Value}
use Rattle.schema_defs.specs.Location.{Location}
use Rattle.schema_defs.specs.Texts.{Relations}
use Rattle.schema_defs.specs.Schema.{Schema, Definition, Document}
use Rattle.entry_defs.specs.Entry.{Entry}
use Rattle.entry_defs.specs.Table.{Table}
use Rattle.convert_defs.specs.Row.{Part, Row, row_parts}
use Rattle.convert_defs.specs.Owners.{default_of}
use Rattle.convert_defs.specs.Table.{finding_of, row_of}
use Rattle.convert_defs.specs.Values.{fits_row, inner_of, listed_in}
use Rattle.convert_defs.specs.Convert.{named_by}
use Rattle.convert_defs.proofs.Bare.{none_in, no_left, no_right, not_false, and_left, impossible}
use Rattle.convert_defs.proofs.Views.{AllParts}
use Rattle.merge_walks.specs.Carried.{has_more_steps}
use Rattle.convert_walks.specs.Spot.{Spot, Branches, part_spot, part_schema}
use Rattle.convert_walks.specs.Merging.{merged_at}
use Rattle.convert_walks.specs.Tree.{Standing, instead, Node, too_many_steps, converted, cut, if_merged, standing_entry, row_entry, entry_at, parts_trees, deep_branches, standing_tree, below, merge_of, tree_at, definition_spot, root_spot, table_of, definition_trees, document_tree}
use Rattle.convert_walks.specs.Told.{state_faults, faults_in}
use Rattle.merging_laws.specs.Conversion.{AllNodes}
use Rattle.conversion_laws.proofs.FineTrees.{nodes-left, nodes-right}
use Rattle.conversion_laws.proofs.Targets.{body_entry}
use Rattle.merged_documents.proofs.Leaves.{row_has_leaf}
use Rattle.merged_documents.proofs.Tables.{all-trees, all-items}
use Rattle.convert_trees.specs.Unread.{stated_default, unread_by, is_given, unread_values, unread_of, unread_in}
use Rattle.default_defs.specs.Found.{Found, refused, ended, endless, is_ended}
use Rattle.default_defs.specs.Supplied.{supplied}
use Rattle.default_laws.specs.Laws.{AllEnd}
use Rattle.default_documents.specs.Laws.{StatedDefaultsEnd}
use Rattle.default_documents.proofs.Lists.{none-mapped}
use Rattle.default_documents.proofs.Inside.{Inside, InsideShape, in_table}
use Rattle.default_documents.proofs.States.{row_states_own}
use Rattle.default_documents.proofs.Rows.{Said, row_inside, item_inside}
use Rattle.default_documents.proofs.Options.{supplied_as_option}

none_kept : {A : Type 0} (b : Bool) (x : A) → (if b then x ∷ [] else []) ≡ [] → b ≡ false
none_kept true x h = none_in x [] h
none_kept false x h = refl

ended_is : (x : Found) → is_ended x ≡ true → x ≡ ended
ended_is refused h = impossible h
ended_is ended h = refl
ended_is endless h = impossible h

-- where nothing of a schema is left unread, its default comes to an end
default_ends : (r : Relations) (t : Table) (l : Location) (s : Schema) (w : Row) (e : Entry) → unread_of r (Some t) l s w e ≡ [] → (v : Value) → default_of s ≡ Some v → supplied t r e v ≡ ended
default_ends r t l s w e h v q =
    let none = no_right (unread_by r (Some t) (inner_of e) (listed_in w)) (filter (λ v. not (is_given r (Some t) s w e v)) (stated_default (default_of s))) (none-mapped (λ v. (l, v)) (unread_values r (Some t) s w e) h) in
    let one : filter (λ v. not (is_given r (Some t) s w e v)) (stated_default (Some v)) ≡ [] = subst (λ o. filter (λ v. not (is_given r (Some t) s w e v)) (stated_default o) ≡ []) q none in
    ended_is (supplied t r e v) (and_left (is_ended (supplied t r e v)) (fits_row w s v) (not_false (is_given r (Some t) s w e v) (none_kept (not (is_given r (Some t) s w e v)) v one)))

module _ (r : Relations) (d : Document) (most levels : ℕ) where
  abbrev Ends : Entry → Value → Type 0
  Ends e v = supplied (table_of r d most levels) r e v ≡ ended

  -- a node that is converted, and all that it states is read
  abbrev IsRead : Node → Type 0
  IsRead t = (unread_of r (Some (table_of r d most levels)) t.spot.path t.schema (row_of r d t.schema) t.entry ≡ []) × (state_faults r d most levels t.spot t.schema t.state ≡ [])

  read-nodes : (ts : List Node) → unread_in r (Some (table_of r d most levels)) d ts ≡ [] → faults_in r d most levels ts ≡ [] → AllNodes IsRead ts
  read-nodes [] h f = tt
  read-nodes (t ∷ ts) h f = (
    (no_left _ _ h, no_left _ _ f),
    read-nodes ts (no_right (unread_of r (Some (table_of r d most levels)) t.spot.path t.schema (row_of r d t.schema) t.entry) _ h) (no_right (state_faults r d most levels t.spot t.schema t.state) _ f),
  )

  abbrev Has : ℕ → Spot → Schema → Type 0
  Has n o s = AllNodes IsRead (tree_at r d most n o s)

  module _ (n : ℕ) (o : Spot) (s : Schema) where
    abbrev met : Branches
    met = (finding_of r d s).branches

    abbrev node_of : Option (List Part) → Node
    node_of ps = record { spot = o; schema = s; entry = entry_at r d most (suc n) o s; state = converted (merge_of r d most n o s ps) }

    abbrev under : Option (List Part) → List Node
    under ps = below r d most n (λ o s. tree_at r d most n o s) o s met (row_of r d s) ps

    -- the node of the schema, and those below it
    opened : Has (suc n) o s → (ps : Option (List Part)) → if_merged (row_of r d s) ≡ ps → IsRead (node_of ps) × AllNodes IsRead (under ps)
    opened h ps e = subst (λ x. IsRead (node_of x) × AllNodes IsRead (under x)) e (by (has_more_steps most o.walk) h)
      where
        by : (b : Bool) → AllNodes IsRead (elim b [ true ↦ cut too_many_steps o s ∷ [] | false ↦ node_of (if_merged (row_of r d s)) ∷ under (if_merged (row_of r d s)) ])
            → IsRead (node_of (if_merged (row_of r d s))) × AllNodes IsRead (under (if_merged (row_of r d s)))
        by true h = none_in _ _ h.0.1
        by false h = h

  default-ends : (n : ℕ) (o : Spot) (s : Schema) → Has n o s → (v : Value) → default_of s ≡ Some v → Ends (entry_at r d most n o s) v
  default-ends zero o s h v q = default_ends r (table_of r d most levels) o.path s (row_of r d s) (entry_at r d most zero o s) h.0.0 v q
  default-ends (suc n) o s h v q =
      default_ends r (table_of r d most levels) o.path s (row_of r d s) (entry_at r d most (suc n) o s) (opened n o s h (if_merged (row_of r d s)) refl).0.0 v q

  -- ---- by levels

  abbrev AllEndInside : ℕ → Type 0
  AllEndInside n = (o : Spot) (s : Schema) → Has n o s → Inside Ends (entry_at r d most n o s)

  module _ (n : ℕ) (rec : AllEndInside n) (o : Spot) (s : Schema) (h : Has (suc n) o s) where
    abbrev here : Branches
    here = met n o s

    abbrev converted_part : Part → Entry
    converted_part p = entry_at r d most n (part_spot o here p) (part_schema p)

    parts-said : (ps : List Part) → AllNodes IsRead (parts_trees r d most (λ o s. tree_at r d most n o s) o here ps) → AllParts (Said Ends converted_part) ps
    parts-said [] k = tt
    parts-said (p ∷ ps) k =
        let first : List Node = tree_at r d most n (part_spot o here p) (part_schema p) in
        let rest : List Node = parts_trees r d most (λ o s. tree_at r d most n o s) o here ps in
        let one = nodes-left IsRead first rest k in
        ((rec (part_spot o here p) (part_schema p) one, default-ends n (part_spot o here p) (part_schema p) one), parts-said ps (nodes-right IsRead first rest k))

    standing-ends : (t : Option Standing) → AllNodes IsRead (standing_tree r d most (λ o s. tree_at r d most n o s) t) → Inside Ends (standing_entry r d most n (λ o s. entry_at r d most n o s) t)
    standing-ends None k = tt
    standing-ends (Some t) k = rec t.spot t.schema k

    row-ends : (ps : Option (List Part)) → if_merged (row_of r d s) ≡ ps → Inside Ends (row_entry r d most n (λ o s. entry_at r d most n o s) o s here (row_of r d s) ps)
    row-ends (Some ps) e = standing-ends (instead o s (merged_at d most n o s ps)) (opened n o s h (Some ps) e).1
    row-ends None e =
        row_inside Ends (supplied_as_option (table_of r d most levels) r) converted_part (named_by o.handed s) (row_of r d s) (row_has_leaf r d s) (row_states_own r d s)
        (parts-said (row_parts (row_of r d s)) (nodes-right IsRead (deep_branches r d most o here) (parts_trees r d most (λ o s. tree_at r d most n o s) o here (row_parts (row_of r d s))) (opened n o s h None e).1))

  entry-ends : (n : ℕ) → AllEndInside n
  entry-ends zero o s h = tt
  entry-ends (suc n) o s h = row-ends n (entry-ends n) o s h (if_merged (row_of r d s)) refl

  -- ---- the table

  bodies-end : (ds : List Definition) → AllNodes IsRead (definition_trees r d most levels ds) → AllByRecursion (λ e. Inside Ends (body_entry r d most levels e)) ds
  bodies-end [] h = tt
  bodies-end (e ∷ ds) h =
      let first : List Node = tree_at r d most levels (definition_spot r d most levels e) e.body in
      let rest : List Node = definition_trees r d most levels ds in
      (entry-ends levels (definition_spot r d most levels e) e.body (nodes-left IsRead first rest h), bodies-end ds (nodes-right IsRead first rest h))

  table-ends : AllNodes IsRead (document_tree r d most levels) → AllEnd (table_of r d most levels) r
  table-ends h =
      let first : List Node = definition_trees r d most levels d.definitions in
      let last : List Node = tree_at r d most levels (root_spot r d most levels) d.root in
      let root = entry-ends levels (root_spot r d most levels) d.root (nodes-right IsRead first last h) in
      in_table Ends (table_of r d most levels)
      (all-items r d most levels (λ e. Inside Ends e) root (λ i. InsideShape Ends i.shape) (λ name e x. item_inside Ends name e x) (bodies-end d.definitions (nodes-left IsRead first last h)))
      (all-trees r d most levels (λ e. Inside Ends e) root (λ e. tt))

pub stated_defaults_end : StatedDefaultsEnd
stated_defaults_end r d most n f u = table-ends r d most n (read-nodes r d most n (document_tree r d most n) u f)
