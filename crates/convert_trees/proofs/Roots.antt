-- A document: its definitions, and its root behind them.
use Rattle.std.specs.Prelude.{Option, Some, None, Contains, filter, not}
use Rattle.json_value.specs.Value.{Value}
use Rattle.std.proofs.Common.{◌≡◌, ℕ, zero, suc, ◌≤◌, List, [], ◌∷◌, ◌++◌, Bool, true, false, map, refl, sym, ap, subst, ◌∙◌, append-nil}
use Rattle.std.proofs.lemmas.List.Elements.{Contains-append_right}
use Rattle.schema_defs.specs.Location.{Location}
use Rattle.schema_defs.specs.Texts.{Relations}
use Rattle.schema_defs.specs.Schema.{Schema, Document}
use Rattle.entry_defs.specs.Entry.{Entry}
use Rattle.entry_defs.specs.Table.{Table, TargetEntry}
use Rattle.convert_defs.specs.Owners.{default_of}
use Rattle.convert_defs.specs.Row.{Row}
use Rattle.convert_defs.specs.Table.{finding_of, row_of}
use Rattle.convert_defs.specs.Values.{inner_of, listed_in}
use Rattle.convert_defs.specs.Convert.{Handed, root_name}
use Rattle.convert_defs.specs.RootReference.{refers_to_root}
use Rattle.merge_walks.specs.Carried.{root_walk, has_more_steps}
use Rattle.convert_walks.specs.Spot.{Spot}
use Rattle.convert_walks.specs.Tree.{Node, if_merged, below, definition_target, definition_trees, document_tree, entry_at, root_entry, root_spot, root_targets, root_use, table_of, tree_at}
use Rattle.convert_walks.specs.Told.{faults_of, notes_in}
use Rattle.document_merges.specs.Merges.{MergeD, merges_in}
use Rattle.schema_tree.specs.Fault.{FaultD}
use Rattle.convert_trees.specs.Tables.{root_targets_of, root_use_of}
use Rattle.convert_trees.specs.Unread.{At, first_kept, is_given, stated_default, unread_by, unread_in_document, unread_in, unread_of}
use Rattle.convert_trees.specs.Keeping.{KeptD, ValuesD, with_unread}
use Rattle.convert_trees.specs.Told.{places_of_nodes, IsTold, Refuses, Begins, begins}
use Rattle.convert_trees.proofs.Ends.{first_place}
use Rattle.convert_trees.proofs.Here.{trees, shallow, deep}
use Rattle.convert_trees.proofs.Telling.{places_of_both, told_both, begins_first, begins_second, refuses_from, refuses_first, refuses_second}

abbrev pub the_table : List TargetEntry → List Entry → Table
the_table ts es = record { targets = ts; trees = es }

-- both parts of an empty list are empty
no_parts : (us vs : List At) → us ++ vs ≡ [] → (us ≡ []) × (vs ≡ [])
no_parts [] vs h = (refl, h)
no_parts (u ∷ us) vs h = absurd (cc)

nothing : (us : List At) → None ≡ first_kept None us → us ≡ []
nothing [] h = refl
nothing (u ∷ us) h = absurd (cc)

-- ---- a schema is one of its own tree, and so the root is one of the document's

module _ (r : Relations) (d : Document) (most : ℕ) (o : Spot) (s : Schema) where
  by_steps : (n : ℕ) (b : Bool) → has_more_steps most o.walk ≡ b → Contains (places_of_nodes (tree_at r d most (suc n) o s)) o.path
  by_steps n true e = subst (λ (ts : List Node). Contains (places_of_nodes ts) o.path) (sym (deep r d most n o s e)) (first_place o.path o.path [] refl)
  by_steps n false e =
      subst (λ (ts : List Node). Contains (places_of_nodes ts) o.path) (sym (shallow r d most n o s e))
      (first_place o.path o.path (places_of_nodes (below r d most n (trees r d most n o s) o s (finding_of r d s).branches (row_of r d s) (if_merged (row_of r d s)))) refl)

  own_place : (n : ℕ) → Contains (places_of_nodes (tree_at r d most n o s)) o.path
  own_place zero = first_place o.path o.path [] refl
  own_place (suc n) = by_steps n (has_more_steps most o.walk) refl

-- ---- merges that are left

-- all that are left are those of the nodes
pub begins_all : (left whole : List MergeD) → left ≡ whole → Begins left whole
begins_all left whole e = begins [] (e ∙ sym (append-nil whole))

module _ (r : Relations) (d : Document) (most n : ℕ) where
  abbrev pub definitions_told : List Node
  definitions_told = definition_trees r d most n d.definitions

  abbrev pub root_nodes : List Node
  root_nodes = tree_at r d most n (root_spot r d most n) d.root

  pub root_place : Contains (places_of_nodes (document_tree r d most n)) []
  root_place =
      subst (λ (ls : List Location). Contains ls []) (sym (places_of_both definitions_told root_nodes))
      (Contains-append_right (places_of_nodes definitions_told) (places_of_nodes root_nodes) [] (own_place r d most (root_spot r d most n) d.root n))

  pub whole_told : (j k l : KeptD) (r' : Relations) → r' ≡ r → IsTold r d most n definitions_told j k → IsTold r' d most n (tree_at r' d most n (root_spot r' d most n) d.root) k l → IsTold r d most n (document_tree r d most n) j l
  whole_told j k l r' e x y = told_both r d most n definitions_told root_nodes j k l x (subst (λ (r : Relations). IsTold r d most n (tree_at r d most n (root_spot r d most n) d.root) k l) e y)

  pub begins_definitions : (left : List MergeD) → Begins left (merges_in (document_tree r d most n)) → Begins left (merges_in definitions_told)
  begins_definitions left b = begins_first definitions_told root_nodes left b

  pub begins_root : (j k : KeptD) (r' : Relations) → r' ≡ r → IsTold r d most n definitions_told j k → Begins j.merges (merges_in (document_tree r d most n)) → Begins k.merges (merges_in (tree_at r' d most n (root_spot r' d most n) d.root))
  begins_root j k r' e t b = subst (λ (r : Relations). Begins k.merges (merges_in (tree_at r d most n (root_spot r d most n) d.root))) (sym e) (begins_second r d most n definitions_told root_nodes j k t b)

  pub is_faultless : (j l : KeptD) → IsTold r d most n (document_tree r d most n) j l → faults_of r d most n ≡ []
  is_faultless j l t = t.fine.faultless

  pub all_notes : (j l : KeptD) → j.notes ≡ [] → IsTold r d most n (document_tree r d most n) j l → l.notes ≡ notes_in r d most n (document_tree r d most n)
  all_notes j l e t = t.notes ∙ ap (λ ns. ns ++ notes_in r d most n (document_tree r d most n)) e

  -- what is kept of stated values, where nothing was kept before
  pub all_values : (k : Option Table) (j l : KeptD) → j.values ≡ record { known = k; unread = None } → IsTold r d most n (document_tree r d most n) j l
      → l.values.unread ≡ first_kept None (unread_in r k d (document_tree r d most n))
  all_values k j l e t = ap (λ (v : ValuesD). v.unread) (t.values ∙ ap (λ v. with_unread (unread_in r v.known d (document_tree r d most n)) v) e)

  -- the first of all, by the table that conversion gives, once it is known which is the first that is stated
  pub unread_whole : (r' : Relations) (t : Table) (listed o : Option At) → r' ≡ r → t ≡ table_of r d most n
      → (listed ≡ first_kept None (unread_in r' None d (document_tree r' d most n)) → o ≡ first_kept None (unread_in r' (Some t) d (document_tree r' d most n)))
      → listed ≡ first_kept None (unread_in r None d (document_tree r d most n)) → o ≡ first_kept None (unread_in_document r d most n)
  unread_whole r' t listed o e a f h =
      f (h ∙ ap (λ r. first_kept None (unread_in r None d (document_tree r d most n))) (sym e))
      ∙ (λ i. first_kept None (unread_in (e i) (Some (a i)) d (document_tree (e i) d most n)))

  -- a refusal of a later conversion is one of the first
  pub refuses_later : (f : FaultD) (r' : Relations) (first old new : ℕ) → r' ≡ r → first ≤ old → Refuses r' d most n old new (document_tree r' d most n) f → Refuses r d most n first new (document_tree r d most n) f
  refuses_later f r' first old new e h k =
      refuses_from r d most n f first old new (document_tree r d most n) h (subst (λ (r : Relations). Refuses r d most n old new (document_tree r d most n) f) e k)

  module _ (f : FaultD) (old new : ℕ) where
    pub definitions_refuse : Refuses r d most n old new definitions_told f → Refuses r d most n old new (document_tree r d most n) f
    definitions_refuse k = refuses_first r d most n f old new definitions_told root_nodes k

    pub root_refuses : (r' : Relations) (first : ℕ) (j k : KeptD) → r' ≡ r → first ≤ old → IsTold r d most n definitions_told j k → Refuses r' d most n old new (tree_at r' d most n (root_spot r' d most n) d.root) f
        → Refuses r d most n first new (document_tree r d most n) f
    root_refuses r' first j k e h t w =
        refuses_second r d most n f first new definitions_told root_nodes t.fine
        (refuses_from r d most n f first old new root_nodes h (subst (λ (r : Relations). Refuses r d most n old new (tree_at r d most n (root_spot r d most n) d.root) f) e w))

  -- the root by its schema, its name and its start
  abbrev rooted : Handed → Spot
  rooted h = record { handed = h; path = []; walk = root_walk; in_made = false }

  module _ (s : Schema) (m : List ℕ) (o : Spot) (a : s ≡ d.root) (b : m ≡ root_name s) (e : o ≡ rooted (Some m)) where
    spot_so : o ≡ root_spot r d most n
    spot_so = e ∙ ap (λ m. rooted (Some m)) (b ∙ ap root_name a)

    pub root_converted : (x : Entry) → x ≡ entry_at r d most n o s → x ≡ root_entry r d most n
    root_converted x h = h ∙ (λ i. entry_at r d most n (spot_so i) (a i))

    nodes_so : tree_at r d most n o s ≡ root_nodes
    nodes_so = λ i. tree_at r d most n (spot_so i) (a i)

    pub root_told : (j k : KeptD) → IsTold r d most n (tree_at r d most n o s) j k → IsTold r d most n root_nodes j k
    root_told j k t = subst (λ (ts : List Node). IsTold r d most n ts j k) nodes_so t

    pub root_refused : (f : FaultD) (old new : ℕ) → Refuses r d most n old new (tree_at r d most n o s) f → Refuses r d most n old new root_nodes f
    root_refused f old new k = subst (λ (ts : List Node). Refuses r d most n old new ts f) nodes_so k

    pub root_begins : (left : List MergeD) → Begins left (merges_in root_nodes) → Begins left (merges_in (tree_at r d most n o s))
    root_begins left k = subst (λ (ts : List Node). Begins left (merges_in ts)) (sym nodes_so) k

  same_targets : (b : Bool) → root_targets_of b (root_name d.root) (root_entry r d most n) ≡ root_targets r d most n b
  same_targets true = refl
  same_targets false = refl

  same_use : (b : Bool) → root_use_of b (root_entry r d most n) ≡ root_use r d most n b
  same_use true = refl
  same_use false = refl

  pub whole_table : (r' : Relations) (t : Table) (ts : List TargetEntry) (e : Entry)
      → t ≡ record { targets = ts ++ root_targets_of (refers_to_root d) (root_name d.root) e; trees = root_use_of (refers_to_root d) e ∷ [] }
      → ts ≡ map (definition_target r d most n) d.definitions → r' ≡ r → e ≡ root_entry r' d most n → t ≡ table_of r d most n
  whole_table r' t ts e w a q b =
      let at : e ≡ root_entry r d most n = b ∙ ap (λ r. root_entry r d most n) q in
      w ∙ (λ i. record { targets = a i ++ root_targets_of (refers_to_root d) (root_name d.root) (at i); trees = root_use_of (refers_to_root d) (at i) ∷ [] })
      ∙ (λ i. record { targets = map (definition_target r d most n) d.definitions ++ same_targets (refers_to_root d) i; trees = same_use (refers_to_root d) i ∷ [] })

-- ---- where no value is stated, none is unread

abbrev placed : Location → List Value → List At
placed l vs = map (λ v. (l, v)) vs

module _ (r : Relations) (d : Document) (t : Table) where
  none_of : (l : Location) (s : Schema) (w : Row) (e : Entry) → unread_of r None l s w e ≡ [] → unread_of r (Some t) l s w e ≡ []
  none_of l s w e h = by (listed_in w) (default_of s) h
    where
      by : (vs : List Value) (o : Option Value) → placed l (vs ++ filter (λ v. not (is_given r None s w e v)) (stated_default o)) ≡ []
          → placed l (unread_by r (Some t) (inner_of e) vs ++ filter (λ v. not (is_given r (Some t) s w e v)) (stated_default o)) ≡ []
      by [] None h = refl
      by [] (Some v) h = absurd (cc)
      by (v ∷ vs) o h = absurd (cc)

  none_in : (ts : List Node) → unread_in r None d ts ≡ [] → unread_in r (Some t) d ts ≡ []
  none_in [] h = refl
  none_in (n ∷ ns) h =
      let both = no_parts (unread_of r None n.spot.path n.schema (row_of r d n.schema) n.entry) (unread_in r None d ns) h in
      let one = none_of n.spot.path n.schema (row_of r d n.schema) n.entry both.0 in
      let rest = none_in ns both.1 in
      λ i. one i ++ rest i

  pub none_listed : (ts : List Node) → None ≡ first_kept None (unread_in r None d ts) → None ≡ first_kept None (unread_in r (Some t) d ts)
  none_listed ts h = sym (ap (first_kept None) (none_in ts (nothing (unread_in r None d ts) h)))

-- ---- tables by their parts

pub both_parts : (ts us : List TargetEntry) (es fs : List Entry) → ts ≡ us → es ≡ fs → the_table ts es ≡ the_table us fs
both_parts ts us es fs h g = λ i. record { targets = h i; trees = g i }

pub used_so : (t : Table) (ts : List TargetEntry) (n m : List ℕ) (b : Bool) (e : Entry) → t ≡ the_table (ts ++ root_targets_of true n e) (root_use_of true e ∷ []) → true ≡ b → n ≡ m → t ≡ the_table (ts ++ root_targets_of b m e) (root_use_of b e ∷ [])
used_so t ts n m b e h g k = h ∙ (λ i. the_table (ts ++ root_targets_of (g i) (k i) e) (root_use_of (g i) e ∷ []))

pub plain_so : (t : Table) (ts : List TargetEntry) (m : List ℕ) (b : Bool) (e : Entry) → t ≡ the_table ts (e ∷ []) → false ≡ b → t ≡ the_table (ts ++ root_targets_of b m e) (root_use_of b e ∷ [])
plain_so t ts m b e h g = h ∙ ap (λ us. the_table us (e ∷ [])) (sym (append-nil ts)) ∙ (λ i. the_table (ts ++ root_targets_of (g i) m e) (root_use_of (g i) e ∷ []))
