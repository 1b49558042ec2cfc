-- What is told: of the items that references lead to, and of one more schema.
use Rattle.std.specs.Prelude.{Result, Ok, Err, IfErr}
use Rattle.std.proofs.Common.{◌≡◌, ℕ, ◌≤◌, List, [], ◌∷◌, ◌++◌, map, Bool, true, false, Option, Some, None, sym, ap, subst, ◌∙◌, append-nil}
use Rattle.schema_defs.specs.Location.{Location}
use Rattle.schema_defs.specs.Texts.{Relations}
use Rattle.schema_defs.specs.Children.{schema_at}
use Rattle.schema_defs.specs.Schema.{Schema, Document}
use Rattle.entry_defs.specs.Entry.{Target, the_root, Entry}
use Rattle.entry_defs.specs.Space.{Id}
use Rattle.entry_defs.specs.Table.{Table, TargetEntry}
use Rattle.convert_defs.specs.Convert.{Handed, as_item, root_name}
use Rattle.convert_defs.specs.RootReference.{refers_to_root}
use Rattle.convert_walks.specs.Spot.{Spot}
use Rattle.convert_walks.specs.Tree.{Node, definition_target, definition_trees, document_tree, entry_at, root_entry, root_targets, tree_at}
use Rattle.convert_walks.specs.Told.{Note, notes_in}
use Rattle.convert_document.specs.Merges.{MergeD, merges_in}
use Rattle.schema_tree.specs.Fault.{FaultD}
use Rattle.convert_document.specs.Keeping.{KeptD, ValuesD}
use Rattle.convert_document.specs.Unread.{At, first_kept, unread_in}
use Rattle.convert_document.specs.Told.{AreFine, IsTold, Refuses, Begins}
use Rattle.convert_document.proofs.Roots.{begins_all}
use Rattle.convert_document.proofs.Telling.{told_none, told_both, begins_first, begins_second, none_fine, refuses_first, refuses_second, refuses_from}
use Rattle.merged_rows.specs.Starts.{spot_of}
use Rattle.merged_rows.specs.declared.start.Start.{Start}
use Rattle.typify_convert.specs.Gathered.{MergesAll, MergesFrom}
use Rattle.typify_convert.specs.Kept.{FoundOf, none_kept}
use Rattle.typify_convert.specs.Space.{History, Keeps}
use Rattle.history_laws.specs.Placing.{next_id, target_id}
use Rattle.history_laws.specs.Added.{used_root_tree, target_nodes, targets_table, target_at, begins_at, wanted_at}
use Rattle.typify_convert.specs.Added.{items_asked, with_items_asked, with_nodes, added_by, nodes_by, added, added_nodes, met_nodes, KeepsMore}
use Rattle.typify_convert.specs.declared.keeping.Held.{Held}

pub if_err_mapped : {A E : Type 0} → (x : Result A E) (P Q : E → Type 0) → ((e : E) → P e → Q e) → IfErr x P → IfErr x Q
if_err_mapped (Ok a) P Q f h = h
if_err_mapped (Err e) P Q f h = f e h

module _ (r : Relations) (d : Document) (most n : ℕ) where
  -- ---- the root

  pub no_root_targets : (ts : List TargetEntry) (b : Bool) → b ≡ false → ts ≡ ts ++ root_targets r d most n b
  no_root_targets ts b e = sym (append-nil ts) ∙ ap (λ b. ts ++ root_targets r d most n b) (sym e)

  pub no_root_told : (k : KeptD) (b : Bool) → b ≡ false → IsTold r d most n (used_root_tree r d most n b) k k
  no_root_told k b e = subst (λ (b : Bool). IsTold r d most n (used_root_tree r d most n b) k k) (sym e) (told_none r d most n k)

  pub item_targets : (ts all : List TargetEntry) (m : List ℕ) (e : Entry) → m ≡ root_name d.root → e ≡ root_entry r d most n → all ≡ ts ++ record { target = the_root; led_to = as_item m e } ∷ []
      → all ≡ ts ++ root_targets r d most n true
  item_targets ts all m e w x made = made ∙ (λ i. ts ++ record { target = the_root; led_to = as_item (w i) (x i) } ∷ [])

  pub a_root_targets : (ts all : List TargetEntry) (b : Bool) → b ≡ true → all ≡ ts ++ root_targets r d most n true → all ≡ ts ++ root_targets r d most n b
  a_root_targets ts all b h made = made ∙ ap (λ b. ts ++ root_targets r d most n b) (sym h)

  pub a_root_told : (j k : KeptD) (b : Bool) → b ≡ true → IsTold r d most n (used_root_tree r d most n true) j k → IsTold r d most n (used_root_tree r d most n b) j k
  a_root_told j k b e t = subst (λ (b : Bool). IsTold r d most n (used_root_tree r d most n b) j k) (sym e) t

  pub a_root_refused : (f : FaultD) (old new : ℕ) (b : Bool) → b ≡ true → Refuses r d most n old new (used_root_tree r d most n true) f → Refuses r d most n old new (used_root_tree r d most n b) f
  a_root_refused f old new b e t = subst (λ (b : Bool). Refuses r d most n old new (used_root_tree r d most n b) f) (sym e) t

  pub a_root_begins : (left : List MergeD) (b : Bool) → b ≡ true → Begins left (merges_in (used_root_tree r d most n b)) → Begins left (merges_in (used_root_tree r d most n true))
  a_root_begins left b e k = subst (λ (b : Bool). Begins left (merges_in (used_root_tree r d most n b))) e k

  -- ---- behind the definitions

  abbrev defs : List Node
  defs = definition_trees r d most n d.definitions

  abbrev root : List Node
  root = used_root_tree r d most n (refers_to_root d)

  -- the document's merges begin with those of the items
  pub targets_begin : (ms : List MergeD) → MergesAll d most n ms → Begins ms (merges_in (target_nodes r d most n))
  targets_begin ms m = by (refers_to_root d)
    where
      by : (b : Bool) → Begins ms (merges_in (defs ++ used_root_tree r d most n b))
      by true = begins_all ms (merges_in (document_tree r d most n)) (m.all r)
      by false =
          subst (λ (ts : List Node). Begins ms (merges_in ts)) (sym (append-nil defs))
          (begins_first defs (used_root_tree r d most n true) ms (begins_all ms (merges_in (document_tree r d most n)) (m.all r)))

  pub definitions_begin : (left : List MergeD) → Begins left (merges_in (target_nodes r d most n)) → Begins left (merges_in defs)
  definitions_begin left k = begins_first defs root left k

  pub root_begins : (r' : Relations) (j k : KeptD) → r' ≡ r → IsTold r d most n defs j k → Begins j.merges (merges_in (target_nodes r d most n)) → Begins k.merges (merges_in (used_root_tree r' d most n (refers_to_root d)))
  root_begins r' j k e t b = subst (λ (q : Relations). Begins k.merges (merges_in (used_root_tree q d most n (refers_to_root d)))) (sym e) (begins_second r d most n defs root j k t b)

  pub all_told : (r' : Relations) (j k l : KeptD) → r' ≡ r → IsTold r d most n defs j k → IsTold r' d most n (used_root_tree r' d most n (refers_to_root d)) k l → IsTold r d most n (target_nodes r d most n) j l
  all_told r' j k l e x y = told_both r d most n defs root j k l x (subst (λ (q : Relations). IsTold q d most n (used_root_tree q d most n (refers_to_root d)) k l) e y)

  abbrev alone : List TargetEntry → Table
  alone ts = record { targets = ts; trees = [] }

  pub all_targets : (r' : Relations) (ts all : List TargetEntry) (t : Table) → r' ≡ r → ts ≡ map (definition_target r d most n) d.definitions → all ≡ ts ++ root_targets r' d most n (refers_to_root d) → t ≡ alone all
      → t ≡ targets_table r d most n
  all_targets r' ts all t e x y z = z ∙ ap alone (y ∙ (λ i. x i ++ root_targets (e i) d most n (refers_to_root d)))

  pub first_refuses : (f : FaultD) (old new : ℕ) → Refuses r d most n old new defs f → Refuses r d most n old new (target_nodes r d most n) f
  first_refuses f old new k = refuses_first r d most n f old new defs root k

  pub second_refuses : (f : FaultD) (r' : Relations) (first old new : ℕ) (j k : KeptD) → r' ≡ r → first ≤ old → IsTold r d most n defs j k → Refuses r' d most n old new (used_root_tree r' d most n (refers_to_root d)) f
      → Refuses r d most n first new (target_nodes r d most n) f
  second_refuses f r' first old new j k e h t w =
      refuses_second r d most n f first new defs root t.fine
      (refuses_from r d most n f first old new root h (subst (λ (q : Relations). Refuses q d most n old new (used_root_tree q d most n (refers_to_root d)) f) e w))

  -- a refusal of a later conversion is one of the first
  pub refuses_later : (f : FaultD) (r' : Relations) (first old new : ℕ) → r' ≡ r → first ≤ old → Refuses r' d most n old new (target_nodes r' d most n) f → Refuses r d most n first new (target_nodes r d most n) f
  refuses_later f r' first old new e h k =
      refuses_from r d most n f first old new (target_nodes r d most n) h (subst (λ (q : Relations). Refuses q d most n old new (target_nodes q d most n) f) e k)

  -- ---- what is found, where nothing was kept before

  pub found_of : (known : Option Table) (ms : List MergeD) (ts : List Node) (j k : KeptD) → j ≡ none_kept known ms → IsTold r d most n ts j k → FoundOf r d most n known ts k.notes k.values.unread
  found_of known ms ts j k e told = record {
    fine = told.fine;
    noted = told.notes ∙ ap (λ (j : KeptD). j.notes ++ notes_in r d most n ts) e;
    unread = ap (λ (v : ValuesD). v.unread) told.values ∙ ap (λ (j : KeptD). first_kept j.values.unread (unread_in r j.values.known d ts)) e;
  }

  -- the same, where merges are left with which the nodes begin
  pub none_begins : (known : Option Table) (ms : List MergeD) (ts : List Node) (j : KeptD) → j ≡ none_kept known ms → Begins ms (merges_in ts) → Begins j.merges (merges_in ts)
  none_begins known ms ts j e k = subst (λ (j : KeptD). Begins j.merges (merges_in ts)) (sym e) k

  -- by what a judge asks later
  pub listed_later : (r' : Relations) (ns : List Note) (u : Option At) → r' ≡ r → FoundOf r d most n None (target_nodes r d most n) ns u
      → u ≡ first_kept None (unread_in r' None d (target_nodes r' d most n))
  listed_later r' ns u e found = found.unread ∙ ap (λ (q : Relations). first_kept None (unread_in q None d (target_nodes q d most n))) (sym e)

  -- with the first that isn't read by a table
  pub asked_found : (r' : Relations) (t : Table) (ns : List Note) (u o : Option At) → r' ≡ r → FoundOf r d most n None (target_nodes r d most n) ns u
      → o ≡ first_kept None (unread_in r' (Some t) d (target_nodes r' d most n)) → FoundOf r d most n (Some t) (target_nodes r d most n) ns o
  asked_found r' t ns u o e found f = record {
    fine = found.fine;
    noted = found.noted;
    unread = f ∙ ap (λ (q : Relations). first_kept None (unread_in q (Some t) d (target_nodes q d most n))) e;
  }

  pub from_begins : (t : Start) (s : Schema) (known : Option Table) (ms : List MergeD) (j : KeptD) (h : Handed) → j ≡ none_kept known ms → MergesFrom d most n t s ms
      → Begins j.merges (merges_in (tree_at r d most n (spot_of t [] h) s))
  from_begins t s known ms j h e m =
      let ts = tree_at r d most n (spot_of t [] h) s in
      none_begins known ms ts j e (begins_all ms (merges_in ts) (m.all r h))

  -- ---- one schema at a spot, and the items that are asked

  module _ (o : Spot) (s : Schema) where
    pub spot_listed : (r' : Relations) (ns : List Note) (u : Option At) → r' ≡ r → FoundOf r d most n None (tree_at r d most n o s) ns u → u ≡ first_kept None (unread_in r' None d (tree_at r' d most n o s))
    spot_listed r' ns u e found = found.unread ∙ ap (λ (q : Relations). first_kept None (unread_in q None d (tree_at q d most n o s))) (sym e)

    pub spot_fine : (r' : Relations) → r' ≡ r → AreFine r d most n (tree_at r d most n o s) → AreFine r' d most n (tree_at r' d most n o s)
    spot_fine r' e t = subst (λ (q : Relations). AreFine q d most n (tree_at q d most n o s)) (sym e) t

    pub spot_found : (r' : Relations) (ns : List Note) (u v : Option At) → r' ≡ r → FoundOf r d most n None (tree_at r d most n o s) ns u
        → v ≡ first_kept None (unread_in r' (Some (targets_table r' d most n)) d (tree_at r' d most n o s)) → FoundOf r d most n (Some (targets_table r d most n)) (tree_at r d most n o s) ns v
    spot_found r' ns u v e found f = record {
      fine = found.fine;
      noted = found.noted;
      unread = f ∙ ap (λ (q : Relations). first_kept None (unread_in q (Some (targets_table q d most n)) d (tree_at q d most n o s))) e;
    }

    -- by a table that is that of the items, asked by a later judge
    pub spot_unread : (r' : Relations) (t : Table) (ns : List Note) (v : Option At) → r' ≡ r → t ≡ targets_table r d most n → FoundOf r' d most n (Some t) (tree_at r' d most n o s) ns v
        → v ≡ first_kept None (unread_in r (Some (targets_table r d most n)) d (tree_at r d most n o s))
    spot_unread r' t ns v e g found = found.unread ∙ (λ i. first_kept None (unread_in (e i) (Some (g i)) d (tree_at (e i) d most n o s)))

    module _ (f : FaultD) where
      pub spot_refused : (old new : ℕ) → Refuses r d most n old new (tree_at r d most n o s) f → Refuses r d most n old new (with_items_asked r d most n (tree_at r d most n o s)) f
      spot_refused old new k = refuses_first r d most n f old new (tree_at r d most n o s) (items_asked r d most n (unread_in r None d (tree_at r d most n o s))) k

      pub spot_refused_later : (r' : Relations) (first old new : ℕ) → r' ≡ r → first ≤ old → Refuses r' d most n old new (with_items_asked r' d most n (tree_at r' d most n o s)) f
          → Refuses r d most n first new (with_items_asked r d most n (tree_at r d most n o s)) f
      spot_refused_later r' first old new e h k =
          refuses_from r d most n f first old new (with_items_asked r d most n (tree_at r d most n o s)) h (subst (λ (q : Relations). Refuses q d most n old new (with_items_asked q d most n (tree_at q d most n o s)) f) e k)

      pub items_refused : (old new : ℕ) → AreFine r d most n (tree_at r d most n o s) → Refuses r d most n old new (target_nodes r d most n) f → Refuses r d most n old new (tree_at r d most n o s ++ target_nodes r d most n) f
      items_refused old new a k = refuses_second r d most n f old new (tree_at r d most n o s) (target_nodes r d most n) a k

      pub again_refused : (r' : Relations) (first old new : ℕ) → r' ≡ r → first ≤ old → Refuses r' d most n old new (tree_at r' d most n o s) f
          → Refuses r d most n first new (tree_at r d most n o s ++ target_nodes r d most n) f
      again_refused r' first old new e h k =
          refuses_first r d most n f first new (tree_at r d most n o s) (target_nodes r d most n)
          (refuses_from r d most n f first old new (tree_at r d most n o s) h (subst (λ (q : Relations). Refuses q d most n old new (tree_at q d most n o s) f) e k))

      -- where something is listed
      pub listed_refused : (old new : ℕ) (a : At) → Some a ≡ first_kept None (unread_in r None d (tree_at r d most n o s)) → Refuses r d most n old new (tree_at r d most n o s ++ target_nodes r d most n) f
          → Refuses r d most n old new (with_items_asked r d most n (tree_at r d most n o s)) f
      listed_refused old new a e k = by (unread_in r None d (tree_at r d most n o s)) e
        where
          by : (us : List At) → Some a ≡ first_kept None us → Refuses r d most n old new (tree_at r d most n o s ++ items_asked r d most n us) f
          by [] e = absurd (cc)
          by (u ∷ us) e = k

  -- ---- one schema

  module _ (at : Location) (name : Handed) where
    -- with an item of its own
    pub item_added : (k : Held) (i : Id) (o : Option Target) (q : Target) → o ≡ target_at d at → o ≡ Some q → ((h : History) → Keeps k h → i ≡ target_id h.table q)
        → (h : History) → Keeps k h → KeepsMore k i (added r d most n at name h)
    item_added k i o q e w id h keeps = subst (λ (o : Option Target). KeepsMore k i (added_by r d most n at name o (schema_at d at) h)) (sym w ∙ e) (record { keeps = keeps; id = id h keeps })

    pub item_fine : (o : Option Target) (q : Target) → o ≡ target_at d at → o ≡ Some q → AreFine r d most n (added_nodes r d most n at name)
    item_fine o q e w = subst (λ (o : Option Target). AreFine r d most n (nodes_by r d most n at name o (schema_at d at))) (sym w ∙ e) (none_fine r d most n)

    -- without, by where it begins and the name that is handed down
    module _ (none : target_at d at ≡ None) (s : Schema) (there : schema_at d at ≡ Some s) (w : Handed) (o : Spot) (begins : o ≡ begins_at at w) (same : w ≡ wanted_at d at name) where
      spot-so : o ≡ begins_at at (wanted_at d at name)
      spot-so = begins ∙ ap (begins_at at) same

      nodes-so : tree_at r d most n o s ≡ added_nodes r d most n at name
      nodes-so = (λ i. tree_at r d most n (spot-so i) s) ∙ sym (λ i. nodes_by r d most n at name (none i) (there i))

      pub schema_added : (k l : Held) (i : Id) (h : History) → KeepsMore l i (with_nodes r d most n (entry_at r d most n o s) (tree_at r d most n o s) h, next_id h.table (entry_at r d most n o s))
          → KeepsMore l i (added r d most n at name h)
      schema_added k l i h more =
          subst (λ (a : History × Id). KeepsMore l i a)
          ((λ j. (with_nodes r d most n (entry_at r d most n (spot-so j) s) (tree_at r d most n (spot-so j) s) h, next_id h.table (entry_at r d most n (spot-so j) s)))
          ∙ sym (λ j. added_by r d most n at name (none j) (there j) h)) more

      pub schema_fine : AreFine r d most n (tree_at r d most n o s) → AreFine r d most n (added_nodes r d most n at name)
      schema_fine t = subst (λ (ts : List Node). AreFine r d most n ts) nodes-so t

      pub schema_refused : (f : FaultD) (old new : ℕ) → Refuses r d most n old new (with_items_asked r d most n (tree_at r d most n o s)) f → Refuses r d most n old new (met_nodes r d most n at name) f
      schema_refused f old new t = subst (λ (ts : List Node). Refuses r d most n old new (with_items_asked r d most n ts) f) nodes-so t
