-- One schema whose row doesn't merge, by what was found of it.
use Rattle.std.proofs.Common.{◌≡◌, ℕ, zero, suc, ◌-◌, ◌⊎◌, List, [], ◌∷◌, ◌++◌, Bool, true, false, Option, None, map, refl, sym, ap, subst, ◌∙◌, append_assoc, append-nil, arith}
use Rattle.schema_defs.specs.Location.{Location}
use Rattle.schema_defs.specs.Texts.{Relations}
use Rattle.schema_defs.specs.Schema.{Schema, Document}
use Rattle.entry_defs.specs.Entry.{Entry}
use Rattle.convert_defs.specs.Row.{Part, Finding, row_parts, Cause}
use Rattle.convert_defs.specs.Table.{finding_of, row_of}
use Rattle.convert_defs.specs.Convert.{named_by}
use Rattle.convert_defs.specs.Faults.{finding_faults}
use Rattle.merge_defs.specs.Outcome.{Outcome}
use Rattle.merge_walks.specs.Carried.{has_more_steps}
use Rattle.convert_walks.specs.Spot.{Spot, part_spot, part_schema}
use Rattle.convert_walks.specs.Tree.{Node, Trees, cut, too_many_steps, converted, if_merged, entry_at, row_entry, tree_at, below, merge_of, deep_branches, parts_trees}
use Rattle.convert_walks.specs.Told.{Note, Reason, by_row, placed_note, notes_in}
use Rattle.schema_tree.specs.Fault.{FaultD, memory, depth}
use Rattle.row_trees.specs.Build.{built}
use Rattle.row_trees.proofs.Rows.{rows_are_built}
use Rattle.document_merges.specs.Merges.{MergeD, merges_in}
use Rattle.convert_trees.specs.Keeping.{KeptD, with_unread}
use Rattle.convert_trees.specs.Unread.{unread_of, unread_in}
use Rattle.convert_trees.specs.Told as told
use Rattle.convert_trees.specs.Told.{NoAnswer, AreFine, IsTold, IsToldOf, RefusesBy, unanswered, by_cause, Refuses, by_none, by_fault, RefusesOf, at_schema, at_parts, Begins}
use Rattle.convert_trees.proofs.Telling.{none_of_first, none_fine, both_fine, refuses_first, refuses_second, tells_head, cut_refuses, told_by_levels, refuses_by_levels}

-- a schema that is converted, and what is below it
module _ (r : Relations) (d : Document) (most n : ℕ) (o : Spot) (s : Schema) where
  abbrev pub node_with : Option (Outcome Schema) → Node
  node_with m = record { spot = o; schema = s; entry = entry_at r d most (suc n) o s; state = converted m }

  abbrev pub trees : Trees
  trees = λ o s. tree_at r d most n o s

  abbrev tree_by : Bool → List Node
  tree_by b = elim b [
    | true ↦ cut too_many_steps o s ∷ []
    | false ↦ node_with (merge_of r d most n o s (if_merged (row_of r d s))) ∷ below r d most n trees o s (finding_of r d s).branches (row_of r d s) (if_merged (row_of r d s))
  ]

  pub shallow : has_more_steps most o.walk ≡ false
      → tree_at r d most (suc n) o s ≡ node_with (merge_of r d most n o s (if_merged (row_of r d s))) ∷ below r d most n trees o s (finding_of r d s).branches (row_of r d s) (if_merged (row_of r d s))
  shallow e = ap tree_by e

  pub deep : has_more_steps most o.walk ≡ true → tree_at r d most (suc n) o s ≡ cut too_many_steps o s ∷ []
  deep e = ap tree_by e

  by_parts : (m : Option (List Part)) → m ≡ None
      → node_with (merge_of r d most n o s m) ∷ below r d most n trees o s (finding_of r d s).branches (row_of r d s) m
      ≡ node_with None ∷ (deep_branches r d most o (finding_of r d s).branches ++ parts_trees r d most trees o (finding_of r d s).branches (row_parts (row_of r d s)))
  by_parts m e = ap (λ m. node_with (merge_of r d most n o s m) ∷ below r d most n trees o s (finding_of r d s).branches (row_of r d s) m) e

  module _ (fd : Finding) (e : fd ≡ finding_of r d s) (w : has_more_steps most o.walk ≡ false) (p : if_merged fd.row ≡ None) where
    abbrev pub cut_below : List Node
    cut_below = deep_branches r d most o fd.branches

    abbrev pub parts_below : List Node
    parts_below = parts_trees r d most trees o fd.branches (row_parts fd.row)

    merges_none : if_merged (row_of r d s) ≡ None
    merges_none = ap (λ (fd : Finding). if_merged fd.row) (sym e) ∙ p

    pub plain_is : tree_at r d most (suc n) o s ≡ node_with None ∷ (cut_below ++ parts_below)
    plain_is =
        shallow w ∙ by_parts (if_merged (row_of r d s)) merges_none
        ∙ ap (λ (fd : Finding). node_with None ∷ (deep_branches r d most o fd.branches ++ parts_trees r d most trees o fd.branches (row_parts fd.row))) (sym e)

    pub plain_entry : (x : Entry) → x ≡ built (named_by o.handed s) fd.row (map (λ p. entry_at r d most n (part_spot o fd.branches p) (part_schema p)) (row_parts fd.row)) → x ≡ entry_at r d most (suc n) o s
    plain_entry x h =
        h ∙ rows_are_built (λ p. entry_at r d most n (part_spot o fd.branches p) (part_schema p)) (named_by o.handed s) fd.row
        ∙ ap (λ m. row_entry r d most n (λ o s. entry_at r d most n o s) o s fd.branches fd.row m) (sym p)
        ∙ ap (λ (fd : Finding). row_entry r d most n (λ o s. entry_at r d most n o s) o s fd.branches fd.row (if_merged fd.row)) e

    pub plain_begins : (left : KeptD) (l : KeptD) → cut_below ≡ [] → l.merges ≡ left.merges → Begins left.merges (merges_in (tree_at r d most (suc n) o s)) → Begins l.merges (merges_in parts_below)
    plain_begins left l b m h =
        let of_whole = subst (λ (ts : List Node). Begins left.merges (merges_in ts)) plain_is h in
        subst (λ (ms : List MergeD). Begins ms (merges_in parts_below)) (sym m) (subst (λ (ts : List Node). Begins left.merges (merges_in (ts ++ parts_below))) b of_whole)

    abbrev by_rows : List Cause → List (Location × Reason)
    by_rows cs = map (λ c. (o.path, by_row c)) cs

    -- ---- a refusal, of the schema itself, of its branches or of its parts

    module _ (f : FaultD) (old new : ℕ) where
      abbrev Refused : Type 0
      Refused = Refuses r d most n old new (tree_at r d most (suc n) o s) f

      whole_refuses : Refuses r d most n old new (node_with None ∷ (cut_below ++ parts_below)) f → Refused
      whole_refuses k = subst (λ (ts : List Node). Refuses r d most n old new ts f) (sym plain_is) k

      -- no answer at the schema's own place
      own_fails : NoAnswer (o.path ∷ []) old new f → Refuses r d most n old new (node_with None ∷ (cut_below ++ parts_below)) f
      own_fails k = by_none (none_of_first f old new (node_with None ∷ []) (cut_below ++ parts_below) k)

      own_by : RefusesBy o.path s (finding_of r d s) old new (finding_faults r d most (finding_of r d s)) f → Refuses r d most n old new (node_with None ∷ (cut_below ++ parts_below)) f
      own_by (unanswered k) = own_fails k
      own_by (by_cause c cs g k) =
          by_fault (tells_head r d most n f (node_with None) (cut_below ++ parts_below)
          (told.of_reason o.path (by_row c) (by_rows cs) (ap by_rows g) k))

      pub own_here : RefusesBy o.path s fd old new (finding_faults r d most fd) f → Refused
      own_here k = whole_refuses (own_by (subst (λ (fd : Finding). RefusesBy o.path s fd old new (finding_faults r d most fd) f) e k))

    own_fine : finding_faults r d most fd ≡ [] → AreFine r d most n (node_with None ∷ [])
    own_fine g = record { faultless = ap (λ (fd : Finding). by_rows (finding_faults r d most fd) ++ []) (sym e) ∙ ap (λ cs. by_rows cs ++ []) g }

    module _ (g : finding_faults r d most fd ≡ []) where
      pub branches_here : (f : FaultD) (old new : ℕ) → Refuses r d most n old new cut_below f → Refuses r d most n old new (tree_at r d most (suc n) o s) f
      branches_here f old new k =
          whole_refuses f old new (refuses_second r d most n f old new (node_with None ∷ []) (cut_below ++ parts_below) (own_fine g)
          (refuses_first r d most n f old new cut_below parts_below k))

      module _ (b : cut_below ≡ []) where
        cut_fine : AreFine r d most n cut_below
        cut_fine = subst (λ (ts : List Node). AreFine r d most n ts) (sym b) (none_fine r d most n)

        pub parts_here : (f : FaultD) (old new : ℕ) → RefusesOf r d most n o.path old new parts_below f → Refuses r d most n old new (tree_at r d most (suc n) o s) f
        parts_here f old new (at_schema k) = whole_refuses f old new (own_fails f old new k)
        parts_here f old new (at_parts k) =
            whole_refuses f old new (refuses_second r d most n f old new (node_with None ∷ []) (cut_below ++ parts_below) (own_fine g)
            (refuses_second r d most n f old new cut_below parts_below cut_fine k))

        -- ---- told

        abbrev own_notes : Finding → List Note
        own_notes fd = map (placed_note o fd.branches) fd.notes

        told_parts : (j k l : KeptD) (x : Entry) → k.notes ≡ j.notes ++ own_notes fd → k.values ≡ j.values → k.merges ≡ j.merges → x ≡ entry_at r d most (suc n) o s
            → IsToldOf r d most n o.path s fd.row x parts_below k l → IsTold r d most n (node_with None ∷ ([] ++ parts_below)) j l
        told_parts j k l x a v m h t = record {
          fine = both_fine r d most n (node_with None ∷ []) parts_below (own_fine g) t.fine;
          notes = t.notes ∙ ap (λ ns. ns ++ notes_in r d most n parts_below) a ∙ append_assoc j.notes (own_notes fd) (notes_in r d most n parts_below)
              ∙ ap (λ (fd : Finding). j.notes ++ (own_notes fd ++ notes_in r d most n parts_below)) e ∙ noted;
          values = t.values ∙ ap (λ v. with_unread (unread_of r v.known o.path s fd.row x ++ unread_in r v.known d parts_below) v) v
              ∙ (λ i. with_unread (unread_of r j.values.known o.path s (e i).row (h i) ++ unread_in r j.values.known d parts_below) j.values);
          merges = λ rest q. t.merges rest (m ∙ q);
        }
          where
            noted : j.notes ++ (own_notes (finding_of r d s) ++ notes_in r d most n parts_below) ≡ j.notes ++ notes_in r d most n (node_with None ∷ parts_below)
            noted = ap (λ ns. j.notes ++ (ns ++ notes_in r d most n parts_below)) (sym (append-nil (own_notes (finding_of r d s))))

        pub told_here : (j k l : KeptD) (x : Entry) → k.notes ≡ j.notes ++ own_notes fd → k.values ≡ j.values → k.merges ≡ j.merges → x ≡ entry_at r d most (suc n) o s
            → IsToldOf r d most n o.path s fd.row x parts_below k l → IsTold r d most n (tree_at r d most (suc n) o s) j l
        told_here j k l x a v m h t =
            subst (λ (ts : List Node). IsTold r d most n ts j l) (sym plain_is)
            (subst (λ (ts : List Node). IsTold r d most n (node_with None ∷ (ts ++ parts_below)) j l) (sym b) (told_parts j k l x a v m h t))

-- ---- by so many levels

pub one_more : (n : ℕ) → (n ≡ 0 → ⊥) → suc (n - 1) ≡ n
one_more zero h = absurd (h refl)
one_more (suc n) h = let k : suc n - 1 ≡ n = omega arith in ap suc k

module _ (r : Relations) (d : Document) (most n : ℕ) (o : Spot) (s : Schema) (some : n ≡ 0 → ⊥) where
  pub entry_on : (x : Entry) → x ≡ entry_at r d most (suc (n - 1)) o s → x ≡ entry_at r d most n o s
  entry_on x e = e ∙ ap (λ n. entry_at r d most n o s) (one_more n some)

  pub told_on : (j k : KeptD) → IsTold r d most (n - 1) (tree_at r d most (suc (n - 1)) o s) j k → IsTold r d most n (tree_at r d most n o s) j k
  told_on j k t =
      told_by_levels r d most (n - 1) n (tree_at r d most n o s) j k
      (subst (λ (m : ℕ). IsTold r d most (n - 1) (tree_at r d most m o s) j k) (one_more n some) t)

  pub refuses_on : (f : FaultD) (a b : ℕ) → Refuses r d most (n - 1) a b (tree_at r d most (suc (n - 1)) o s) f → Refuses r d most n a b (tree_at r d most n o s) f
  refuses_on f a b k =
      refuses_by_levels r d most (n - 1) n f a b (tree_at r d most n o s)
      (subst (λ (m : ℕ). Refuses r d most (n - 1) a b (tree_at r d most m o s) f) (one_more n some) k)

  pub begins_on : (left : List MergeD) → Begins left (merges_in (tree_at r d most n o s)) → Begins left (merges_in (tree_at r d most (suc (n - 1)) o s))
  begins_on left b = subst (λ (m : ℕ). Begins left (merges_in (tree_at r d most m o s))) (sym (one_more n some)) b

  pub deep_on : (f : FaultD) (a b : ℕ) → has_more_steps most o.walk ≡ true → (f ≡ memory) ⊎ (f ≡ depth o.walk) → Refuses r d most n a b (tree_at r d most n o s) f
  deep_on f a b e h =
      subst (λ (m : ℕ). Refuses r d most n a b (tree_at r d most m o s) f) (one_more n some)
      (subst (λ (ts : List Node). Refuses r d most n a b ts f) (sym (deep r d most (n - 1) o s e)) (cut_refuses r d most n f a b o s h))
