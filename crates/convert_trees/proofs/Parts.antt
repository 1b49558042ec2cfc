-- The parts of a row, one after another.
use Rattle.std.proofs.Common.{◌≡◌, ℕ, ◌+◌, ◌<◌, ◌≤◌, List, [], ◌∷◌, ◌++◌, length, map, drop, get_or, sym, ap, subst, ◌∙◌, append-nil, append_assoc}
use Rattle.schema_defs.specs.Texts.{Relations}
use Rattle.schema_defs.specs.Schema.{Document}
use Rattle.entry_defs.specs.Entry.{Entry}
use Rattle.convert_defs.specs.Row.{Part}
use Rattle.convert_walks.specs.Spot.{Spot, Branches, part_spot, part_schema}
use Rattle.convert_walks.specs.Tree.{Node, entry_at, tree_at, parts_trees}
use Rattle.row_findings.specs.View.{part_view}
use Rattle.document_merges.specs.Merges.{merges_in}
use Rattle.schema_tree.specs.Fault.{FaultD}
use Rattle.document_merges.specs.declared.listed.Listed.{Listed}
use Rattle.document_merges.specs.Listed.{listed_view}
use Rattle.convert_trees.specs.Keeping.{KeptD}
use Rattle.convert_trees.specs.Told.{IsTold, Refuses, Begins}
use Rattle.merged_rows.proofs.Trails.{drop_past}
use Rattle.convert_trees.proofs.Telling.{Passed, passed_on, passed_end, passed_refuses, passed_begins, refuses_from}
use Rattle.schema_defs.proofs.Turns.{mapped_drop}

-- one more part, with what it is converted to
entries_turn : (convert : Part → Entry) (p : Part) (ps : List Part) (e : Entry) (old new whole : List Entry) → old ++ map convert (p ∷ ps) ≡ whole → new ≡ old ++ e ∷ [] → e ≡ convert p → new ++ map convert ps ≡ whole
entries_turn convert p ps e old new whole h g k =
    ap (λ es. es ++ map convert ps) g ∙ append_assoc old (e ∷ []) (map convert ps) ∙ ap (λ e. old ++ e ∷ map convert ps) k ∙ h

next_seen : (ps : List Listed) (i : ℕ) (q : Listed) → i < length ps → q ≡ get_or ps i q → listed_view (drop i ps) ≡ part_view q.part.now ∷ listed_view (drop (i + 1) ps)
next_seen ps i q h e = mapped_drop (λ (p : Listed). part_view p.part.now) ps i q h e

module _ (r : Relations) (d : Document) (most n : ℕ) (o : Spot) (ms : Branches) where
  abbrev pub part_entry : Part → Entry
  part_entry p = entry_at r d most n (part_spot o ms p) (part_schema p)

  abbrev pub part_nodes : Part → List Node
  part_nodes p = tree_at r d most n (part_spot o ms p) (part_schema p)

  abbrev pub all_nodes : List Part → List Node
  all_nodes ps = parts_trees r d most (λ o s. tree_at r d most n o s) o ms ps

module _ (r : Relations) (d : Document) (most n : ℕ) (o : Spot) (ms : Branches) (r' : Relations) (same : r' ≡ r) (ps : List Listed) (i : ℕ) where
  pub entries_next : (q : Listed) (e : Entry) (old new whole : List Entry) → i < length ps → q ≡ get_or ps i q → old ++ map (part_entry r d most n o ms) (listed_view (drop i ps)) ≡ whole → new ≡ old ++ e ∷ []
      → e ≡ part_entry r' d most n o ms (part_view q.part.now) → new ++ map (part_entry r d most n o ms) (listed_view (drop (i + 1) ps)) ≡ whole
  entries_next q e old new whole w at g k a =
      entries_turn (part_entry r d most n o ms) (part_view q.part.now) (listed_view (drop (i + 1) ps)) e old new whole
      (ap (λ qs. old ++ map (part_entry r d most n o ms) qs) (sym (next_seen ps i q w at)) ∙ g) k (a ∙ ap (λ (r : Relations). part_entry r d most n o ms (part_view q.part.now)) same)

  pub entries_all : (done : List Entry) → length ps ≤ i → done ++ map (part_entry r d most n o ms) (listed_view (drop i ps)) ≡ map (part_entry r d most n o ms) (listed_view ps) → done ≡ map (part_entry r d most n o ms) (listed_view ps)
  entries_all done w g = sym (append-nil done) ∙ ap (λ qs. done ++ map (part_entry r d most n o ms) (listed_view qs)) (sym (drop_past ps i w)) ∙ g

  abbrev whole_nodes : List Node
  whole_nodes = all_nodes r d most n o ms (listed_view ps)

  abbrev left_nodes : ℕ → List Node
  left_nodes i = all_nodes r d most n o ms (listed_view (drop i ps))

  opened : (q : Listed) (first j : KeptD) → i < length ps → q ≡ get_or ps i q → Passed r d most n whole_nodes (left_nodes i) first j
      → Passed r d most n whole_nodes (part_nodes r d most n o ms (part_view q.part.now) ++ left_nodes (i + 1)) first j
  opened q first j w at p = subst (λ (qs : List Part). Passed r d most n whole_nodes (all_nodes r d most n o ms qs) first j) (next_seen ps i q w at) p

  pub told_next : (q : Listed) (first j k : KeptD) → i < length ps → q ≡ get_or ps i q → Passed r d most n whole_nodes (left_nodes i) first j
      → IsTold r' d most n (part_nodes r' d most n o ms (part_view q.part.now)) j k → Passed r d most n whole_nodes (left_nodes (i + 1)) first k
  told_next q first j k w at p t =
      passed_on r d most n whole_nodes (part_nodes r d most n o ms (part_view q.part.now)) (left_nodes (i + 1)) first j k (opened q first j w at p)
      (subst (λ (r : Relations). IsTold r d most n (part_nodes r d most n o ms (part_view q.part.now)) j k) same t)

  pub told_all : (first j : KeptD) → length ps ≤ i → Passed r d most n whole_nodes (left_nodes i) first j → IsTold r d most n whole_nodes first j
  told_all first j w p = passed_end r d most n whole_nodes (left_nodes i) first j (ap (λ qs. all_nodes r d most n o ms (listed_view qs)) (drop_past ps i w)) p

  pub part_refuses : (q : Listed) (first j : KeptD) (f : FaultD) (a b c : ℕ) → i < length ps → q ≡ get_or ps i q → Passed r d most n whole_nodes (left_nodes i) first j → a ≤ b
      → Refuses r' d most n b c (part_nodes r' d most n o ms (part_view q.part.now)) f → Refuses r d most n a c whole_nodes f
  part_refuses q first j f a b c w at p u k =
      refuses_from r d most n f a b c whole_nodes u
      (passed_refuses r d most n f b c whole_nodes (part_nodes r d most n o ms (part_view q.part.now)) (left_nodes (i + 1)) first j (opened q first j w at p)
      (subst (λ (r : Relations). Refuses r d most n b c (part_nodes r d most n o ms (part_view q.part.now)) f) same k))

  -- the merges that are left begin with those of the next part
  pub part_begins : (q : Listed) (first j : KeptD) → i < length ps → q ≡ get_or ps i q → Passed r d most n whole_nodes (left_nodes i) first j
      → Begins first.merges (merges_in whole_nodes) → Begins j.merges (merges_in (part_nodes r' d most n o ms (part_view q.part.now)))
  part_begins q first j w at p b =
      subst (λ (r : Relations). Begins j.merges (merges_in (part_nodes r d most n o ms (part_view q.part.now)))) (sym same)
      (passed_begins r d most n whole_nodes (part_nodes r d most n o ms (part_view q.part.now)) (left_nodes (i + 1)) first j (opened q first j w at p) b)
