-- More levels leave what doesn't come of too few: by the rows that merge, then by the tree, then by what is told of its nodes.
use Rattle.std.proofs.Common.{◌≡◌, ℕ, zero, suc, ◌≤◌, List, [], ◌∷◌, ◌++◌, map, Bool, true, false, Option, Some, None, refl, sym, ap, ◌∙◌, arith}
use Rattle.schema_defs.specs.Texts.{Relations}
use Rattle.schema_defs.specs.Schema.{Plain, Schema, boolean, object, Same, no_same, Lists, Named, Document}
use Rattle.schema_defs.specs.Admits.{target, target_location}
use Rattle.entry_defs.specs.Entry.{Entry, any_entry}
use Rattle.convert_defs.specs.Row.{Part, child, of_branch, lone, made, row_parts}
use Rattle.convert_defs.specs.Standing.{less_reference}
use Rattle.convert_defs.specs.Table.{finding_of, row_of}
use Rattle.convert_defs.specs.Convert.{named_by}
use Rattle.convert_defs.proofs.Views.{AllParts}
use Rattle.merge_defs.specs.Outcome.{Outcome, fault, never, answer, depth, unsupported}
use Rattle.merge_walks.specs.Carried.{on_walk, to_target, carried, has_more_steps}
use Rattle.walk_laws.specs.Levels.{StaysWithMore}
use Rattle.walk_laws.proofs.MoreLevels.{more_levels_stay}
use Rattle.convert_walks.specs.Spot.{Spot, Branches, part_spot, part_schema}
use Rattle.convert_walks.specs.Merging.{carried_parts, with_target, without_reference, merged_by, merged_at}
use Rattle.convert_walks.specs.Tree.{Standing, instead, too_many_steps, converted, Node, cut, if_merged, standing_entry, row_entry, entry_at, parts_trees, deep_branches, standing_tree, below, merge_of, tree_at}
use Rattle.merging_laws.specs.Conversion.{AllNodes}
use Rattle.conversion_laws.specs.Levels.{RowsStay, HasOutcome, HasLevels, IsConverted, unentered, TreesStay, EntriesStay}
use Rattle.conversion_laws.proofs.FineTrees.{nodes-left, nodes-right}
use Rattle.conversion_laws.proofs.SameEntries.{same-entry}

-- ---- rows that merge

module _ (d : Document) (most m n : ℕ) (le : m ≤ n) where
  target-stays : (o : Spot) (q : List ℕ) (t : Option Schema) (s : Schema) → StaysWithMore (with_target d most m o q t s) (with_target d most n o q t s)
  target-stays o q None s = refl
  target-stays o q (Some t) s = (more_levels_stay d most m n le).joins (on_walk (to_target o.walk (target_location d q)) t) s

  parts-stay : (o : Spot) (p : Plain) (ss : Same) (ls : Lists) (ns : Named) (ps : List Part) → StaysWithMore (without_reference d most m o p ss ls ns ps) (without_reference d most n o p ss ls ns ps)
  parts-stay o p ss ls ns [] = (more_levels_stay d most m n le).gathers (carried_parts o [])
  parts-stay o p ss ls ns (made b ∷ ps) = (more_levels_stay d most m n le).with_all (carried o.walk (object p no_same ls ns)) ss
  parts-stay o p ss ls ns (child k s ∷ ps) = (more_levels_stay d most m n le).gathers (carried_parts o (child k s ∷ ps))
  parts-stay o p ss ls ns (of_branch k s ∷ ps) = (more_levels_stay d most m n le).gathers (carried_parts o (of_branch k s ∷ ps))
  parts-stay o p ss ls ns (lone k s ∷ ps) = (more_levels_stay d most m n le).gathers (carried_parts o (lone k s ∷ ps))

  merged-stays : (o : Spot) (p : Plain) (ss : Same) (ls : Lists) (ns : Named) (ps : List Part) (f : Option (List ℕ)) → StaysWithMore (merged_by d most m o p ss ls ns ps f) (merged_by d most n o p ss ls ns ps f)
  merged-stays o p ss ls ns ps None = parts-stay o p ss ls ns ps
  merged-stays o p ss ls ns ps (Some q) = target-stays o q (target d q) (carried o.walk (object (less_reference p) ss ls ns))

pub rows_stay : RowsStay
rows_stay d most m n le o (boolean b) ps = refl
rows_stay d most m n le o (object p ss ls ns) ps = merged-stays d most m n le o p ss ls ns ps p.reference

same-outcome : (o u : Outcome Schema) → StaysWithMore o u → HasOutcome o → u ≡ o
same-outcome (fault (depth [])) u h g = absurd g
same-outcome (fault (depth (l ∷ w))) u h g = h
same-outcome (fault (unsupported x)) u h g = h
same-outcome (never ns) u h g = h
same-outcome (answer ns s) u h g = h

-- ---- trees

pub map-both : (f : Node → Node) (xs ys : List Node) → map f (xs ++ ys) ≡ map f xs ++ map f ys
map-both f [] ys = refl
map-both f (x ∷ xs) ys = ap (λ zs. f x ∷ zs) (map-both f xs ys)

module _ (r : Relations) (d : Document) (most : ℕ) where
  abbrev Enough : Node → Type 0
  Enough t = HasLevels t.state

  abbrev Fully : Node → Type 0
  Fully t = IsConverted t.state

  abbrev trees : ℕ → Spot → Schema → List Node
  trees n o s = tree_at r d most n o s

  abbrev entries : ℕ → Spot → Schema → Entry
  entries n o s = entry_at r d most n o s

  -- the same tree but for entries, by levels of m and of n
  abbrev TreeStays : ℕ → ℕ → Type 0
  TreeStays m n = (o : Spot) (s : Schema) → AllNodes Enough (trees m o s) → map unentered (trees n o s) ≡ map unentered (trees m o s)

  -- the same tree
  abbrev WholeStays : ℕ → ℕ → Type 0
  WholeStays m n = (o : Spot) (s : Schema) → AllNodes Fully (trees m o s) → (entries n o s ≡ entries m o s) × (trees n o s ≡ trees m o s)

  module _ (m n : ℕ) (le : m ≤ n) (o : Spot) (s : Schema) where
    merges-same : (ps : List Part) → HasOutcome (merged_at d most m o s ps) → merged_at d most n o s ps ≡ merged_at d most m o s ps
    merges-same ps h = same-outcome (merged_at d most m o s ps) (merged_at d most n o s ps) (rows_stay d most m n le o s ps) h

    -- ---- but for entries

    module _ (rec : TreeStays m n) where
      parts-same : (ms : Branches) (ps : List Part) → AllNodes Enough (parts_trees r d most (λ o s. trees m o s) o ms ps) → map unentered (parts_trees r d most (λ o s. trees n o s) o ms ps) ≡ map unentered (parts_trees r d most (λ o s. trees m o s) o ms ps)
      parts-same ms [] h = refl
      parts-same ms (p ∷ ps) h =
          map-both unentered (trees n (part_spot o ms p) (part_schema p)) (parts_trees r d most (λ o s. trees n o s) o ms ps)
          ∙ (λ i. rec (part_spot o ms p) (part_schema p) (nodes-left Enough (trees m (part_spot o ms p) (part_schema p)) _ h) i ++ parts-same ms ps (nodes-right Enough (trees m (part_spot o ms p) (part_schema p)) _ h) i)
          ∙ sym (map-both unentered (trees m (part_spot o ms p) (part_schema p)) (parts_trees r d most (λ o s. trees m o s) o ms ps))

      standing-same : (t : Option Standing) → AllNodes Enough (standing_tree r d most (λ o s. trees m o s) t) → map unentered (standing_tree r d most (λ o s. trees n o s) t) ≡ map unentered (standing_tree r d most (λ o s. trees m o s) t)
      standing-same None h = refl
      standing-same (Some t) h = rec t.spot t.schema h

      abbrev node_by : ℕ → Option (List Part) → Node
      node_by k ps = record { spot = o; schema = s; entry = entries (suc k) o s; state = converted (merge_of r d most k o s ps) }

      abbrev under_by : ℕ → Option (List Part) → List Node
      under_by k ps = below r d most k (λ o s. trees k o s) o s (finding_of r d s).branches (row_of r d s) ps

      row-same : (ps : Option (List Part)) → AllNodes Enough (node_by m ps ∷ under_by m ps) → map unentered (node_by n ps ∷ under_by n ps) ≡ map unentered (node_by m ps ∷ under_by m ps)
      row-same None h =
          ap (λ ts. unentered (node_by m None) ∷ ts)
          (map-both unentered (deep_branches r d most o (finding_of r d s).branches) (parts_trees r d most (λ o s. trees n o s) o (finding_of r d s).branches (row_parts (row_of r d s)))
          ∙ ap (λ ts. map unentered (deep_branches r d most o (finding_of r d s).branches) ++ ts) (parts-same (finding_of r d s).branches (row_parts (row_of r d s)) (nodes-right Enough (deep_branches r d most o (finding_of r d s).branches) _ h.1))
          ∙ sym (map-both unentered (deep_branches r d most o (finding_of r d s).branches) (parts_trees r d most (λ o s. trees m o s) o (finding_of r d s).branches (row_parts (row_of r d s)))))
      row-same (Some ps) h =
          (λ i. record { spot = o; schema = s; entry = any_entry; state = converted (Some (merges-same ps h.0 i)) } ∷ map unentered (standing_tree r d most (λ o s. trees n o s) (instead o s (merges-same ps h.0 i))))
          ∙ ap (λ ts. unentered (node_by m (Some ps)) ∷ ts) (standing-same (instead o s (merged_at d most m o s ps)) h.1)

      abbrev tree_by : ℕ → Bool → List Node
      tree_by k b = elim b [ true ↦ cut too_many_steps o s ∷ [] | false ↦ node_by k (if_merged (row_of r d s)) ∷ under_by k (if_merged (row_of r d s)) ]

      tree-same : (b : Bool) → AllNodes Enough (tree_by m b) → map unentered (tree_by n b) ≡ map unentered (tree_by m b)
      tree-same true h = refl
      tree-same false h = row-same (if_merged (row_of r d s)) h

    -- ---- with entries

    module _ (rec : WholeStays m n) where
      abbrev conv_by : ℕ → Branches → Part → Entry
      conv_by k ms p = entries k (part_spot o ms p) (part_schema p)

      parts-whole : (ms : Branches) (ps : List Part) → AllNodes Fully (parts_trees r d most (λ o s. trees m o s) o ms ps)
          → AllParts (λ p. conv_by n ms p ≡ conv_by m ms p) ps × (parts_trees r d most (λ o s. trees n o s) o ms ps ≡ parts_trees r d most (λ o s. trees m o s) o ms ps)
      parts-whole ms [] h = (tt, refl)
      parts-whole ms (p ∷ ps) h =
          let a = rec (part_spot o ms p) (part_schema p) (nodes-left Fully (trees m (part_spot o ms p) (part_schema p)) _ h) in
          let b = parts-whole ms ps (nodes-right Fully (trees m (part_spot o ms p) (part_schema p)) _ h) in
          ((a.0, b.0), λ i. a.1 i ++ b.1 i)

      standing-whole : (t : Option Standing) → AllNodes Fully (standing_tree r d most (λ o s. trees m o s) t)
          → (standing_entry r d most n (λ o s. entries n o s) t ≡ standing_entry r d most m (λ o s. entries m o s) t) × (standing_tree r d most (λ o s. trees n o s) t ≡ standing_tree r d most (λ o s. trees m o s) t)
      standing-whole None h = (refl, refl)
      standing-whole (Some t) h = rec t.spot t.schema h

      abbrev entry_by : ℕ → Option (List Part) → Entry
      entry_by k ps = row_entry r d most k (λ o s. entries k o s) o s (finding_of r d s).branches (row_of r d s) ps

      abbrev whole_by : ℕ → Option (List Part) → List Node
      whole_by k ps = record { spot = o; schema = s; entry = entry_by k ps; state = converted (merge_of r d most k o s ps) } ∷ below r d most k (λ o s. trees k o s) o s (finding_of r d s).branches (row_of r d s) ps

      row-whole : (ps : Option (List Part)) → AllNodes Fully (whole_by m ps) → (entry_by n ps ≡ entry_by m ps) × (whole_by n ps ≡ whole_by m ps)
      row-whole None h =
          let ms : Branches = (finding_of r d s).branches in
          let a = parts-whole ms (row_parts (row_of r d s)) (nodes-right Fully (deep_branches r d most o ms) _ h.1) in
          let e : entry_by n None ≡ entry_by m None = same-entry (conv_by n ms) (conv_by m ms) (named_by o.handed s) (row_of r d s) a.0 in
          (e, λ i. record { spot = o; schema = s; entry = e i; state = converted None } ∷ (deep_branches r d most o ms ++ a.1 i))
      row-whole (Some ps) h =
          let q : merged_at d most n o s ps ≡ merged_at d most m o s ps = merges-same ps h.0 in
          let a = standing-whole (instead o s (merged_at d most m o s ps)) h.1 in
          let e : entry_by n (Some ps) ≡ entry_by m (Some ps) = ap (λ x. standing_entry r d most n (λ o s. entries n o s) (instead o s x)) q ∙ a.0 in
          let t : standing_tree r d most (λ o s. trees n o s) (instead o s (merged_at d most n o s ps)) ≡ standing_tree r d most (λ o s. trees m o s) (instead o s (merged_at d most m o s ps)) = ap (λ x. standing_tree r d most (λ o s. trees n o s) (instead o s x)) q ∙ a.1 in
          (e, λ i. record { spot = o; schema = s; entry = e i; state = converted (Some (q i)) } ∷ t i)

      abbrev whole_tree : ℕ → Bool → List Node
      whole_tree k b = elim b [ true ↦ cut too_many_steps o s ∷ [] | false ↦ whole_by k (if_merged (row_of r d s)) ]

      whole-same : (b : Bool) → AllNodes Fully (whole_tree m b) → (entry_by n (if_merged (row_of r d s)) ≡ entry_by m (if_merged (row_of r d s))) × (whole_tree n b ≡ whole_tree m b)
      whole-same true h = absurd h.0
      whole-same false h = row-whole (if_merged (row_of r d s)) h

  tree-stays : (m n : ℕ) → m ≤ n → TreeStays m n
  tree-stays zero n le o s h = absurd h.0
  tree-stays (suc m) zero le o s h = absurd (omega (arith, le))
  tree-stays (suc m) (suc n) le o s h = tree-same m n (omega (arith, le)) o s (tree-stays m n (omega (arith, le))) (has_more_steps most o.walk) h

  whole-stays : (m n : ℕ) → m ≤ n → WholeStays m n
  whole-stays zero n le o s h = absurd h.0
  whole-stays (suc m) zero le o s h = absurd (omega (arith, le))
  whole-stays (suc m) (suc n) le o s h = whole-same m n (omega (arith, le)) o s (whole-stays m n (omega (arith, le))) (has_more_steps most o.walk) h

pub trees_stay : TreesStay
trees_stay r d most m n le o s h = tree-stays r d most m n le o s h

pub entries_stay : EntriesStay
entries_stay r d most m n le o s h = whole-stays r d most m n le o s h
