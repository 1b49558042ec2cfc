-- What the rows of a conversion tree merge, by what was found of its first schema.
use Rattle.std.proofs.Common.{◌≡◌, ℕ, zero, suc, ◌-◌, List, [], ◌∷◌, ◌++◌, Bool, true, false, Option, Some, None, refl, sym, ap, ◌∙◌, append_assoc, append-nil, arith}
use Rattle.schema_defs.specs.Texts.{Relations}
use Rattle.schema_defs.specs.Schema.{Schema, Document}
use Rattle.convert_defs.specs.Row.{Row, Part, Finding, row_parts}
use Rattle.convert_defs.specs.Table.{finding_of, row_of}
use Rattle.merge_walks.specs.Carried.{has_more_steps}
use Rattle.convert_walks.specs.Merging.{merged_at}
use Rattle.convert_walks.specs.Spot.{Spot, Branches, spot_inside}
use Rattle.convert_walks.specs.Tree.{Node, cut, too_many_steps, converted, if_merged, entry_at, instead, standing_tree, tree_at, below, merge_of, deep_branches, parts_trees}
use Rattle.document_merges.specs.Merges.{MergeD, merge_of_row, state_merges, merges_in, merges_below}

pub merges_of_both : (xs ys : List Node) → merges_in (xs ++ ys) ≡ merges_in xs ++ merges_in ys
merges_of_both [] ys = refl
merges_of_both (a ∷ xs) ys =
    ap (λ ms. state_merges a.spot a.schema a.state ++ ms) (merges_of_both xs ys)
    ∙ sym (append_assoc (state_merges a.spot a.schema a.state) (merges_in xs) (merges_in ys))

-- ---- one schema, by its levels

one_more : (n : ℕ) → (n ≡ 0 → ⊥) → suc (n - 1) ≡ n
one_more zero h = absurd (h refl)
one_more (suc n) h = let k : suc n - 1 ≡ n = omega arith in ap suc k

module _ (r : Relations) (d : Document) (most : ℕ) (n : ℕ) (o : Spot) (s : Schema) where
  abbrev tree_by : Bool → List Node
  tree_by b = elim b [
    | true ↦ cut too_many_steps o s ∷ []
    | false ↦ record { spot = o; schema = s; entry = entry_at r d most (suc n) o s; state = converted (merge_of r d most n o s (if_merged (row_of r d s))) }
        ∷ below r d most n (λ o s. tree_at r d most n o s) o s (finding_of r d s).branches (row_of r d s) (if_merged (row_of r d s))
  ]

  deep_merges : has_more_steps most o.walk ≡ true → merges_in (tree_at r d most (suc n) o s) ≡ []
  deep_merges e = ap (λ b. merges_in (tree_by b)) e

  found_merges : (f : Finding) → f ≡ finding_of r d s → has_more_steps most o.walk ≡ false → merges_in (tree_at r d most (suc n) o s) ≡ merges_below r d most n o s f.branches f.row
  found_merges f e h = ap (λ b. merges_in (tree_by b)) h ∙ ap (λ (f : Finding). merges_below r d most n o s f.branches f.row) (sym e)

-- without a level nothing is merged
pub spent_adds : (r : Relations) (d : Document) (most n : ℕ) → n ≡ 0 → (o : Spot) (s : Schema) (ms : List MergeD) → ms ≡ ms ++ merges_in (tree_at r d most n o s)
spent_adds r d most zero e o s ms = sym (append-nil ms)
spent_adds r d most (suc n) e o s ms = absurd (omega (arith, e))

module _ (r : Relations) (d : Document) (most : ℕ) (n : ℕ) (some : n ≡ 0 → ⊥) (o : Spot) (s : Schema) where
  pub deep_adds : (ms : List MergeD) → has_more_steps most o.walk ≡ true → ms ≡ ms ++ merges_in (tree_at r d most n o s)
  deep_adds ms e = sym (append-nil ms) ∙ ap (λ xs. ms ++ xs) (sym (deep_merges r d most (n - 1) o s e)) ∙ ap (λ n. ms ++ merges_in (tree_at r d most n o s)) (one_more n some)

  pub found_adds : (old new : List MergeD) (f : Finding) → f ≡ finding_of r d s → has_more_steps most o.walk ≡ false
      → new ≡ old ++ merges_below r d most (n - 1) o s f.branches f.row → new ≡ old ++ merges_in (tree_at r d most n o s)
  found_adds old new f e h g =
      g ∙ ap (λ ms. old ++ ms) (sym (found_merges r d most (n - 1) o s f e h)) ∙ ap (λ n. old ++ merges_in (tree_at r d most n o s)) (one_more n some)

-- ---- a row that doesn't merge

module _ (r : Relations) (d : Document) (most n : ℕ) (o : Spot) (s : Schema) (ms : Branches) (w : Row) where
  one_branch : (b : Bool) (x : Node) (ts : List Node) → merges_in ts ≡ [] → state_merges x.spot x.schema x.state ≡ [] → merges_in (elim b [ true ↦ x ∷ ts | false ↦ ts ]) ≡ []
  one_branch true x ts e h = ap (λ xs. xs ++ merges_in ts) h ∙ e
  one_branch false x ts e h = e

  none_of_branches : (ms : Branches) → merges_in (deep_branches r d most o ms) ≡ []
  none_of_branches [] = refl
  none_of_branches (m ∷ ms) =
      one_branch (has_more_steps most (spot_inside o None m.0 m.1).walk) (cut too_many_steps (spot_inside o None m.0 m.1) m.1) (deep_branches r d most o ms) (none_of_branches ms) refl

  abbrev below_by : Option (List Part) → List MergeD
  below_by m = state_merges o s (converted (merge_of r d most n o s m)) ++ merges_in (below r d most n (λ o s. tree_at r d most n o s) o s ms w m)

  abbrev parts_nodes : List Node
  parts_nodes = parts_trees r d most (λ o s. tree_at r d most n o s) o ms (row_parts w)

  pub parts_add : (old new : List MergeD) → None ≡ if_merged w → new ≡ old ++ merges_in parts_nodes → new ≡ old ++ merges_below r d most n o s ms w
  parts_add old new e g =
      g ∙ ap (λ xs. old ++ (xs ++ merges_in parts_nodes)) (sym (none_of_branches ms))
      ∙ ap (λ xs. old ++ xs) (sym (merges_of_both (deep_branches r d most o ms) parts_nodes))
      ∙ ap (λ m. old ++ below_by m) e

  -- ---- a row that merges

  pub merged_adds : (old new : List MergeD) (ps : List Part) → Some ps ≡ if_merged w
      → new ≡ old ++ (merge_of_row o s (merged_at d most n o s ps) ∷ merges_in (standing_tree r d most (λ o s. tree_at r d most n o s) (instead o s (merged_at d most n o s ps))))
      → new ≡ old ++ merges_below r d most n o s ms w
  merged_adds old new ps e g = g ∙ ap (λ m. old ++ below_by m) e
