-- Trees without faults and without notes of the way are clean, and each node has the entry that its schema is converted to.
use Rattle.std.proofs.Common.{◌≡◌, ℕ, zero, suc, List, [], ◌∷◌, ◌++◌, map, Bool, true, false, Option, Some, None, refl}
use Rattle.json_value.specs.Value.{null}
use Rattle.schema_defs.specs.Texts.{Relations, IsLawful}
use Rattle.schema_defs.specs.Schema.{Schema, Document}
use Rattle.schema_defs.specs.Walks.{IsGuarded}
use Rattle.convert_defs.specs.Row.{Way, Part, child, of_branch, lone, made, row_parts}
use Rattle.convert_defs.specs.Proper.{IsProper, IsProperDocument}
use Rattle.each_schema.specs.Each.{of_any_size}
use Rattle.convert_defs.specs.Table.{finding_of, row_of, notes_at}
use Rattle.convert_defs.proofs.Bare.{none_in, no_left, no_right}
use Rattle.convert_defs.proofs.ProperParts.{parts-proper}
use Rattle.convert_defs.proofs.Views.{schema_of, AllParts}
use Rattle.merge_laws.specs.Laws as fit
use Rattle.merge_laws.specs.Laws.{ProperDocument}
use Rattle.merge_walks.specs.Carried.{has_more_steps}
use Rattle.convert_walks.specs.Spot.{Spot, Branches, spot_inside, part_spot, part_schema}
use Rattle.convert_walks.specs.Merging.{merged_at}
use Rattle.convert_walks.specs.Tree.{Standing, instead, Node, too_many_steps, converted, cut, if_merged, entry_at, parts_trees, deep_branches, standing_tree, below, merge_of, tree_at}
use Rattle.convert_walks.specs.Told.{placed_note, outcome_notes, state_notes, notes_in, state_faults, faults_in}
use Rattle.merging_laws.specs.Conversion.{Free, AllNodes}
use Rattle.conversion_laws.proofs.Clean.{IsGood, CleanStanding, CleanRow, Clean, R}
use Rattle.conversion_laws.proofs.Merging.{standing-in_order, row-agrees}
use Rattle.conversion_laws.proofs.Notes.{free-left, free-right, free-row, free-outcome, no-map, made-finding, something-stands}
use Rattle.conversion_laws.proofs.FitParts.{parts-fit}

module _ (P : Node → Type 0) where
  pub nodes-left : (xs ys : List Node) → AllNodes P (xs ++ ys) → AllNodes P xs
  nodes-left [] ys h = tt
  nodes-left (x ∷ xs) ys h = (h.0, nodes-left xs ys h.1)

  pub nodes-right : (xs ys : List Node) → AllNodes P (xs ++ ys) → AllNodes P ys
  nodes-right [] ys h = h
  nodes-right (x ∷ xs) ys h = nodes-right xs ys h.1

  pub nodes-both : (xs ys : List Node) → AllNodes P xs → AllNodes P ys → AllNodes P (xs ++ ys)
  nodes-both [] ys h g = g
  nodes-both (x ∷ xs) ys h g = (h.0, nodes-both xs ys h.1 g)

module _ (way : Way) (r : Relations) (lawful : IsLawful r) (d : Document) (guarded : IsGuarded d) (fits : ProperDocument d) (in_order : IsProperDocument d) (most : ℕ) where
  -- no fault, and no note of the way; the levels are named by what is told alone
  module _ (n : ℕ) where
    abbrev pub IsFine : Node → Type 0
    IsFine t = (state_faults r d most n t.spot t.schema t.state ≡ []) × Free way (state_notes r d most n t.spot t.schema t.state)

    pub fine-nodes : (ts : List Node) → faults_in r d most n ts ≡ [] → Free way (notes_in r d most n ts) → AllNodes IsFine ts
    fine-nodes [] f g = tt
    fine-nodes (t ∷ ts) f g = (
      (no_left _ _ f, free-left way _ (notes_in r d most n ts) g),
      fine-nodes ts (no_right (state_faults r d most n t.spot t.schema t.state) _ f) (free-right way (state_notes r d most n t.spot t.schema t.state) _ g),
    )

    -- ---- the entry of each node

    abbrev pub HasEntry : Node → Type 0
    HasEntry t = R way r d most t.schema t.entry

    abbrev IsClean : ℕ → Spot → Schema → Type 0
    IsClean m o s = Clean way r d most m o s

    -- branches that are met have no more steps than are allowed
    past-branches : (o : Spot) (ms : Branches) (ts : List Node) → AllNodes IsFine (deep_branches r d most o ms ++ ts) → AllNodes IsFine ts
    past-branches o [] ts h = h
    past-branches o (m ∷ ms) ts h = by (has_more_steps most (spot_inside o None m.0 m.1).walk) h (past-branches o ms ts)
      where
        by : (b : Bool) → AllNodes IsFine (elim b [ true ↦ cut too_many_steps (spot_inside o None m.0 m.1) m.1 ∷ deep_branches r d most o ms | false ↦ deep_branches r d most o ms ] ++ ts) → (AllNodes IsFine (deep_branches r d most o ms ++ ts) → AllNodes IsFine ts) → AllNodes IsFine ts
        by true h f = none_in _ _ h.0.0
        by false h f = f h

    no-branches : (o : Spot) (ms : Branches) (ts : List Node) → AllNodes IsFine (deep_branches r d most o ms ++ ts) → AllNodes HasEntry ts → AllNodes HasEntry (deep_branches r d most o ms ++ ts)
    no-branches o [] ts h g = g
    no-branches o (m ∷ ms) ts h g = by (has_more_steps most (spot_inside o None m.0 m.1).walk) h (λ k. no-branches o ms ts k g)
      where
        by : (b : Bool) → AllNodes IsFine (elim b [ true ↦ cut too_many_steps (spot_inside o None m.0 m.1) m.1 ∷ deep_branches r d most o ms | false ↦ deep_branches r d most o ms ] ++ ts)
            → (AllNodes IsFine (deep_branches r d most o ms ++ ts) → AllNodes HasEntry (deep_branches r d most o ms ++ ts))
            → AllNodes HasEntry (elim b [ true ↦ cut too_many_steps (spot_inside o None m.0 m.1) m.1 ∷ deep_branches r d most o ms | false ↦ deep_branches r d most o ms ] ++ ts)
        by true h f = none_in _ _ h.0.0
        by false h f = f h

    -- a clean schema, each node of whose tree has its entry
    abbrev Stands : ℕ → Type 0
    Stands m = (o : Spot) (s : Schema) → IsProper of_any_size d s → fit.IsProper s → AllNodes IsFine (tree_at r d most m o s) → IsClean m o s × AllNodes HasEntry (tree_at r d most m o s)

    module _ (m : ℕ) (rec : Stands m) (o : Spot) where
      part-stands : (ms : Branches) (p : Part) → IsProper of_any_size d (schema_of p) → fit.IsProper (schema_of p) → AllNodes IsFine (tree_at r d most m (part_spot o ms p) (part_schema p))
          → IsClean m (part_spot o ms p) (part_schema p) × AllNodes HasEntry (tree_at r d most m (part_spot o ms p) (part_schema p))
      part-stands ms (child k s) x y h = rec (part_spot o ms (child k s)) s x y h
      part-stands ms (of_branch k s) x y h = rec (part_spot o ms (of_branch k s)) s x y h
      part-stands ms (lone k s) x y h = rec (part_spot o ms (lone k s)) s x y h
      part-stands ms (made s) x y h = rec o s x y h

      parts-stand : (ms : Branches) (ps : List Part) → AllParts (λ p. IsProper of_any_size d (schema_of p)) ps → AllParts (λ p. fit.IsProper (schema_of p)) ps → AllNodes IsFine (parts_trees r d most (λ o s. tree_at r d most m o s) o ms ps)
          → AllParts (λ p. IsClean m (part_spot o ms p) (part_schema p)) ps × AllNodes HasEntry (parts_trees r d most (λ o s. tree_at r d most m o s) o ms ps)
      parts-stand ms [] x y h = (tt, tt)
      parts-stand ms (p ∷ ps) x y h =
          let here : List Node = tree_at r d most m (part_spot o ms p) (part_schema p) in
          let rest : List Node = parts_trees r d most (λ o s. tree_at r d most m o s) o ms ps in
          let a = part-stands ms p x.0 y.0 (nodes-left IsFine here rest h) in
          let b = parts-stand ms ps x.1 y.1 (nodes-right IsFine here rest h) in
          ((a.0, b.0), nodes-both HasEntry here rest a.1 b.1)

      module _ (s : Schema) (x : IsProper of_any_size d s) (y : fit.IsProper s) where
        abbrev Below : Option (List Part) → Type 0
        Below ps = CleanRow way r d most m (λ o s. IsClean m o s) o s ps × AllNodes HasEntry (below r d most m (λ o s. tree_at r d most m o s) o s (finding_of r d s).branches (row_of r d s) ps)

        merged-stands : (ps : List Part) → if_merged (row_of r d s) ≡ Some ps → IsFine (record { spot = o; schema = s; entry = entry_at r d most (suc m) o s; state = converted (Some (merged_at d most m o s ps)) })
            → (t : Option Standing) → instead o s (merged_at d most m o s ps) ≡ t → AllNodes IsFine (standing_tree r d most (λ o s. tree_at r d most m o s) t)
            → CleanStanding way r d most (λ o s. IsClean m o s) t × AllNodes HasEntry (standing_tree r d most (λ o s. tree_at r d most m o s) t)
        merged-stands ps e f None i h = absurd (something-stands r d most n o s (merged_at d most m o s ps) f.0 i)
        merged-stands ps e f (Some t) i h =
            rec t.spot t.schema (standing-in_order d r most m o s ps e t i in_order x) (row-agrees r lawful d guarded fits most m o null refl s y ps e t i).proper h

        row-stands : (ps : Option (List Part)) → if_merged (row_of r d s) ≡ ps → IsFine (record { spot = o; schema = s; entry = entry_at r d most (suc m) o s; state = converted (merge_of r d most m o s ps) })
            → AllNodes IsFine (below r d most m (λ o s. tree_at r d most m o s) o s (finding_of r d s).branches (row_of r d s) ps) → Below ps
        row-stands (Some ps) e f h =
            let a = merged-stands ps e f (instead o s (merged_at d most m o s ps)) refl h in
            ((free-outcome way r d most n o (merged_at d most m o s ps) (free-right way (map (placed_note o (finding_of r d s).branches) (notes_at r d s)) _ f.1), a.0), a.1)
        row-stands None e f h =
            let ms : Branches = (finding_of r d s).branches in
            let rest : List Node = parts_trees r d most (λ o s. tree_at r d most m o s) o ms (row_parts (row_of r d s)) in
            let a = parts-stand ms (row_parts (row_of r d s)) (parts-proper of_any_size d r s x) (parts-fit r d s y) (past-branches o ms rest h) in
            ((made-finding r d most (finding_of r d s) (no-map r d most _ _ f.0), a.0), no-branches o ms rest h a.1)

        good-here : (ps : Option (List Part)) → IsFine (record { spot = o; schema = s; entry = entry_at r d most (suc m) o s; state = converted (merge_of r d most m o s ps) }) → IsGood way r d most s
        good-here ps f = record { in_order = x; mergeable = y; free = free-row way o (finding_of r d s).branches (notes_at r d s) (free-left way _ (outcome_notes r d most n o (merge_of r d most m o s ps)) f.1) }

        abbrev node : Node
        node = record { spot = o; schema = s; entry = entry_at r d most (suc m) o s; state = converted (merge_of r d most m o s (if_merged (row_of r d s))) }

        abbrev under : List Node
        under = below r d most m (λ o s. tree_at r d most m o s) o s (finding_of r d s).branches (row_of r d s) (if_merged (row_of r d s))

        stands-here : (b : Bool) → AllNodes IsFine (elim b [ true ↦ cut too_many_steps o s ∷ [] | false ↦ node ∷ under ]) → IsClean (suc m) o s × AllNodes HasEntry (elim b [ true ↦ cut too_many_steps o s ∷ [] | false ↦ node ∷ under ])
        stands-here true h = none_in _ _ h.0.0
        stands-here false h =
            let a = row-stands (if_merged (row_of r d s)) refl h.0 h.1 in
            let c : IsClean (suc m) o s = (good-here (if_merged (row_of r d s)) h.0, a.0) in
            (c, ((suc m, o, c, refl), a.1))

    pub stands : (m : ℕ) → Stands m
    stands zero o s x y h = none_in _ _ h.0.0
    stands (suc m) o s x y h = stands-here m (stands m) o s x y (has_more_steps most o.walk) h
