-- Branches to which no step is left.
use Rattle.std.proofs.Common.{◌≡◌, ℕ, ◌+◌, ◌<◌, ◌≤◌, List, [], ◌∷◌, ◌++◌, Bool, true, false, None, ◌⊎◌, length, map, drop, get_or, refl, sym, ap, subst, ◌∙◌}
use Rattle.schema_defs.specs.Location.{Location}
use Rattle.schema_defs.specs.Texts.{Relations}
use Rattle.schema_defs.specs.Schema.{Schema, Document}
use Rattle.merge_walks.specs.Carried.{has_more_steps}
use Rattle.convert_walks.specs.Spot.{Spot, spot_inside}
use Rattle.convert_walks.specs.Tree.{Node, cut, too_many_steps, deep_branches}
use Rattle.row_findings.specs.declared.finding.Branch.{Branch}
use Rattle.row_findings.specs.View.{branch_view}
use Rattle.schema_tree.specs.Fault.{FaultD, memory, depth}
use Rattle.convert_trees.specs.Told.{Refuses}
use Rattle.merged_rows.proofs.Trails.{drop_past}
use Rattle.convert_trees.proofs.Telling.{cut_refuses, refuses_first}
use Rattle.schema_defs.proofs.Turns.{mapped_drop}

module _ (r : Relations) (d : Document) (most : ℕ) (o : Spot) where
  abbrev there : Location × Schema → Spot
  there m = spot_inside o None m.0 m.1

  abbrev cut_if : Bool → Location × Schema → List Node → List Node
  cut_if b m ts = elim b [ true ↦ cut too_many_steps (there m) m.1 ∷ ts | false ↦ ts ]

  pub one_left : (m : Location × Schema) → has_more_steps most (there m).walk ≡ false → deep_branches r d most o (m ∷ []) ≡ []
  one_left m e = ap (λ b. cut_if b m []) e

  pub one_cut : (n : ℕ) (m : Location × Schema) (f : FaultD) (a b : ℕ) → has_more_steps most (there m).walk ≡ true → (f ≡ memory) ⊎ (f ≡ depth (there m).walk) → Refuses r d most n a b (deep_branches r d most o (m ∷ [])) f
  one_cut n m f a b e h = subst (λ (ts : List Node). Refuses r d most n a b ts f) (sym (ap (λ b. cut_if b m []) e)) (cut_refuses r d most n f a b (there m) m.1 h)

  with_more : (b : Bool) (m : Location × Schema) (ts : List Node) → cut_if b m ts ≡ cut_if b m [] ++ ts
  with_more true m ts = refl
  with_more false m ts = refl

  both : (m : Location × Schema) (ms : List (Location × Schema)) → deep_branches r d most o (m ∷ ms) ≡ deep_branches r d most o (m ∷ []) ++ deep_branches r d most o ms
  both m ms = with_more (has_more_steps most (there m).walk) m (deep_branches r d most o ms)

  -- ---- one branch after another

  abbrev left : List Branch → ℕ → List Node
  left bs i = deep_branches r d most o (map branch_view (drop i bs))

  next : (bs : List Branch) (i : ℕ) (q : Branch) → i < length bs → q ≡ get_or bs i q → left bs i ≡ deep_branches r d most o (branch_view q ∷ []) ++ left bs (i + 1)
  next bs i q h e = ap (deep_branches r d most o) (mapped_drop branch_view bs i q h e) ∙ both (branch_view q) (map branch_view (drop (i + 1) bs))

  pub branch_next : (bs : List Branch) (i : ℕ) (q : Branch) → i < length bs → q ≡ get_or bs i q → deep_branches r d most o (branch_view q ∷ []) ≡ []
      → left bs i ≡ deep_branches r d most o (map branch_view bs) → left bs (i + 1) ≡ deep_branches r d most o (map branch_view bs)
  branch_next bs i q h e k w = sym (next bs i q h e ∙ ap (λ ts. ts ++ left bs (i + 1)) k) ∙ w

  pub no_branch : (bs all : List Branch) (i : ℕ) → length bs ≤ i → bs ≡ all → left bs i ≡ deep_branches r d most o (map branch_view bs) → deep_branches r d most o (map branch_view all) ≡ []
  no_branch bs all i h e w = ap (λ bs. deep_branches r d most o (map branch_view bs)) (sym e) ∙ sym w ∙ ap (λ bs. deep_branches r d most o (map branch_view bs)) (drop_past bs i h)

  pub branch_refuses : (n : ℕ) (f : FaultD) (a b : ℕ) (bs all : List Branch) (i : ℕ) (q : Branch) → i < length bs → q ≡ get_or bs i q → bs ≡ all → left bs i ≡ deep_branches r d most o (map branch_view bs)
      → Refuses r d most n a b (deep_branches r d most o (branch_view q ∷ [])) f → Refuses r d most n a b (deep_branches r d most o (map branch_view all)) f
  branch_refuses n f a b bs all i q h e g w k =
      subst (λ (ts : List Node). Refuses r d most n a b ts f) (sym (next bs i q h e) ∙ w ∙ ap (λ bs. deep_branches r d most o (map branch_view bs)) g)
      (refuses_first r d most n f a b (deep_branches r d most o (branch_view q ∷ [])) (left bs (i + 1)) k)
