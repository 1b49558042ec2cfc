-- Two levels for each schema in another are enough: a row that null may stand beside is one more in its place, and what other rows make has no parts.
use Rattle.std.proofs.Common.{◌≡◌, ℕ, zero, suc, ◌+◌, ◌*◌, ◌≤◌, List, [], ◌∷◌, ◌++◌, map, take, drop, Bool, true, false, Option, Some, None, refl, sym, ap, subst, arith}
use Rattle.std.specs.List.{list_all}
use Rattle.schema_defs.specs.Texts.{Relations}
use Rattle.schema_defs.specs.Schema.{Schema, Definition, Document}
use Rattle.entry_defs.specs.Entry.{any_entry}
use Rattle.convert_defs.specs.Row.{Part, child, of_branch, lone, made, row_parts}
use Rattle.convert_defs.specs.Table.{finding_of, row_of}
use Rattle.convert_defs.proofs.Bare.{and_left, and_right}
use Rattle.convert_walks.specs.Spot.{Spot, Branches, branch_at, spot_inside, spot_of_branch, part_spot, part_schema}
use Rattle.convert_walks.specs.Tree.{State, too_few_levels, too_many_steps, converted, Node, cut, if_merged, entry_at, parts_trees, below, merge_of, tree_at, definition_spot, root_spot, definition_trees, document_tree}
use Rattle.convert_walks.specs.Told.{by_row, state_faults, faults_in, faults_of}
use Rattle.plain_defs.specs.Rows.{rows_within, definition_row}
use Rattle.plain_defs.specs.Plain.{has_rows}
use Rattle.plain_laws.specs.Laws.{PlainIsConverted}
use Rattle.plain_laws.proofs.Tree.{Each, each-both, IsForm, a_row, a_definition, makes, IsMade, PartFits, PartsFit, Fits, HasSteps, Quiet, no-more, child-steps, no-form, unwalked-form, no-branches}
use Rattle.plain_laws.proofs.Levels.{level}
use Rattle.plain_laws.proofs.Documents.{document-quiet, rows-of}
use Rattle.plain_laws.proofs.Kept.{rows_by_height}

abbrev IsFull : State → Type 0
IsFull too_few_levels = ⊥
IsFull too_many_steps = ⊥
IsFull (converted None) = Unit {0}
IsFull (converted (Some m)) = ⊥

abbrev Full : Node → Type 0
Full t = IsFull t.state

-- a row that makes another needs one level more
abbrev extra : Bool → ℕ
extra true = 1
extra false = 0

extra-low : (b : Bool) → extra b ≤ 1
extra-low true = omega (arith)
extra-low false = omega (arith)

module _ (r : Relations) (d : Document) (most : ℕ) where
  abbrev trees : ℕ → Spot → Schema → List Node
  trees n o s = tree_at r d most n o s

  abbrev lv : (j : ℕ) (s : Schema) (f : IsForm d (suc j) s) → Fits r d most (makes d (suc j) s f) j s
  lv = level r d most

  -- how many levels a schema needs
  abbrev weight : (k : ℕ) (s : Schema) → IsForm d k s → ℕ
  weight k s f = extra (makes d k s f) + 2 * k

  abbrev Stands : ℕ → Type 0
  Stands n = (j : ℕ) (o : Spot) (s : Schema) (f : IsForm d (suc j) s) → HasSteps r d most (suc j) o → weight (suc j) s f ≤ n → Each Full (trees n o s)

  -- a schema all of whose parts have their levels
  module _ (n j : ℕ) (o : Spot) (st : HasSteps r d most (suc j) o) (b : Bool) (s : Schema) (f : Fits r d most b j s)
      (full : Each Full (parts_trees r d most (λ o s. trees n o s) o (finding_of r d s).branches (row_parts (row_of r d s)))) where
    abbrev node_by : Option (List Part) → Node
    node_by ps = record { spot = o; schema = s; entry = entry_at r d most (suc n) o s; state = converted (merge_of r d most n o s ps) }

    abbrev under_by : Option (List Part) → List Node
    under_by ps = below r d most n (λ o s. trees n o s) o s (finding_of r d s).branches (row_of r d s) ps

    abbrev tree_by : Bool → List Node
    tree_by b = elim b [ true ↦ cut too_many_steps o s ∷ [] | false ↦ node_by (if_merged (row_of r d s)) ∷ under_by (if_merged (row_of r d s)) ]

    under-full : Each Full (under_by None)
    under-full =
        subst (λ ts. Each Full (ts ++ parts_trees r d most (λ o s. trees n o s) o (finding_of r d s).branches (row_parts (row_of r d s)))) (sym (no-branches r d most lv j o (finding_of r d s).branches f.finding.branches st)) full

    tree-full : Each Full (trees (suc n) o s)
    tree-full =
        subst (λ b. Each Full (tree_by b)) (sym (no-more r d most o.walk (omega (arith, st.few))))
        (subst (λ ps. Each Full (node_by ps ∷ under_by ps)) (sym f.finding.unmerged) (tt, under-full))

  -- one without parts
  leaf-full : (n : ℕ) (o : Spot) (s : Schema) → IsForm d 1 s → row_parts (row_of r d s) ≡ [] → HasSteps r d most 1 o → 1 ≤ n → Each Full (trees n o s)
  leaf-full zero o s f e st le = absurd (omega (arith, le))
  leaf-full (suc n) o s f e st le =
      tree-full n 0 o st (makes d 1 s f) s (lv 0 s f) (subst (λ ps. Each Full (parts_trees r d most (λ o s. trees n o s) o (finding_of r d s).branches ps)) (sym e) tt)

  module _ (n : ℕ) (rec : Stands n) (j : ℕ) (o : Spot) (st : HasSteps r d most (suc j) o) where
    inside : (k : ℕ) → k ≤ j → 2 * suc j ≤ suc n → (o : Spot) (s : Schema) → IsForm d k s → HasSteps r d most k o → Each Full (trees n o s)
    inside zero h le o s f g = no-form r d most s f
    inside (suc i) h le o s f g = rec i o s f g (omega (arith, le, h, extra-low (makes d (suc i) s f)))

    made-full : (b : Bool) (s : Schema) → IsMade r d most b j s → extra b + 2 * suc j ≤ suc n → Each Full (trees n o s)
    made-full false s f le = leaf-full n o s f.0 f.1 (record { few = omega (arith, st.few); unmade = st.unmade }) (omega (arith, le))
    made-full true s f le = rec j o s (a_row f) st (omega (arith, le))

    part-full : (b : Bool) (ms : Branches) (p : Part) → PartFits r d most b j ms p → extra b + 2 * suc j ≤ suc n → Each Full (trees n (part_spot o ms p) (part_schema p))
    part-full b ms (child k s) f le = inside j (omega (arith)) (omega (arith, le)) (spot_inside o None k s) s f (child-steps r d most j o None k s (unwalked-form r d most lv j s f) st)
    part-full b ms (of_branch k s) f le =
        let i = f.0 in
        let at : HasSteps r d most j (spot_of_branch o ms k) = child-steps r d most j o None (take 2 k) (branch_at (take 2 k) ms) f.2 st in
        inside i (omega (arith, f.1)) (omega (arith, le)) (spot_inside (spot_of_branch o ms k) None (drop 2 k) s) s f.3
        (child-steps r d most i (spot_of_branch o ms k) None (drop 2 k) s (unwalked-form r d most lv i s f.3) (subst (λ m. HasSteps r d most m (spot_of_branch o ms k)) f.1 at))
    part-full b ms (lone k s) f le = absurd f
    part-full b ms (made s) f le = made-full b s f le

    parts-full : (b : Bool) (ms : Branches) (ps : List Part) → PartsFit r d most b j ms ps → extra b + 2 * suc j ≤ suc n → Each Full (parts_trees r d most (λ o s. trees n o s) o ms ps)
    parts-full b ms [] f le = tt
    parts-full b ms (p ∷ ps) f le = each-both Full (trees n (part_spot o ms p) (part_schema p)) (parts_trees r d most (λ o s. trees n o s) o ms ps) (part-full b ms p f.0 le) (parts-full b ms ps f.1 le)

  pub all-stand : (n : ℕ) → Stands n
  all-stand zero j o s f st le = absurd (omega (arith, le))
  all-stand (suc n) j o s f st le =
      let b = makes d (suc j) s f in
      let l = lv j s f in
      tree-full n j o st b s l (parts-full n (all-stand n) j o st b (finding_of r d s).branches (row_parts (row_of r d s)) l.finding.parts le)

  -- ---- the document

  module _ (n tall : ℕ) (le : tall ≤ most) (levels : 2 * tall ≤ n) (h : has_rows d tall ≡ true) where
    form-full : (k : ℕ) → k ≡ tall → (o : Spot) (s : Schema) (f : IsForm d k s) → makes d k s f ≡ false → HasSteps r d most k o → Each Full (trees n o s)
    form-full zero e o s f g st = no-form r d most s f
    form-full (suc j) e o s f g st = all-stand n j o s f st (omega (arith, levels, e, ap extra g))

    definitions-full : (es : List Definition) → list_all (λ e. definition_row d tall e.body) es ≡ true → Each Full (definition_trees r d most n es)
    definitions-full [] g = tt
    definitions-full (e ∷ es) g =
        each-both Full (trees n (definition_spot r d most n e) e.body) (definition_trees r d most n es)
        (form-full tall refl (definition_spot r d most n e) e.body (a_definition (and_left (definition_row d tall e.body) (list_all (λ e. definition_row d tall e.body) es) g)) refl (record { few = omega (arith, le); unmade = refl }))
        (definitions-full es (and_right (definition_row d tall e.body) (list_all (λ e. definition_row d tall e.body) es) g))

    document-full : Each Full (document_tree r d most n)
    document-full =
        each-both Full (definition_trees r d most n d.definitions) (trees n (root_spot r d most n) d.root)
        (definitions-full d.definitions (and_right ((rows_within d tall).row d.root) (list_all (λ e. definition_row d tall e.body) d.definitions) h))
        (form-full tall refl (root_spot r d most n) d.root (a_row (and_left ((rows_within d tall).row d.root) (list_all (λ e. definition_row d tall e.body) d.definitions) h)) refl (record { few = omega (arith, le); unmade = refl }))

    no-fault : (o : Spot) (s : Schema) (t : State) → Quiet r d most (record { spot = o; schema = s; entry = any_entry; state = t }) → IsFull t → state_faults r d most n o s t ≡ []
    no-fault o s too_few_levels q f = absurd f
    no-fault o s too_many_steps q f = absurd f
    no-fault o s (converted None) q f = ap (map (λ c. (o.path, by_row c))) q.1.finding.faults
    no-fault o s (converted (Some m)) q f = absurd f

    no-faults : (ts : List Node) → Each (Quiet r d most) ts → Each Full ts → faults_in r d most n ts ≡ []
    no-faults [] q f = refl
    no-faults (t ∷ ts) q f = λ i. no-fault t.spot t.schema t.state q.0 f.0 i ++ no-faults ts q.1 f.1 i

    pub unfaulted : faults_of r d most n ≡ []
    unfaulted = no-faults (document_tree r d most n) (document-quiet r d most n tall le h) document-full

pub plain_is_converted : PlainIsConverted
plain_is_converted r d depth tall most n h low le levels = unfaulted r d most n tall le levels (rows_by_height d depth tall low (rows-of d depth h))
