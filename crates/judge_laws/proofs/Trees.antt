-- A conversion tree without faults, and its entry, by another judge that answers alike what was asked: schema by schema they stay.
use Rattle.std.proofs.Common.{◌≡◌, ℕ, zero, suc, List, [], ◌∷◌, ◌++◌, map, Bool, true, false, not, Option, Some, None, refl, ap, ◌∙◌}
use Rattle.std.specs.Prelude.{nat_le}
use Rattle.schema_defs.specs.Schema.{Schema, Document}
use Rattle.schema_defs.specs.Texts.{Relations}
use Rattle.entry_defs.specs.Entry.{Entry}
use Rattle.convert_defs.specs.Convert.{named_by}
use Rattle.convert_defs.specs.Faults.{fault_if, row_faults, finding_faults}
use Rattle.convert_defs.specs.Row.{Part, Finding, row_parts, bad_pattern, places}
use Rattle.convert_defs.specs.Table.{finding_of}
use Rattle.convert_defs.proofs.Bare.{none_in, no_left, no_right}
use Rattle.convert_defs.proofs.Views.{AllParts}
use Rattle.convert_walks.specs.Spot.{Spot, Branches, part_spot, part_schema}
use Rattle.convert_walks.specs.Merging.{merged_at}
use Rattle.merge_walks.specs.Carried.{has_more_steps}
use Rattle.convert_walks.specs.Tree.{State, too_few_levels, too_many_steps, converted, Standing, instead, Node, cut, if_merged, standing_entry, row_entry, entry_at, parts_trees, deep_branches, standing_tree, below, merge_of, tree_at}
use Rattle.convert_walks.specs.Told.{by_row, placed_note, outcome_notes, state_notes, notes_in, state_faults, faults_in}
use Rattle.merging_laws.specs.Conversion.{AllNodes}
use Rattle.conversion_laws.proofs.FineTrees.{nodes-left, nodes-right}
use Rattle.judge_laws.specs.Asked.{AnswersAlike, Answered}
use Rattle.judge_laws.specs.Laws.{SameTree, TreesStay}
use Rattle.judge_laws.proofs.Findings.{finding-same, are-patterns}
use Rattle.judge_laws.proofs.SameEntries.{same-entry}

-- no walk was cut
abbrev pub WasWhole : State → Type 0
WasWhole too_few_levels = ⊥
WasWhole too_many_steps = ⊥
WasWhole (converted m) = Unit {0}

module _ (r q : Relations) (d : Document) (most : ℕ) where
  -- what is told of a node by both is the same
  abbrev pub IsFine : Node → Type 0
  IsFine t = WasWhole t.state × AnswersAlike r q d t.schema

  abbrev trees : Relations → ℕ → Spot → Schema → List Node
  trees j n o s = tree_at j d most n o s

  abbrev entries : Relations → ℕ → Spot → Schema → Entry
  entries j n o s = entry_at j d most n o s

  abbrev Stays : ℕ → Type 0
  Stays n = (o : Spot) (s : Schema) → AllNodes IsFine (trees r n o s) → (entries q n o s ≡ entries r n o s) × (trees q n o s ≡ trees r n o s)

  module _ (n : ℕ) (rec : Stays n) (o : Spot) (s : Schema) where
    abbrev conv_by : Relations → Branches → Part → Entry
    conv_by j ms p = entries j n (part_spot o ms p) (part_schema p)

    parts-stay : (ms : Branches) (ps : List Part) → AllNodes IsFine (parts_trees r d most (λ o s. trees r n o s) o ms ps)
        → AllParts (λ p. conv_by q ms p ≡ conv_by r ms p) ps × (parts_trees q d most (λ o s. trees q n o s) o ms ps ≡ parts_trees r d most (λ o s. trees r n o s) o ms ps)
    parts-stay ms [] h = (tt, refl)
    parts-stay ms (p ∷ ps) h =
        let a = rec (part_spot o ms p) (part_schema p) (nodes-left IsFine (trees r n (part_spot o ms p) (part_schema p)) _ h) in
        let b = parts-stay ms ps (nodes-right IsFine (trees r n (part_spot o ms p) (part_schema p)) _ h) in
        ((a.0, b.0), λ i. a.1 i ++ b.1 i)

    standing-stays : (t : Option Standing) → AllNodes IsFine (standing_tree r d most (λ o s. trees r n o s) t)
        → (standing_entry q d most n (λ o s. entries q n o s) t ≡ standing_entry r d most n (λ o s. entries r n o s) t)
        × (standing_tree q d most (λ o s. trees q n o s) t ≡ standing_tree r d most (λ o s. trees r n o s) t)
    standing-stays None h = (refl, refl)
    standing-stays (Some t) h = rec t.spot t.schema h

    abbrev entry_by : Relations → Finding → Option (List Part) → Entry
    entry_by j f ps = row_entry j d most n (λ o s. entries j n o s) o s f.branches f.row ps

    abbrev whole_by : Relations → Finding → Option (List Part) → List Node
    whole_by j f ps = record { spot = o; schema = s; entry = entry_by j f ps; state = converted (merge_of j d most n o s ps) } ∷ below j d most n (λ o s. trees j n o s) o s f.branches f.row ps

    row-stays : (f : Finding) (ps : Option (List Part)) → AllNodes IsFine (whole_by r f ps) → (entry_by q f ps ≡ entry_by r f ps) × (whole_by q f ps ≡ whole_by r f ps)
    row-stays f None h =
        let ms : Branches = f.branches in
        let a = parts-stay ms (row_parts f.row) (nodes-right IsFine (deep_branches r d most o ms) _ h.1) in
        let e : entry_by q f None ≡ entry_by r f None = same-entry (conv_by q ms) (conv_by r ms) (named_by o.handed s) f.row a.0 in
        (e, λ i. record { spot = o; schema = s; entry = e i; state = converted None } ∷ (deep_branches r d most o ms ++ a.1 i))
    row-stays f (Some ps) h =
        let a = standing-stays (instead o s (merged_at d most n o s ps)) h.1 in
        (a.0, λ i. record { spot = o; schema = s; entry = a.0 i; state = converted (Some (merged_at d most n o s ps)) } ∷ a.1 i)

    abbrev tree_by : Relations → Finding → Bool → List Node
    tree_by j f b = elim b [ true ↦ cut too_many_steps o s ∷ [] | false ↦ whole_by j f (if_merged f.row) ]

    tree-stays : (b : Bool) → AllNodes IsFine (tree_by r (finding_of r d s) b)
        → (entry_by q (finding_of q d s) (if_merged (finding_of q d s).row) ≡ entry_by r (finding_of r d s) (if_merged (finding_of r d s).row)) × (tree_by q (finding_of q d s) b ≡ tree_by r (finding_of r d s) b)
    tree-stays true h = absurd h.0.0
    tree-stays false h =
        let e = finding-same r q d s h.0.1 in
        let f = finding_of r d s in
        let a = row-stays f (if_merged f.row) h in
        (ap (λ z. entry_by q z (if_merged z.row)) e ∙ a.0, ap (λ z. whole_by q z (if_merged z.row)) e ∙ a.1)

  stays : (n : ℕ) → Stays n
  stays zero o s h = absurd h.0.0
  stays (suc n) o s h = tree-stays n (stays n) o s (has_more_steps most o.walk) h

  -- ---- what is told

  module _ (n : ℕ) where
    state-notes : (o : Spot) (s : Schema) (t : State) → AnswersAlike r q d s → state_notes q d most n o s t ≡ state_notes r d most n o s t
    state-notes o s too_few_levels h = refl
    state-notes o s too_many_steps h = refl
    state-notes o s (converted m) h = ap (λ f. map (placed_note o f.branches) f.notes ++ outcome_notes r d most n o m) (finding-same r q d s h)

    pub notes-stay : (ts : List Node) → AllNodes IsFine ts → notes_in q d most n ts ≡ notes_in r d most n ts
    notes-stay [] h = refl
    notes-stay (t ∷ ts) h =
        let one = state-notes t.spot t.schema t.state h.0.1 in
        let rec = notes-stay ts h.1 in
        λ i. one i ++ rec i

    finding-faults : (s : Schema) → AnswersAlike r q d s → finding_faults q d most (finding_of q d s) ≡ finding_faults r d most (finding_of r d s)
    finding-faults s h =
        let f = finding_of r d s in
        ap (finding_faults q d most) (finding-same r q d s h)
        ∙ ap (λ b. fault_if (not b) bad_pattern ++ fault_if (not (nat_le f.places most)) places ++ row_faults r d most f.row) (are-patterns r q f.patterns h.patterns)

    state-faults : (o : Spot) (s : Schema) (t : State) → AnswersAlike r q d s → state_faults q d most n o s t ≡ state_faults r d most n o s t
    state-faults o s too_few_levels h = refl
    state-faults o s too_many_steps h = refl
    state-faults o s (converted None) h = ap (map (λ c. (o.path, by_row c))) (finding-faults s h)
    state-faults o s (converted (Some m)) h = refl

    pub faults-stay : (ts : List Node) → AllNodes IsFine ts → faults_in q d most n ts ≡ faults_in r d most n ts
    faults-stay [] h = refl
    faults-stay (t ∷ ts) h =
        let one = state-faults t.spot t.schema t.state h.0.1 in
        let rec = faults-stay ts h.1 in
        λ i. one i ++ rec i

    -- ---- without faults

    was-whole : (o : Spot) (s : Schema) (t : State) → state_faults r d most n o s t ≡ [] → WasWhole t
    was-whole o s too_few_levels h = none_in _ _ h
    was-whole o s too_many_steps h = none_in _ _ h
    was-whole o s (converted m) h = tt

    all-fine : (ts : List Node) → faults_in r d most n ts ≡ [] → AllNodes (λ t. AnswersAlike r q d t.schema) ts → AllNodes IsFine ts
    all-fine [] h a = tt
    all-fine (t ∷ ts) h a =
        let here = state_faults r d most n t.spot t.schema t.state in
        ((was-whole t.spot t.schema t.state (no_left here _ h), a.0), all-fine ts (no_right here _ h) a.1)

    pub fine : (ts : List Node) → Answered r q d most n ts → AllNodes IsFine ts
    fine ts a = all-fine ts a.faultless a.alike

    pub fine-tree : (o : Spot) (s : Schema) → AllNodes IsFine (trees r n o s) → SameTree r q d most n o s
    fine-tree o s h =
        let a = stays n o s h in
        record { entry = a.0; tree = a.1; notes = ap (notes_in q d most n) a.1 ∙ notes-stay (trees r n o s) h; faults = ap (faults_in q d most n) a.1 ∙ faults-stay (trees r n o s) h }

pub trees_stay : TreesStay
trees_stay r q d most n o s a = fine-tree r q d most n o s (fine r q d most n (tree_at r d most n o s) a)
