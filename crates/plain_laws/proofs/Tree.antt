-- Trees of plain schemas are quiet: where each row that a plain schema takes is quiet, is no merge, and converts parts that are plain again.
use Rattle.std.proofs.Common.{◌≡◌, ℕ, zero, suc, ◌+◌, ◌≤◌, List, [], ◌∷◌, ◌++◌, take, drop, Bool, true, false, Option, Some, None, length, unwrap_or, option_map, refl, sym, ap, ◌∙◌, subst, arith}
use Rattle.std.specs.Prelude.{if◌then◌else◌}
use Rattle.std.proofs.lemmas.List.{length-append}
use Rattle.std.proofs.lemmas.Bool.{le-ltb}
use Rattle.schema_defs.specs.Location.{Location}
use Rattle.schema_defs.specs.Texts.{Relations}
use Rattle.schema_defs.specs.Schema.{Schema, boolean, object, Document}
use Rattle.convert_defs.specs.Row.{Part, child, of_branch, lone, made, row_parts, Finding}
use Rattle.convert_defs.specs.Table.{finding_of, row_of}
use Rattle.convert_defs.specs.Owners.{default_of}
use Rattle.convert_defs.specs.Values.{listed_in}
use Rattle.convert_defs.specs.Faults.{finding_faults}
use Rattle.convert_defs.specs.Convert.{Handed}
use Rattle.convert_defs.proofs.Bare.{impossible}
use Rattle.merge_walks.specs.Carried.{Walk, last_of, to_child, has_more_steps, unmarked}
use Rattle.convert_walks.specs.Spot.{Spot, Branches, branch_at, spot_inside, spot_of_branch, part_spot, part_schema, walk_inside, made_by, is_made_schema}
use Rattle.convert_walks.specs.Tree.{State, too_few_levels, too_many_steps, converted, Node, cut, if_merged, entry_at, parts_trees, deep_branches, below, merge_of, tree_at}
use Rattle.plain_defs.specs.Rows.{rows_within, definition_row}

-- ---- lists of nodes

module _ (P : Node → Type 0) where
  abbrev pub Each : List Node → Type 0
  Each [] = Unit {0}
  Each (t ∷ ts) = P t × Each ts

  pub each-both : (xs ys : List Node) → Each xs → Each ys → Each (xs ++ ys)
  each-both [] ys h g = g
  each-both (x ∷ xs) ys h g = (h.0, each-both xs ys h.1 g)

-- ---- schemas without a walk of their own

abbrev pub IsUnwalked : Schema → Type 0
IsUnwalked (boolean b) = Unit {0}
IsUnwalked (object p ss ls ns) = p.walk ≡ None

abbrev pub AllUnwalked : Branches → Type 0
AllUnwalked [] = Unit {0}
AllUnwalked (m ∷ ms) = IsUnwalked m.1 × AllUnwalked ms

-- ---- plain schemas, by the places where they may stand

pub data IsForm (d : Document) (k : ℕ) (s : Schema) : Type 0 where
  a_row : (rows_within d k).row s ≡ true → IsForm d k s
  a_nullable : (rows_within d k).nullable s ≡ true → IsForm d k s
  a_definition : definition_row d k s ≡ true → IsForm d k s

-- only where null may stand in its place does a row make another row
abbrev pub makes : (d : Document) (k : ℕ) (s : Schema) → IsForm d k s → Bool
makes d k s (a_row h) = false
makes d k s (a_nullable h) = true
makes d k s (a_definition h) = false

module _ (r : Relations) (d : Document) (most : ℕ) where
  -- ---- what is to be told of a schema: nothing

  pub record IsQuietFinding (f : Finding) : Type 0 where
    pub notes : f.notes ≡ []
    pub faults : finding_faults r d most f ≡ []
    pub listed : listed_in f.row ≡ []

  pub record IsQuiet (s : Schema) : Type 0 where
    pub unstated : default_of s ≡ None
    pub finding : IsQuietFinding (finding_of r d s)

  abbrev pub IsStill : State → Type 0
  IsStill too_few_levels = Unit {0}
  IsStill too_many_steps = ⊥
  IsStill (converted None) = Unit {0}
  IsStill (converted (Some m)) = ⊥

  abbrev pub Quiet : Node → Type 0
  Quiet t = IsStill t.state × IsQuiet t.schema

  -- ---- what a row hands on, where j more levels may stand in one another

  -- what it makes: a row that has no parts, or, where it may, another row of as many levels
  abbrev pub IsMade : Bool → ℕ → Schema → Type 0
  IsMade false j s = IsForm d 1 s × (row_parts (row_of r d s) ≡ [])
  IsMade true j s = (rows_within d (suc j)).row s ≡ true

  abbrev pub PartFits : Bool → ℕ → Branches → Part → Type 0
  PartFits b j ms (child k s) = IsForm d j s
  PartFits b j ms (of_branch k s) = (i : ℕ) × (j ≡ suc i) × IsUnwalked (branch_at (take 2 k) ms) × IsForm d i s
  PartFits b j ms (lone k s) = ⊥
  PartFits b j ms (made s) = IsMade b j s

  abbrev pub PartsFit : Bool → ℕ → Branches → List Part → Type 0
  PartsFit b j ms [] = Unit {0}
  PartsFit b j ms (p ∷ ps) = PartFits b j ms p × PartsFit b j ms ps

  pub record FindingFits (b : Bool) (j : ℕ) (f : Finding) : Type 0 where
    pub quiet : IsQuietFinding f
    pub unmerged : if_merged f.row ≡ None
    pub branches : AllUnwalked f.branches
    pub parts : PartsFit b j f.branches (row_parts f.row)

  pub record Fits (b : Bool) (j : ℕ) (s : Schema) : Type 0 where
    pub unstated : default_of s ≡ None
    pub unwalked : IsUnwalked s
    pub finding : FindingFits b j (finding_of r d s)

  -- ---- trees

  -- the steps of the walk and the levels that are left are not more than are allowed
  pub record HasSteps (k : ℕ) (o : Spot) : Type 0 where
    pub few : length o.walk + k ≤ suc most
    pub unmade : o.in_made ≡ false

  pub no-more : (w : Walk) → length w ≤ suc most → has_more_steps most w ≡ false
  no-more w le = le-ltb (suc most) (length w) le

  to-child-length : (w : Walk) (k : Location) → length (to_child w k) ≡ suc (length w)
  to-child-length w k = length-append w ((last_of w ++ k) ∷ []) ∙ omega (arith)

  inside-walk : (o : Spot) (k : Location) (s : Schema) → IsUnwalked s → o.in_made ≡ false → walk_inside o k s ≡ to_child o.walk k
  inside-walk o k (boolean b) u m = ap (λ b. if b then o.walk else to_child o.walk k) m
  inside-walk o k (object p ss ls ns) u m = ap (λ w. unwrap_or (option_map unmarked w) (to_child o.walk k)) u

  inside-unmade : (s : Schema) → IsUnwalked s → is_made_schema s ≡ false
  inside-unmade (boolean b) u = refl
  inside-unmade (object p ss ls ns) u = ap made_by u

  inside-length : (o : Spot) (k : Location) (s : Schema) → IsUnwalked s → o.in_made ≡ false → length (walk_inside o k s) ≡ suc (length o.walk)
  inside-length o k s u m = ap length (inside-walk o k s u m) ∙ to-child-length o.walk k

  pub child-steps : (j : ℕ) (o : Spot) (h : Handed) (k : Location) (s : Schema) → IsUnwalked s → HasSteps (suc j) o → HasSteps j (spot_inside o h k s)
  child-steps j o h k s u st = record { few = omega (arith, inside-length o k s u st.unmade, st.few); unmade = inside-unmade s u }

  pub no-form : {A : Type 0} (s : Schema) → IsForm d zero s → A
  no-form s (a_row h) = impossible h
  no-form s (a_nullable h) = impossible h
  no-form s (a_definition h) = impossible h

  -- ---- `level` says what each row hands on

  module _ (level : (j : ℕ) (s : Schema) (f : IsForm d (suc j) s) → Fits (makes d (suc j) s f) j s) where
    pub unwalked-form : (k : ℕ) (s : Schema) → IsForm d k s → IsUnwalked s
    unwalked-form zero s f = no-form s f
    unwalked-form (suc j) s f = (level j s f).unwalked

    abbrev trees : ℕ → Spot → Schema → List Node
    trees n o s = tree_at r d most n o s

    abbrev Stands : ℕ → Type 0
    Stands n = (k : ℕ) (o : Spot) (s : Schema) → IsForm d k s → HasSteps k o → Each Quiet (trees n o s)

    pub no-branches : (j : ℕ) (o : Spot) (ms : Branches) → AllUnwalked ms → HasSteps (suc j) o → deep_branches r d most o ms ≡ []
    no-branches j o [] u st = refl
    no-branches j o (m ∷ ms) u st =
        ap (λ b. elim b [ true ↦ cut too_many_steps (spot_inside o None m.0 m.1) m.1 ∷ deep_branches r d most o ms | false ↦ deep_branches r d most o ms ])
        (no-more (walk_inside o m.0 m.1) (omega (arith, inside-length o m.0 m.1 u.0 st.unmade, st.few)))
        ∙ no-branches j o ms u.1 st

    module _ (n : ℕ) (rec : Stands n) (j : ℕ) (o : Spot) (st : HasSteps (suc j) o) where
      made-quiet : (b : Bool) (s : Schema) → IsMade b j s → Each Quiet (trees n o s)
      made-quiet false s f = rec 1 o s f.0 (record { few = omega (arith, st.few); unmade = st.unmade })
      made-quiet true s f = rec (suc j) o s (a_row f) st

      part-quiet : (b : Bool) (ms : Branches) (p : Part) → PartFits b j ms p → Each Quiet (trees n (part_spot o ms p) (part_schema p))
      part-quiet b ms (child k s) f = rec j (spot_inside o None k s) s f (child-steps j o None k s (unwalked-form j s f) st)
      part-quiet b ms (of_branch k s) f =
          let i = f.0 in
          let inner : HasSteps j (spot_of_branch o ms k) = child-steps j o None (take 2 k) (branch_at (take 2 k) ms) f.2 st in
          rec i (spot_inside (spot_of_branch o ms k) None (drop 2 k) s) s f.3 (child-steps i (spot_of_branch o ms k) None (drop 2 k) s (unwalked-form i s f.3) (subst (λ m. HasSteps m (spot_of_branch o ms k)) f.1 inner))
      part-quiet b ms (lone k s) f = absurd f
      part-quiet b ms (made s) f = made-quiet b s f

      parts-quiet : (b : Bool) (ms : Branches) (ps : List Part) → PartsFit b j ms ps → Each Quiet (parts_trees r d most (λ o s. trees n o s) o ms ps)
      parts-quiet b ms [] f = tt
      parts-quiet b ms (p ∷ ps) f = each-both Quiet (trees n (part_spot o ms p) (part_schema p)) _ (part-quiet b ms p f.0) (parts-quiet b ms ps f.1)

      module _ (b : Bool) (s : Schema) (f : Fits b j s) where
        abbrev node_by : Option (List Part) → Node
        node_by ps = record { spot = o; schema = s; entry = entry_at r d most (suc n) o s; state = converted (merge_of r d most n o s ps) }

        abbrev under_by : Option (List Part) → List Node
        under_by ps = below r d most n (λ o s. trees n o s) o s (finding_of r d s).branches (row_of r d s) ps

        abbrev tree_by : Bool → List Node
        tree_by b = elim b [ true ↦ cut too_many_steps o s ∷ [] | false ↦ node_by (if_merged (row_of r d s)) ∷ under_by (if_merged (row_of r d s)) ]

        abbrev quiet-here : IsQuiet s
        quiet-here = record { unstated = f.unstated; finding = f.finding.quiet }

        under-quiet : Each Quiet (under_by None)
        under-quiet =
            subst (λ ts. Each Quiet (ts ++ parts_trees r d most (λ o s. trees n o s) o (finding_of r d s).branches (row_parts (row_of r d s)))) (sym (no-branches j o (finding_of r d s).branches f.finding.branches st))
            (parts-quiet b (finding_of r d s).branches (row_parts (row_of r d s)) f.finding.parts)

        tree-quiet : Each Quiet (trees (suc n) o s)
        tree-quiet =
            subst (λ b. Each Quiet (tree_by b)) (sym (no-more o.walk (omega (arith, st.few))))
            (subst (λ ps. Each Quiet (node_by ps ∷ under_by ps)) (sym f.finding.unmerged) ((tt, quiet-here), under-quiet))

    pub stands : (n : ℕ) → Stands n
    stands zero zero o s f st = no-form s f
    stands zero (suc j) o s f st = let l = level j s f in ((tt, record { unstated = l.unstated; finding = l.finding.quiet }), tt)
    stands (suc n) zero o s f st = no-form s f
    stands (suc n) (suc j) o s f st = tree-quiet n (stands n) j o st (makes d (suc j) s f) s (level j s f)
