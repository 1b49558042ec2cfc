-- Each note of a conversion tree stands where a schema does.
use Rattle.std.proofs.Common.{◌≡◌, ℕ, List, [], ◌∷◌, ◌++◌, map, Bool, true, false, Option, Some, None, ◌⊎◌, inl, inr, refl, sym, subst}
use Rattle.std.specs.Prelude.{IsSome, if◌then◌else◌}
use Rattle.std.specs.List.{AllByRecursion}
use Rattle.schema_defs.specs.Location.{Location}
use Rattle.schema_defs.specs.Texts.{Relations}
use Rattle.schema_defs.specs.Schema.{Schema, boolean, object, Document}
use Rattle.schema_defs.specs.Children.{schema_at}
use Rattle.merge_defs.specs.Outcome as merge
use Rattle.merge_defs.specs.Outcome.{Outcome, fault, never, answer}
use Rattle.convert_defs.specs.Row as row
use Rattle.convert_defs.specs.Table.{finding_of, notes_at}
use Rattle.convert_walks.specs.Spot.{Spot, Branches, branch_at, path_inside}
use Rattle.convert_walks.specs.Tree.{State, too_few_levels, too_many_steps, converted, Node, document_tree}
use Rattle.convert_walks.specs.Told.{Note, note_path, placed_note, merge_note, same_note, comes_before, inserted, ordered, outcome_notes, state_notes, notes_in}
use Rattle.depth_laws.specs.Leading.{AreLedTo, walk_to, TargetsAreBare}
use Rattle.depth_laws.specs.Inside.{IsWay, NotesAreInside}
use Rattle.depth_laws.proofs.LedWalks.{LeadsElsewhere, guarded-leads-elsewhere}
use Rattle.depth_laws.proofs.RowLed.{HasSteps, Found, BranchesLed, finding-led}
use Rattle.depth_laws.proofs.RowNotes.{ArePlaced, notes-stand}
use Rattle.depth_laws.proofs.Fit.{IsThere}
use Rattle.depth_laws.proofs.TreeLed.{Stands, Fits, context, spot-child, branch-among, AllFit, document-fits, way-goes-on}

module _ (d : Document) where
  abbrev Inside : Note → Type 0
  Inside m = IsSome (schema_at d m.place)

  abbrev AllInside : List Note → Type 0
  AllInside ms = AllByRecursion Inside ms

  all-both : (xs ys : List Note) → AllInside xs → AllInside ys → AllInside (xs ++ ys)
  all-both [] ys h g = g
  all-both (x ∷ xs) ys h g = (h.0, all-both xs ys h.1 g)

  -- ---- in their order

  inserted-inside : (m : Note) (ms : List Note) → Inside m → AllInside ms → AllInside (inserted m ms)
  inserted-inside m [] h g = (h, tt)
  inserted-inside m (x ∷ xs) h g = by (same_note m x) (comes_before m x) (inserted-inside m xs h g.1)
    where
      by : (a b : Bool) → AllInside (inserted m xs) → AllInside (if a then x ∷ xs else if b then m ∷ x ∷ xs else x ∷ inserted m xs)
      by true b k = g
      by false true k = (h, g)
      by false false k = (g.0, k)

  ordered-inside : (ms : List Note) → AllInside ms → AllInside (ordered ms)
  ordered-inside [] h = tt
  ordered-inside (m ∷ ms) h = inserted-inside m (ordered ms) h.0 (ordered-inside ms h.1)

  -- ---- of a node

  module _ (o : Spot) (st : Stands d o) where
    -- at the schema, or at one of its branches
    path-stands : (ms : Branches) → BranchesLed d (IsWay d) (way-goes-on d) (context d o) ms → Found ms → (k : Location) → (k ≡ []) ⊎ IsThere ms k → IsSome (schema_at d (note_path o ms k))
    path-stands ms led found k (inl e) = subst (λ k. IsSome (schema_at d (note_path o ms k))) (sym e) st.1
    path-stands ms led found k (inr t) = subst (λ k. IsSome (schema_at d (note_path o ms k))) (sym t.2) (at t.0.0 refl)
      where
        b : HasSteps t.0.0 × AreLedTo d (IsWay d) (walk_to (context d o) t.0.0) t.0.1
        b = branch-among d o st ms led t.0 t.1

        stands : IsSome (schema_at d (path_inside o t.0.0 t.0.1))
        stands = (spot-child d o st None t.0.0 t.0.1 b.0 b.1).0.1

        at : (k : Location) → t.0.0 ≡ k → IsSome (schema_at d (note_path o ms k))
        at [] e = absurd (subst HasSteps e b.0)
        at (j ∷ js) e = subst (λ l. IsSome (schema_at d (path_inside o l (branch_at l ms)))) e (subst (λ u. IsSome (schema_at d (path_inside o t.0.0 u))) (sym (found t.0 t.1)) stands)

    rows-inside : (ms : Branches) → BranchesLed d (IsWay d) (way-goes-on d) (context d o) ms → Found ms → (ns : List row.Note) → ArePlaced ms ns → AllInside (map (placed_note o ms) ns)
    rows-inside ms led found [] h = tt
    rows-inside ms led found (n ∷ ns) h = (path-stands ms led found n.place h.0, rows-inside ms led found ns h.1)

    merged-inside : (ns : List merge.Note) → AllInside (map (merge_note o) ns)
    merged-inside [] = tt
    merged-inside (n ∷ ns) = (st.1, merged-inside ns)

    module _ (r : Relations) (most whole : ℕ) where
      outcome-inside : (m : Option (Outcome Schema)) → AllInside (outcome_notes r d most whole o m)
      outcome-inside None = tt
      outcome-inside (Some (fault f)) = tt
      outcome-inside (Some (never ns)) = merged-inside ns
      outcome-inside (Some (answer ns s)) = merged-inside ns

      schema-inside : (s : Schema) → Fits d o s → AllInside (map (placed_note o (finding_of r d s).branches) (notes_at r d s))
      schema-inside (boolean true) f = tt
      schema-inside (boolean false) f = tt
      schema-inside (object p ss ls ns) f =
          let k = finding-led d (IsWay d) (way-goes-on d) (context d o) p ss ls ns f.2 r in
          rows-inside (finding_of r d (object p ss ls ns)).branches k.0.0 k.0.1 (notes_at r d (object p ss ls ns)) (notes-stand d r (object p ss ls ns))

      state-inside : (s : Schema) → Fits d o s → (t : State) → AllInside (state_notes r d most whole o s t)
      state-inside s f too_few_levels = tt
      state-inside s f too_many_steps = tt
      state-inside s f (converted m) = all-both (map (placed_note o (finding_of r d s).branches) (notes_at r d s)) (outcome_notes r d most whole o m) (schema-inside s f) (outcome-inside m)

  module _ (targets : TargetsAreBare d) (elsewhere : LeadsElsewhere d) (r : Relations) (most whole : ℕ) where
    nodes-inside : (ts : List Node) → AllFit d targets elsewhere r most ts → AllInside (notes_in r d most whole ts)
    nodes-inside [] h = tt
    nodes-inside (t ∷ ts) h = all-both (state_notes r d most whole t.spot t.schema t.state) (notes_in r d most whole ts) (state-inside t.spot h.0.0 r most whole t.schema h.0.1 t.state) (nodes-inside ts h.1)

pub notes_are_inside : NotesAreInside
notes_are_inside r d most n guarded bare =
    let elsewhere : LeadsElsewhere d = guarded-leads-elsewhere d guarded in
    ordered-inside d (notes_in r d most n (document_tree r d most n)) (nodes-inside d bare.targets elsewhere r most n (document_tree r d most n) (document-fits d bare.targets elsewhere r most bare n))
