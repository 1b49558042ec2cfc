-- By induction over the conversion tree: the first fault is exact.
use Rattle.std.proofs.Common.{◌≡◌, ℕ, zero, suc, ◌≤◌, List, [], ◌∷◌, ◌++◌, length, map, Bool, true, false, Option, Some, None, ◌⊎◌, inl, inr, refl, sym, ap, subst, ◌∙◌, arith, bytes_eq, true≢false, append_assoc}
use Rattle.std.specs.Prelude.{take, drop, Contains, option_map, unwrap_or, if◌then◌else◌}
use Rattle.std.specs.List.{AllByRecursion}
use Rattle.std.specs.Cmp.Lexicographic.{pointwise_decides}
use Rattle.std.proofs.lemmas.Slice.Eq.{bytes_eq-Decides}
use Rattle.std.proofs.lemmas.Bool.{ltb-true, ltb-false}
use Rattle.schema_defs.specs.Location.{Location}
use Rattle.schema_defs.specs.Texts.{Relations}
use Rattle.schema_defs.specs.Schema.{Plain, Schema, boolean, object, Same, no_same, Lists, Named, Definition, Document}
use Rattle.schema_defs.specs.Admits.{target, target_location, definition_location}
use Rattle.schema_defs.proofs.Stand.{none_in, first_or_rest}
use Rattle.merge_defs.specs.Outcome.{Outcome, fault, never, answer, depth, unsupported}
use Rattle.merge_walks.specs.Carried.{Walk, last_of, root_walk, unmarked, to_child, to_target, has_more_steps, own_walk, on_walk, carried}
use Rattle.merge_walks.specs.Walked.{merge_by_walks}
use Rattle.merge_walks.specs.Samples.{walk_in}
use Rattle.convert_defs.specs.Convert.{named_by}
use Rattle.convert_defs.specs.Order.{same_place}
use Rattle.convert_defs.specs.Standing.{less_reference}
use Rattle.convert_defs.specs.Row.{Part, child, of_branch, lone, made, Cause, Row, row_parts}
use Rattle.convert_defs.specs.Table.{finding_of, row_of}
use Rattle.convert_defs.specs.Faults.{finding_faults}
use Rattle.convert_walks.specs.Spot.{Spot, Branches, branch_at, walk_inside, spot_inside, spot_of_branch, part_spot, part_schema, is_made_schema}
use Rattle.convert_walks.specs.Merging.{carried_parts, annotated, merged_at, merged_by, without_reference, with_target}
use Rattle.convert_walks.specs.Tree.{instead, answered_as, plain_of, too_many_steps, converted, Node, cut, if_merged, entry_at, parts_trees, deep_branches, standing_tree, below, merge_of, tree_at, definition_spot, root_spot, definition_trees}
use Rattle.convert_walks.specs.Told.{Reason, by_row, merge_faults, state_faults, faults_in}
use Rattle.depth_laws.specs.Steps.{IsShort, IsShortOrNone, AreShort, AllShort, Tells, IsOneStepMore, TargetsAreShort, StayShort}
use Rattle.depth_laws.proofs.Fit.{IsOfWalk, IsThere, IsFitPart, AreFitParts, IsMergedPart, AreMergedParts, AreShortBranches, IfMerged, IsFitFinding, IsFreshSchema, FirstIsExact, FirstDepthIsExact}
use Rattle.depth_laws.proofs.RowFit.{rows_are_fit}
use Rattle.depth_laws.proofs.Short.{merges_stay_short, one-more-location, unmarked-short, target-short, carried-holds, on-walk, own-short}

abbrev Fault : Type 0
Fault = Location × Reason

module _ (d : Document) (most : ℕ) (targets : TargetsAreShort d most) where
  abbrev First : List Fault → Type 0
  First = FirstIsExact most

  -- of two lists the second counts where the first is empty
  first-both : (xs ys : List Fault) → First xs → (xs ≡ [] → First ys) → First (xs ++ ys)
  first-both [] ys h g = g refl
  first-both (x ∷ xs) ys h g = h

  rows-first : (l : Location) (cs : List Cause) → First (map (λ c. (l, by_row c)) cs)
  rows-first l [] = tt
  rows-first l (c ∷ cs) = tt

  -- ---- lengths of walks

  -- the schema's own walk has no more locations than that of the place where it stands
  abbrev IsWithin : Walk → Option Walk → Type 0
  IsWithin v None = Unit {0}
  IsWithin v (Some w) = length (unmarked w) ≤ length v

  inside-short : (o : Spot) (k : Location) (s : Schema) → length o.walk ≤ suc most → AreShort most s → length (walk_inside o k s) ≤ suc (suc most)
  inside-short o k (boolean b) h a = by o.in_made
    where
      by : (b : Bool) → length (if b then o.walk else to_child o.walk k) ≤ suc (suc most)
      by true = omega (arith, h)
      by false = omega (arith, h, one-more-location d most targets o.walk (last_of o.walk ++ k))
  inside-short o k (object p ss ls ns) h a = by p.walk a.0
    where
      by : (w : Option Walk) → IsShortOrNone most w → length (unwrap_or (option_map unmarked w) (to_child o.walk k)) ≤ suc (suc most)
      by None g = omega (arith, h, one-more-location d most targets o.walk (last_of o.walk ++ k))
      by (Some w) g = g

  inside-within : (o : Spot) (k : Location) (s : Schema) → IsWithin (walk_inside o k s) (walk_in s)
  inside-within o k (boolean b) = tt
  inside-within o k (object p ss ls ns) = by p.walk
    where
      by : (w : Option Walk) → IsWithin (unwrap_or (option_map unmarked w) (to_child o.walk k)) w
      by None = tt
      by (Some w) = omega (arith)

  -- ---- merges of rows

  abbrev IsMerged : Outcome Schema → Type 0
  IsMerged m = Tells most (AreShort most) m × IsOneStepMore most m

  short-of : (w : Walk) → length w ≤ suc (suc most) → IsShort most w
  short-of w h = omega (arith, h, unmarked-short d most targets w)

  carried-part : (s : Schema) (o : Spot) (p : Part) → length o.walk ≤ suc most → IsMergedPart most s p → AreShort most (carried (part_spot o [] p).walk (part_schema p))
  carried-part s o (child k t) l h = carried-holds d most targets (walk_inside o k t) t (short-of (walk_inside o k t) (inside-short o k t l h)) h
  carried-part s o (of_branch k t) l h = absurd h
  carried-part s o (lone k t) l h = carried-holds d most targets (walk_inside o k t) t (short-of (walk_inside o k t) (inside-short o k t l h)) h
  carried-part s o (made t) l h = carried-holds d most targets o.walk t (short-of o.walk (omega (arith, l))) h

  all-carried : (s : Schema) (o : Spot) (ps : List Part) → length o.walk ≤ suc most → AreMergedParts most s ps → AllShort most (carried_parts o ps)
  all-carried s o [] l h = tt
  all-carried s o (p ∷ ps) l h = (carried-part s o p l h.0, all-carried s o ps l h.1)

  module _ (n : ℕ) where
    stays : StayShort d most n
    stays = merges_stay_short d most n targets

    module _ (o : Spot) (l : length o.walk ≤ suc most) (p : Plain) (ss : Same) (ls : Lists) (ns : Named) (a : AreShort most (object p ss ls ns)) (within : IsWithin o.walk p.walk) where
      several-merged : (ps : List Part) → AreMergedParts most (object p ss ls ns) ps → IsMerged (merge_by_walks d most n (carried_parts o ps))
      several-merged ps h = stays.gathers (carried_parts o ps) (all-carried (object p ss ls ns) o ps l h)

      body-within : (w : Option Walk) → IsWithin o.walk w → length (unmarked (unwrap_or w o.walk)) ≤ suc most
      body-within None h = omega (arith, l, unmarked-short d most targets o.walk)
      body-within (Some w) h = omega (arith, l, h)

      unreferred : (ps : List Part) → AreMergedParts most (object p ss ls ns) ps → IsMerged (without_reference d most n o p ss ls ns ps)
      unreferred [] h = several-merged [] h
      unreferred (child k t ∷ ps) h = several-merged (child k t ∷ ps) h
      unreferred (of_branch k t ∷ ps) h = several-merged (of_branch k t ∷ ps) h
      unreferred (lone k t ∷ ps) h = several-merged (lone k t ∷ ps) h
      unreferred (made b ∷ ps) h =
          stays.with_all (carried o.walk (object p no_same ls ns)) ss (carried-holds d most targets o.walk (object p no_same ls ns) (short-of o.walk (omega (arith, l))) (a.0, tt, a.2, a.3)) (body-within p.walk within) a.1

      by-target : (q : List ℕ) (t : Option Schema) → target d q ≡ t → IsMerged (with_target d most n o q t (carried o.walk (object (less_reference p) ss ls ns)))
      by-target q None e = (tt, tt)
      by-target q (Some t) e =
          stays.joins (on_walk (to_target o.walk (target_location d q)) t) (carried o.walk (object (less_reference p) ss ls ns))
          (on-walk d most targets (to_target o.walk (target_location d q)) t (target-short d most targets o.walk (target_location d q) l) (targets q t e))
          (carried-holds d most targets o.walk (object (less_reference p) ss ls ns) (short-of o.walk (omega (arith, l))) (a.0, a.1, a.2, a.3))

      by-reference : (ps : List Part) → AreMergedParts most (object p ss ls ns) ps → (q : Option (List ℕ)) → IsMerged (merged_by d most n o p ss ls ns ps q)
      by-reference ps h None = unreferred ps h
      by-reference ps h (Some q) = by-target q (target d q) refl

    merged-row : (o : Spot) (s : Schema) (ps : List Part) → length o.walk ≤ suc most → IsWithin o.walk (walk_in s) → AreShort most s → AreMergedParts most s ps → IsMerged (merged_at d most n o s ps)
    merged-row o (boolean b) ps l w a h = (tt, tt)
    merged-row o (object p ss ls ns) ps l w a h = by-reference o l p ss ls ns a w ps h p.reference

  -- ---- the tree

  module _ (r : Relations) (rows : (s : Schema) → AreShort most s → IsFitFinding most s (finding_of r d s)) (whole : ℕ) where
    abbrev told : List Node → List Fault
    told ts = faults_in r d most whole ts

    abbrev tree : ℕ → Spot → Schema → List Node
    tree n o s = tree_at r d most n o s

    told-both : (xs ys : List Node) → told (xs ++ ys) ≡ told xs ++ told ys
    told-both [] ys = refl
    told-both (x ∷ xs) ys = ap (λ fs. state_faults r d most whole x.spot x.schema x.state ++ fs) (told-both xs ys) ∙ sym (append_assoc (state_faults r d most whole x.spot x.schema x.state) (told xs) (told ys))

    nodes-both : (xs ys : List Node) → First (told xs) → (told xs ≡ [] → First (told ys)) → First (told (xs ++ ys))
    nodes-both xs ys h g = subst (λ fs. First fs) (sym (told-both xs ys)) (first-both (told xs) (told ys) h g)

    abbrev Claim : ℕ → Type 0
    Claim n = (o : Spot) (s : Schema) → length o.walk ≤ suc (suc most) → IsWithin o.walk (walk_in s) → AreShort most s → First (told (tree n o s))

    module _ (n : ℕ) (rec : Claim n) (o : Spot) (l : length o.walk ≤ suc most) where
      less : length o.walk ≤ suc (suc most)
      less = omega (arith, l)

      deep-first : (s : Schema) (ms : Branches) → AreShortBranches most s ms → First (told (deep_branches r d most o ms))
      deep-first s [] h = tt
      deep-first s (m ∷ ms) h = by (has_more_steps most (walk_inside o m.0 m.1)) refl (deep-first s ms h.1)
        where
          by : (b : Bool) → has_more_steps most (walk_inside o m.0 m.1) ≡ b → First (told (deep_branches r d most o ms))
              → First (told (elim b [ true ↦ cut too_many_steps (spot_inside o None m.0 m.1) m.1 ∷ deep_branches r d most o ms | false ↦ deep_branches r d most o ms ]))
          by true e g = omega (arith, inside-short o m.0 m.1 l h.0, ltb-true (suc most) (length (walk_inside o m.0 m.1)) e)
          by false e g = g

      not-empty : (f : Fault) (fs : List Fault) → f ∷ fs ≡ [] → ⊥
      not-empty f fs e = cc

      branch-short : (ms : Branches) (k : Location) → told (deep_branches r d most o ms) ≡ [] → IsThere ms k → length (walk_inside o k (branch_at k ms)) ≤ suc most
      branch-short [] k e t = absurd (none_in t.0 t.1)
      branch-short (m ∷ ms) k e t = by (λ g u. branch-short ms k g u) (has_more_steps most (walk_inside o m.0 m.1)) refl e
        where
          later : (told (deep_branches r d most o ms) ≡ [] → IsThere ms k → length (walk_inside o k (branch_at k ms)) ≤ suc most) → told (deep_branches r d most o ms) ≡ [] → same_place k m.0 ≡ false → length (walk_inside o k (branch_at k ms)) ≤ suc most
          later again g f = at_rest (first_or_rest m ms t.0 t.1)
            where
              at_rest : (m ≡ t.0) ⊎ Contains ms t.0 → length (walk_inside o k (branch_at k ms)) ≤ suc most
              at_rest (inl q) = absurd (true≢false (sym ((pointwise_decides {E = bytes_eq} bytes_eq-Decides k m.0).1 (t.2 ∙ ap (λ x. x.0) (sym q))) ∙ f))
              at_rest (inr c) = again g (t.0, c, t.2)

          here : has_more_steps most (walk_inside o m.0 m.1) ≡ false → k ≡ m.0 → length (walk_inside o k m.1) ≤ suc most
          here f q = subst (λ x. length (walk_inside o x m.1) ≤ suc most) (sym q) (ltb-false (suc most) (length (walk_inside o m.0 m.1)) f)

          chosen : (told (deep_branches r d most o ms) ≡ [] → IsThere ms k → length (walk_inside o k (branch_at k ms)) ≤ suc most) → (b : Bool) → same_place k m.0 ≡ b → has_more_steps most (walk_inside o m.0 m.1) ≡ false → told (deep_branches r d most o ms) ≡ [] → length (walk_inside o k (if b then m.1 else branch_at k ms)) ≤ suc most
          chosen again true q f g = here f ((pointwise_decides {E = bytes_eq} bytes_eq-Decides k m.0).0 q)
          chosen again false q f g = later again g q

          by : (told (deep_branches r d most o ms) ≡ [] → IsThere ms k → length (walk_inside o k (branch_at k ms)) ≤ suc most) → (b : Bool) → has_more_steps most (walk_inside o m.0 m.1) ≡ b
              → told (elim b [ true ↦ cut too_many_steps (spot_inside o None m.0 m.1) m.1 ∷ deep_branches r d most o ms | false ↦ deep_branches r d most o ms ]) ≡ []
              → length (walk_inside o k (branch_at k (m ∷ ms))) ≤ suc most
          by again true f g = absurd (not-empty _ _ g)
          by again false f g = chosen again (same_place k m.0) refl f g

      module _ (s : Schema) (within : IsWithin o.walk (walk_in s)) (ms : Branches) (none : told (deep_branches r d most o ms) ≡ []) where
        made-within : (t : Schema) → IsOfWalk s t → IsWithin o.walk (walk_in t)
        made-within t (inl e) = subst (λ w. IsWithin o.walk w) (sym e) tt
        made-within t (inr e) = subst (λ w. IsWithin o.walk w) (sym e) within

        part-first : (p : Part) → IsFitPart most s ms p → First (told (tree n (part_spot o ms p) (part_schema p)))
        part-first (child k t) h = rec (spot_inside o None k t) t (inside-short o k t l h) (inside-within o k t) h
        part-first (of_branch k t) h =
            rec (spot_inside (spot_of_branch o ms k) None (drop 2 k) t) t (inside-short (spot_of_branch o ms k) (drop 2 k) t (branch-short ms (take 2 k) none h.1) h.0) (inside-within (spot_of_branch o ms k) (drop 2 k) t) h.0
        part-first (lone k t) h = rec (spot_inside o o.handed k t) t (inside-short o k t l h) (inside-within o k t) h
        part-first (made t) h = rec o t less (made-within t h.1) h.0

        parts-first : (ps : List Part) → AreFitParts most s ms ps → First (told (parts_trees r d most (λ o s. tree n o s) o ms ps))
        parts-first [] h = tt
        parts-first (p ∷ ps) h = nodes-both (tree n (part_spot o ms p) (part_schema p)) (parts_trees r d most (λ o s. tree n o s) o ms ps) (part-first p h.0) (λ e. parts-first ps h.1)

      stand-within : (w : Option Walk) → IsWithin (unwrap_or (option_map unmarked w) root_walk) w
      stand-within None = tt
      stand-within (Some w) = omega (arith)

      standing-object : (s : Schema) (q : Plain) (ss : Same) (ls : Lists) (ns : Named) → AreShort most (object q ss ls ns) → (w : Option Plain)
          → First (told (standing_tree r d most (λ o s. tree n o s) (Some (answered_as o s w (object q ss ls ns)))))
      standing-object s q ss ls ns a None = rec (record o { walk = own_walk q; in_made = is_made_schema (object q ss ls ns) }) (object q ss ls ns) (own-short d most targets q.walk a.0) (stand-within q.walk) a
      standing-object s q ss ls ns a (Some p) =
          rec (record o { walk = own_walk q; in_made = is_made_schema (object q ss ls ns) }) (annotated p (object q ss ls ns)) (own-short d most targets q.walk a.0) (stand-within q.walk) (a.0, a.1, a.2, a.3)

      standing-boolean : (s : Schema) (b : Bool) → First (told (standing_tree r d most (λ o s. tree n o s) (Some (answered_as o s (plain_of s) (boolean b)))))
      standing-boolean s b = rec (record o { handed = Some (named_by o.handed s) }) (boolean b) less tt tt

      standing-first : (s : Schema) (m : Outcome Schema) → IsMerged m → First (merge_faults r d most whole o m ++ told (standing_tree r d most (λ o s. tree n o s) (instead o s m)))
      standing-first s (fault (depth [])) h = tt
      standing-first s (fault (depth (v ∷ w))) h = h.1
      standing-first s (fault (unsupported u)) h = tt
      standing-first s (never ns) h = standing-boolean s false
      standing-first s (answer ns (boolean b)) h = standing-boolean s b
      standing-first s (answer ns (object q ss ls os)) h = standing-object s q ss ls os h.0 (plain_of s)

      module _ (s : Schema) (within : IsWithin o.walk (walk_in s)) (a : AreShort most s) where
        abbrev ms : Branches
        ms = (finding_of r d s).branches

        node-first : (w : Row) → AreFitParts most s ms (row_parts w) → (ps : Option (List Part)) → IfMerged most s ps
            → First (state_faults r d most whole o s (converted (merge_of r d most n o s ps)) ++ told (below r d most n (λ o s. tree n o s) o s ms w ps))
        node-first w h None g =
            first-both (map (λ c. (o.path, by_row c)) (finding_faults r d most (finding_of r d s))) (told (deep_branches r d most o ms ++ parts_trees r d most (λ o s. tree n o s) o ms (row_parts w)))
            (rows-first o.path (finding_faults r d most (finding_of r d s)))
            (λ _. nodes-both (deep_branches r d most o ms) (parts_trees r d most (λ o s. tree n o s) o ms (row_parts w)) (deep-first s ms (rows s a).branches) (λ e. parts-first s within ms e (row_parts w) h))
        node-first w h (Some ps) g = standing-first s (merged_at d most n o s ps) (merged-row n o s ps l within a g)

    claims : (n : ℕ) → Claim n
    claims zero o s l w a = tt
    claims (suc n) o s l w a = by (claims n) (has_more_steps most o.walk) refl
      where
        by : Claim n → (b : Bool) → has_more_steps most o.walk ≡ b
            → First (told
            (elim b [
              | true ↦ cut too_many_steps o s ∷ []
              | false ↦ record { spot = o; schema = s; entry = entry_at r d most (suc n) o s; state = converted (merge_of r d most n o s (if_merged (row_of r d s))) }
                  ∷ below r d most n (λ o s. tree_at r d most n o s) o s (finding_of r d s).branches (row_of r d s) (if_merged (row_of r d s))
            ]))
        by rec true e = omega (arith, l, ltb-true (suc most) (length o.walk) e)
        by rec false e = node-first n rec o (ltb-false (suc most) (length o.walk) e) s w a (row_of r d s) (rows s a).parts (if_merged (row_of r d s)) (rows s a).merged

    fresh-within : (v : Walk) (s : Schema) → walk_in s ≡ None → IsWithin v (walk_in s)
    fresh-within v s e = subst (λ w. IsWithin v w) (sym e) tt

    definitions-first : (es : List Definition) → AllByRecursion (λ e. IsFreshSchema most e.body) es → First (told (definition_trees r d most whole es))
    definitions-first [] h = tt
    definitions-first (e ∷ es) h =
        nodes-both (tree whole (definition_spot r d most whole e) e.body) (definition_trees r d most whole es)
        (claims whole (definition_spot r d most whole e) e.body (omega (arith)) (fresh-within (definition_location e ∷ []) e.body h.0.1) h.0.0) (λ _. definitions-first es h.1)

pub first_depth_is_exact : FirstDepthIsExact
first_depth_is_exact r d most n f =
    nodes-both d most f.targets r (λ s a. rows_are_fit r d most f.targets s a) n (definition_trees r d most n d.definitions) (tree_at r d most n (root_spot r d most n) d.root)
    (definitions-first d most f.targets r (λ s a. rows_are_fit r d most f.targets s a) n d.definitions f.definitions)
    (λ _. claims d most f.targets r (λ s a. rows_are_fit r d most f.targets s a) n n (root_spot r d most n) d.root (omega (arith)) (fresh-within d most f.targets r (λ s a. rows_are_fit r d most f.targets s a) n root_walk d.root f.root.1) f.root.0)
