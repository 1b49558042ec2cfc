-- By induction over the conversion tree: each schema stands inside the document, and a way through it leads there.
use Rattle.std.proofs.Common.{◌≡◌, ℕ, zero, suc, ◌≤◌, List, [], ◌∷◌, ◌++◌, ◌||◌, length, map, Bool, true, false, Option, Some, None, ◌⊎◌, inl, inr, refl, sym, ap, subst, ◌∙◌, arith}
use Rattle.std.specs.Prelude.{take, drop, Contains, IsSome, is_some, option_map, unwrap_or, if◌then◌else◌}
use Rattle.std.specs.List.{AllByRecursion}
use Rattle.std.proofs.lemmas.Bool.{ltb-true}
use Rattle.schema_defs.specs.Location.{Location}
use Rattle.schema_defs.specs.Texts.{Relations}
use Rattle.schema_defs.specs.Schema.{Plain, Schema, boolean, object, Same, no_same, Lists, Named, Definition, Document}
use Rattle.schema_defs.specs.Admits.{target, target_location, definition_location, defined}
use Rattle.schema_defs.specs.Children.{children, schema_at}
use Rattle.schema_defs.specs.Counts.{nodes}
use Rattle.schema_defs.proofs.Stand.{none_in, first_in, first_or_rest}
use Rattle.schema_defs.specs.Walks.{IsTarget, IsWalkFrom, merges_at}
use Rattle.each_schema.specs.Each.{EachSchema, of_any_size}
use Rattle.merge_defs.specs.Outcome.{Outcome, fault, never, answer, depth, unsupported}
use Rattle.merge_walks.specs.Carried.{Walk, last_of, root_walk, unmarked, all_but_last, is_made, to_child, to_target, has_more_steps, own_walk, on_walk, carried}
use Rattle.merge_walks.specs.Walked.{walk_of, merge_by_walks}
use Rattle.walk_laws.specs.Levels.{DepthIsDeep}
use Rattle.walk_laws.proofs.Deep.{depth_has_its_walk}
use Rattle.merge_walks.specs.Samples.{walk_in}
use Rattle.convert_defs.specs.Convert.{Handed, named_by, root_name}
use Rattle.convert_defs.specs.Standing.{less_reference}
use Rattle.convert_defs.specs.Row.{Part, child, of_branch, lone, made, Cause, Row, row_parts}
use Rattle.convert_defs.specs.Table.{finding_of, row_of}
use Rattle.convert_defs.specs.Faults.{finding_faults}
use Rattle.convert_walks.specs.Spot.{Spot, Branches, branch_at, walk_inside, path_by, made_by, spot_inside, part_spot, part_schema, is_made_schema}
use Rattle.convert_walks.specs.Merging.{carried_parts, annotated, merged_at, merged_by, without_reference, with_target}
use Rattle.convert_walks.specs.Tree.{instead, answered_as, plain_of, State, too_few_levels, too_many_steps, converted, document_tree, Node, cut, if_merged, entry_at, parts_trees, deep_branches, standing_tree, below, merge_of, tree_at, definition_spot, root_spot, definition_trees}
use Rattle.convert_walks.specs.Told.{Reason, by_row, by_merge, by_levels, too_deep, state_faults, faults_in, faults_of}
use Rattle.depth_laws.specs.Cycles.{HasNoCycle}
use Rattle.depth_laws.specs.Leading.{HasReference, IsLedTo, IsReached, walk_or, walk_on, walk_to, AreLedTo, LedToSame, LedToLists, LedToNamed, LedToAll, TargetsAreBare, IsBare, TellsWalks}
use Rattle.depth_laws.specs.Inside.{IsWay, IsBareDocument, IsToldInside, FaultsAreInside, IsNotDeep, NodesAreEnough, TreesAreInside}
use Rattle.depth_laws.proofs.AllPlaces.{document_places, as_many_as_schemas}
use Rattle.depth_laws.proofs.Bounded.{bounded, all-stand}
use Rattle.depth_laws.proofs.LedWalks.{GoesOn, LeadsElsewhere, guarded-leads-elsewhere, last-added, continued, child-unmade, definition-stands, AllInside, AllLedTo, IsOf, stands-object, target-leads}
use Rattle.depth_laws.proofs.Leading.{join-kept, with-kept, several-kept}
use Rattle.depth_laws.proofs.RowLed.{HasSteps, IsObject, Found, BranchesLed, IsMadeOf, IsLedPart, AreLedParts, AreLedMembers, AreMergedLed, IfMergedLed, IsLedFinding, finding-led}

-- ---- ways

pub way-goes-on : (d : Document) → GoesOn d (IsWay d)
way-goes-on d = record { somewhere = λ h. h; to_children = child-way; to_targets = target-way }
  where
    child-way : (w : Walk) (s : Schema) (c : Location × Schema) → IsWay d w → schema_at d (last_of w) ≡ Some s → Contains (children s) c → schema_at d (last_of w ++ c.0) ≡ Some c.1 → IsWay d (to_child w c.0)
    child-way [] s c h e g f = absurd h
    child-way (l ∷ ls) s c h e g f = continued d true l ls (last_of (l ∷ ls) ++ c.0) h (inl (s, c, e, g, refl)) (ap is_some f)

    target-way : (w : Walk) (l : Location) (t : Schema) → IsWay d w → IsTarget d (last_of w) l → schema_at d l ≡ Some t → IsWay d (w ++ l ∷ [])
    target-way [] l t h g f = absurd h
    target-way (k ∷ ks) l t h g f = continued d true k ks l h (inr (refl, g)) (ap is_some f)

pub ends-inside : (d : Document) (b : Bool) (l : Location) (ls : Walk) → IsWalkFrom d b l ls → IsSome (schema_at d (last_of (l ∷ ls)))
ends-inside d b l [] h = h
ends-inside d b l (m ∷ ms) h = ends-inside d (b || merges_at d l) m ms h.1

module _ (d : Document) where
  way-ends : (w : Walk) → IsWay d w → IsSome (schema_at d (last_of w))
  way-ends [] h = absurd h
  way-ends (l ∷ ls) h = ends-inside d true l ls h

  abbrev W : Walk → Type 0
  W = IsWay d

  abbrev on : GoesOn d W
  on = way-goes-on d

  -- ---- spots

  -- by what the schemas inside stand
  abbrev pub context : Spot → Option Walk
  context o = if o.in_made then None else Some o.walk

  abbrev pub Stands : Spot → Type 0
  Stands o = W o.walk × IsSome (schema_at d o.path)

  -- its own walk is that of the spot; without one it is none that a merge made, or it doesn't merge
  abbrev HasItsWalk : Spot → Option Walk → Type 0
  HasItsWalk o None = (o.in_made ≡ false) × (is_made o.walk ≡ false)
  HasItsWalk o (Some w) = (unmarked w ≡ o.walk) × (is_made w ≡ o.in_made)

  abbrev OwnWalk : Spot → Option Walk → Option (List ℕ) → Same → Type 0
  OwnWalk o v q ss = HasItsWalk o v ⊎ ((v ≡ None) × (q ≡ None) × (ss ≡ no_same))

  abbrev pub Fits : Spot → Schema → Type 0
  Fits o (boolean b) = Unit {0}
  Fits o (object p ss ls ns) = OwnWalk o p.walk p.reference ss × HasReference d (last_of o.walk) p.reference × AllInside d W on (context o) ss ls ns

  -- what is known of the parts of a row that merges
  abbrev IfMergedOf : Spot → Schema → List Part → Type 0
  IfMergedOf o (boolean b) ps = Unit {0}
  IfMergedOf o (object p ss ls ns) ps = IfMergedLed d W on (context o) p ss ls ns (Some ps)

  -- without its mark
  unmarked-inside : (w : Walk) (ss : Same) (ls : Lists) (ns : Named) → AllInside d W on (if is_made w then None else Some w) ss ls ns → AllInside d W on (if is_made w then None else Some (unmarked w)) ss ls ns
  unmarked-inside w ss ls ns h = by (is_made w) h
    where
      by : (b : Bool) → AllInside d W on (if b then None else Some w) ss ls ns → AllInside d W on (if b then None else Some (if b then all_but_last w else w)) ss ls ns
      by true g = g
      by false g = g

  marked-inside : (w : Walk) (ss : Same) (ls : Lists) (ns : Named) → AllInside d W on (if is_made w then None else Some (unmarked w)) ss ls ns → AllInside d W on (if is_made w then None else Some w) ss ls ns
  marked-inside w ss ls ns h = by (is_made w) h
    where
      by : (b : Bool) → AllInside d W on (if b then None else Some (if b then all_but_last w else w)) ss ls ns → AllInside d W on (if b then None else Some w) ss ls ns
      by true g = g
      by false g = g

  unmarked-ends : (w : Walk) (l : Location) → W (unmarked w) → IsSome (schema_at d l) → IsSome (schema_at d (if is_made w then l else last_of w))
  unmarked-ends w l h g = by (is_made w) h
    where
      by : (b : Bool) → W (if b then all_but_last w else w) → IsSome (schema_at d (if b then l else last_of w))
      by true k = g
      by false k = way-ends w k

  steps-unmade : (w : Walk) (k : Location) → HasSteps k → is_made (to_child w k) ≡ false
  steps-unmade w [] h = absurd h
  steps-unmade w (j ∷ js) h = child-unmade w j js

  child-ends : (w : Walk) (k : Location) → W (to_child w k) → IsSome (schema_at d (last_of w ++ k))
  child-ends w k h = subst (λ l. IsSome (schema_at d l)) (last-added w (last_of w ++ k)) (way-ends (to_child w k) h)

  module _ (o : Spot) (st : Stands o) where
    abbrev IsSpot : Spot → Schema → Type 0
    IsSpot u t = Stands u × Fits u t

    pub spot-child : (h : Handed) (k : Location) (t : Schema) → HasSteps k → AreLedTo d W (walk_to (context o) k) t → IsSpot (spot_inside o h k t) t
    spot-child h k (boolean b) steps led = by o.in_made led
      where
        by : (b : Bool) → IsReached W (walk_to (if b then None else Some o.walk) k) → (W (if b then o.walk else to_child o.walk k) × IsSome (schema_at d (if b then o.path else last_of o.walk ++ k))) × Unit {0}
        by true g = (st, tt)
        by false g = ((g, child-ends o.walk k g), tt)
    spot-child h k (object p ss ls ns) steps led = by p.walk led
      where
        at : Option Walk → Spot
        at v = record { handed = h; path = path_by o k v; walk = unwrap_or (option_map unmarked v) (to_child o.walk k); in_made = made_by v }

        Result : Option Walk → Type 0
        Result v = Stands (at v) × (OwnWalk (at v) v p.reference ss × HasReference d (last_of (at v).walk) p.reference × AllInside d W on (context (at v)) ss ls ns)

        below : (b : Bool) → AllLedTo d W on (walk_to (if b then None else Some o.walk) k) None p.reference ss ls ns
            → (W (to_child o.walk k) × IsSome (schema_at d (if b then o.path else last_of o.walk ++ k))) × (HasReference d (last_of (to_child o.walk k)) p.reference × AllInside d W on (Some (to_child o.walk k)) ss ls ns)
        below true g = absurd g.0
        below false g = ((g.0.0, child-ends o.walk k g.0.0), (g.0.1, (g.1, g.2, g.3)))

        by : (v : Option Walk) → AllLedTo d W on (walk_to (context o) k) v p.reference ss ls ns → Result v
        by (Some w) g = ((g.0.0, unmarked-ends w o.path g.0.0 st.1), (inl (refl, refl), g.0.1, unmarked-inside w ss ls ns (g.1, g.2, g.3)))
        by None g = let r = below o.in_made g in (r.0, (inl (refl, steps-unmade o.walk k steps), r.1.0, r.1.1))

    pub branch-among : (ms : Branches) → BranchesLed d W on (context o) ms → (m : Location × Schema) → Contains ms m → HasSteps m.0 × AreLedTo d W (walk_to (context o) m.0) m.1
    branch-among [] h m c = absurd (none_in m c)
    branch-among (x ∷ xs) h m c = elim (first_or_rest x xs m c) [ inl e ↦ subst (λ y. HasSteps y.0 × AreLedTo d W (walk_to (context o) y.0) y.1) e h.0 | inr g ↦ branch-among xs h.1 m g ]

  -- ---- what a row makes in the place of a schema

  made-fits : (o : Spot) (p : Plain) (ss : Same) (ls : Lists) (ns : Named) → Fits o (object p ss ls ns) → (t : Schema) → IsMadeOf d W on (context o) p ss ls ns t → Fits o t
  made-fits o p ss ls ns f (boolean b) h = tt
  made-fits o p ss ls ns f (object q tt' ms os) h = (walks h.0, refers h.1, h.2)
    where
      walks : ((q.walk ≡ p.walk) × ((tt' ≡ ss) ⊎ (tt' ≡ no_same))) ⊎ ((q.walk ≡ None) × (q.reference ≡ None) × (tt' ≡ no_same)) → OwnWalk o q.walk q.reference tt'
      walks (inr e) = inr e
      walks (inl e) = elim f.0 [ inl g ↦ inl (subst (λ v. HasItsWalk o v) (sym e.0) g) | inr g ↦ inr (e.0 ∙ g.0, no-reference h.1 g.1, no-subschemas e.1 g.2) ]
        where
          no-reference : ((q.reference ≡ None) ⊎ (q.reference ≡ p.reference)) → p.reference ≡ None → q.reference ≡ None
          no-reference (inl x) y = x
          no-reference (inr x) y = x ∙ y

          no-subschemas : ((tt' ≡ ss) ⊎ (tt' ≡ no_same)) → ss ≡ no_same → tt' ≡ no_same
          no-subschemas (inl x) y = x ∙ y
          no-subschemas (inr x) y = x

      refers : ((q.reference ≡ None) ⊎ (q.reference ≡ p.reference)) → HasReference d (last_of o.walk) q.reference
      refers (inl e) = subst (λ x. HasReference d (last_of o.walk) x) (sym e) tt
      refers (inr e) = subst (λ x. HasReference d (last_of o.walk) x) (sym e) f.1

  -- ---- merges

  module _ (targets : TargetsAreBare d) (elsewhere : LeadsElsewhere d) (most n : ℕ) where
    abbrev Merged : Outcome Schema → Type 0
    Merged m = TellsWalks W (AreLedTo d W None) m × DepthIsDeep most m

    module _ (o : Spot) (st : Stands o) where
      -- with the walk of the spot, where it has none
      carried-leads : (v : Option Walk) (q : Option (List ℕ)) (ss : Same) (ls : Lists) (ns : Named) → HasItsWalk o v → HasReference d (last_of o.walk) q → AllInside d W on (context o) ss ls ns
          → AllLedTo d W on None (Some (unwrap_or v o.walk)) q ss ls ns
      carried-leads None q ss ls ns h r g =
          let k : AllInside d W on (Some o.walk) ss ls ns = subst (λ b. AllInside d W on (if b then None else Some o.walk) ss ls ns) h.0 g in
          subst (λ b. IsLedTo d W (Some (if b then all_but_last o.walk else o.walk)) q × LedToSame d W (if b then None else Some o.walk) ss × LedToLists d W (if b then None else Some o.walk) ls × LedToNamed d W (if b then None else Some o.walk) ns)
          (sym h.1) ((st.0, r), k.0, k.1, k.2)
      carried-leads (Some w) q ss ls ns h r g =
          let k : AllInside d W on (if is_made w then None else Some (unmarked w)) ss ls ns = subst (λ b. AllInside d W on (if b then None else Some (unmarked w)) ss ls ns) (sym h.1) (subst (λ x. AllInside d W on (if o.in_made then None else Some x) ss ls ns) (sym h.0) g) in
          let m : AllInside d W on (if is_made w then None else Some w) ss ls ns = marked-inside w ss ls ns k in
          (subst (λ x. IsLedTo d W (Some x) q) (sym h.0) (st.0, r), m.0, m.1, m.2)

      own-is : (v : Option Walk) → HasItsWalk o v → unmarked (unwrap_or v o.walk) ≡ o.walk
      own-is None h = ap (λ b. if b then all_but_last o.walk else o.walk) h.1
      own-is (Some w) h = h.0

      context-is : (w : Walk) → w ≡ o.walk → IsOf d W on (context o) w
      context-is w e = by o.in_made
        where
          by : (b : Bool) → IsOf d W on (if b then None else Some o.walk) w
          by true = tt
          by false = sym e

      member-carried : (k : Location) (t : Schema) → HasSteps k → AreLedTo d W (walk_to (context o) k) t → AreLedTo d W None (carried (walk_inside o k t) t)
      member-carried k (boolean b) steps led = tt
      member-carried k (object p ss ls ns) steps led = by p.walk led
        where
          below : (b : Bool) → AllLedTo d W on (walk_to (if b then None else Some o.walk) k) None p.reference ss ls ns → AllLedTo d W on (Some (to_child o.walk k)) None p.reference ss ls ns
          below true g = absurd g.0
          below false g = g

          by : (v : Option Walk) → AllLedTo d W on (walk_to (context o) k) v p.reference ss ls ns → AllLedTo d W on None (Some (unwrap_or v (unwrap_or (option_map unmarked v) (to_child o.walk k)))) p.reference ss ls ns
          by (Some w) g = g
          by None g =
              subst (λ b. IsLedTo d W (Some (if b then all_but_last (to_child o.walk k) else to_child o.walk k)) p.reference × LedToSame d W (if b then None else Some (to_child o.walk k)) ss × LedToLists d W (if b then None else Some (to_child o.walk k)) ls × LedToNamed d W (if b then None else Some (to_child o.walk k)) ns)
              (sym (steps-unmade o.walk k steps)) (below o.in_made g)

      module _ (p : Plain) (ss : Same) (ls : Lists) (ns : Named) (own : HasItsWalk o p.walk) (r : HasReference d (last_of o.walk) p.reference) (inside : AllInside d W on (context o) ss ls ns) where
        members-carried : (ps : List Part) → AreLedMembers d W on (context o) p ss ls ns ps → LedToAll d W (λ i. None) (carried_parts o ps)
        members-carried [] h = tt
        members-carried (child k t ∷ ps) h = (member-carried k t h.0.0 h.0.1, members-carried ps h.1)
        members-carried (of_branch k t ∷ ps) h = absurd h.0
        members-carried (lone k t ∷ ps) h = absurd h.0
        members-carried (made t ∷ ps) h = absurd h.0

        several : (ps : List Part) → AreLedMembers d W on (context o) p ss ls ns ps → Merged (merge_by_walks d most n (carried_parts o ps))
        several ps h = (several-kept d W on targets elsewhere most n (carried_parts o ps) (members-carried ps h), (depth_has_its_walk d most n).gathers (carried_parts o ps))

        unreferred : (ps : List Part) → AreMergedLed d W on (context o) p ss ls ns ps → Merged (without_reference d most n o p ss ls ns ps)
        unreferred [] h = several [] tt
        unreferred (child k t ∷ ps) h = several (child k t ∷ ps) h
        unreferred (of_branch k t ∷ ps) h = absurd h
        unreferred (lone k t ∷ ps) h = absurd h
        unreferred (made b ∷ ps) h =
            let s : Schema = carried o.walk (object p no_same ls ns) in (
              with-kept d W on targets elsewhere most n s ss (context o) (context-is (walk_of s) (own-is p.walk own)) (carried-leads p.walk p.reference no_same ls ns own r (tt, inside.1, inside.2))
                  (subst (λ w. W w) (sym (own-is p.walk own)) st.0) inside.0,
              (depth_has_its_walk d most n).with_all s ss,
            )

        by-target : (q : List ℕ) → p.reference ≡ Some q → (t : Option Schema) → target d q ≡ t → Merged (with_target d most n o q t (carried o.walk (object (less_reference p) ss ls ns)))
        by-target q e None f = (tt, tt)
        by-target q e (Some t) f =
            let s : Schema = carried o.walk (object (less_reference p) ss ls ns) in
            let u : Schema = on_walk (to_target o.walk (target_location d q)) t in (
              join-kept d W on targets elsewhere most n u s (target-leads d W on elsewhere targets o.walk q t (st.0, subst (λ x. HasReference d (last_of o.walk) x) e r) f) (carried-leads p.walk None ss ls ns own tt inside),
              (depth_has_its_walk d most n).joins u s,
            )

        by-reference : (ps : List Part) → AreMergedLed d W on (context o) p ss ls ns ps → (q : Option (List ℕ)) → p.reference ≡ q → Merged (merged_by d most n o p ss ls ns ps q)
        by-reference ps h None e = unreferred ps h
        by-reference ps h (Some q) e = by-target q e (target d q) refl

      merged-row : (s : Schema) (ps : List Part) → Fits o s → IfMergedOf o s ps → Merged (merged_at d most n o s ps)
      merged-row (boolean b) ps f h = (tt, tt)
      merged-row (object p ss ls ns) ps f h = elim f.0 [
        | inl own ↦ by-reference p ss ls ns own f.1 f.2 ps h.0 p.reference refl
        | inr bare ↦ absurd (h.1 bare.1 bare.2)
      ]

  -- ---- the tree

  module _ (targets : TargetsAreBare d) (elsewhere : LeadsElsewhere d) (r : Relations) (most : ℕ) where
    abbrev StateFits : Spot → State → Type 0
    StateFits o too_few_levels = Unit {0}
    StateFits o too_many_steps = has_more_steps most o.walk ≡ true
    StateFits o (converted None) = Unit {0}
    StateFits o (converted (Some m)) = TellsWalks W (AreLedTo d W None) m × DepthIsDeep most m

    abbrev pub NodeFits : Node → Type 0
    NodeFits t = Stands t.spot × Fits t.spot t.schema × StateFits t.spot t.state

    abbrev pub AllFit : List Node → Type 0
    AllFit ts = AllByRecursion NodeFits ts

    nodes-both : (xs ys : List Node) → AllFit xs → AllFit ys → AllFit (xs ++ ys)
    nodes-both [] ys h g = g
    nodes-both (x ∷ xs) ys h g = (h.0, nodes-both xs ys h.1 g)

    abbrev tree : ℕ → Spot → Schema → List Node
    tree n o s = tree_at r d most n o s

    abbrev Claim : ℕ → Type 0
    Claim n = (o : Spot) (s : Schema) → Stands o → Fits o s → AllFit (tree n o s)

    module _ (n : ℕ) (rec : Claim n) (o : Spot) (st : Stands o) where
      -- what stands in the place of a schema that is merged
      standing-object : (s : Schema) (q : Plain) (ss : Same) (ls : Lists) (ns : Named) → AreLedTo d W None (object q ss ls ns) → (p : Option Plain) → AllFit (standing_tree r d most (λ o s. tree n o s) (Some (answered_as o s p (object q ss ls ns))))
      standing-object s q ss ls ns h None = let k = placed q.walk h in rec (record o { walk = own_walk q; in_made = is_made_schema (object q ss ls ns) }) (object q ss ls ns) k.0 k.1
        where
          at : Option Walk → Spot
          at v = record o { walk = unwrap_or (option_map unmarked v) root_walk; in_made = made_by v }

          placed : (v : Option Walk) → AllLedTo d W on None v q.reference ss ls ns → Stands (at v) × (OwnWalk (at v) v q.reference ss × HasReference d (last_of (at v).walk) q.reference × AllInside d W on (context (at v)) ss ls ns)
          placed None g = absurd g.0
          placed (Some w) g = ((g.0.0, st.1), (inl (refl, refl), g.0.1, unmarked-inside w ss ls ns (g.1, g.2, g.3)))
      standing-object s q ss ls ns h (Some p) = let k = placed q.walk h in rec (record o { walk = own_walk q; in_made = is_made_schema (object q ss ls ns) }) (annotated p (object q ss ls ns)) k.0 k.1
        where
          at : Option Walk → Spot
          at v = record o { walk = unwrap_or (option_map unmarked v) root_walk; in_made = made_by v }

          placed : (v : Option Walk) → AllLedTo d W on None v q.reference ss ls ns → Stands (at v) × (OwnWalk (at v) v q.reference ss × HasReference d (last_of (at v).walk) q.reference × AllInside d W on (context (at v)) ss ls ns)
          placed None g = absurd g.0
          placed (Some w) g = ((g.0.0, st.1), (inl (refl, refl), g.0.1, unmarked-inside w ss ls ns (g.1, g.2, g.3)))

      standing : (s : Schema) (m : Outcome Schema) → TellsWalks W (AreLedTo d W None) m → AllFit (standing_tree r d most (λ o s. tree n o s) (instead o s m))
      standing s (fault f) h = tt
      standing s (never ns) h = rec (record o { handed = Some (named_by o.handed s) }) (boolean false) st tt
      standing s (answer ns (boolean b)) h = rec (record o { handed = Some (named_by o.handed s) }) (boolean b) st tt
      standing s (answer ns (object q ss ls os)) h = standing-object s q ss ls os h (plain_of s)

      deep-branches : (ms : Branches) → BranchesLed d W on (context o) ms → AllFit (deep_branches r d most o ms)
      deep-branches [] h = tt
      deep-branches (m ∷ ms) h = by (has_more_steps most (walk_inside o m.0 m.1)) refl (spot-child o st None m.0 m.1 h.0.0 h.0.1) (deep-branches ms h.1)
        where
          by : (b : Bool) → has_more_steps most (walk_inside o m.0 m.1) ≡ b → Stands (spot_inside o None m.0 m.1) × Fits (spot_inside o None m.0 m.1) m.1 → AllFit (deep_branches r d most o ms)
              → AllFit (elim b [ true ↦ cut too_many_steps (spot_inside o None m.0 m.1) m.1 ∷ deep_branches r d most o ms | false ↦ deep_branches r d most o ms ])
          by true e c g = ((c.0, c.1, e), g)
          by false e c g = g

      -- inside a branch that is an object its spot's context counts
      branch-context : (k : Location) (b : Schema) (j : Location) (t : Schema) → IsObject b → AreLedTo d W (walk_to (context o) k) b → AreLedTo d W (walk_to (walk_on (walk_to (context o) k) (walk_in b)) j) t
          → AreLedTo d W (walk_to (context (spot_inside o None k b)) j) t
      branch-context k (boolean b) j t x led h = absurd x
      branch-context k (object p ss ls ns) j t x led h = by p.walk led.0 h
        where
          below : (b : Bool) → IsLedTo d W (walk_to (if b then None else Some o.walk) k) p.reference → AreLedTo d W (walk_to (walk_to (if b then None else Some o.walk) k) j) t → AreLedTo d W (Some (to_child (to_child o.walk k) j)) t
          below true g i = absurd g
          below false g i = i

          at : (w : Walk) (b : Bool) → AreLedTo d W (walk_to (if b then None else Some w) j) t → AreLedTo d W (walk_to (if b then None else Some (if b then all_but_last w else w)) j) t
          at w true g = g
          at w false g = g

          by : (v : Option Walk) → IsLedTo d W (walk_or (walk_to (context o) k) v) p.reference → AreLedTo d W (walk_to (walk_on (walk_to (context o) k) v) j) t
              → AreLedTo d W (walk_to (if made_by v then None else Some (unwrap_or (option_map unmarked v) (to_child o.walk k))) j) t
          by None g i = below o.in_made g i
          by (Some w) g i = at w (is_made w) i

      module _ (p : Plain) (ss : Same) (ls : Lists) (ns : Named) (f : Fits o (object p ss ls ns)) (ms : Branches) (led : BranchesLed d W on (context o) ms) (found : Found ms) where
        part-told : (q : Part) → IsLedPart d W on (context o) p ss ls ns ms q → AllFit (tree n (part_spot o ms q) (part_schema q))
        part-told (child k t) h = let s = spot-child o st None k t h.0 h.1 in rec (spot_inside o None k t) t s.0 s.1
        part-told (of_branch k t) h =
            let m : Location × Schema = h.0 in
            let b : HasSteps m.0 × AreLedTo d W (walk_to (context o) m.0) m.1 = branch-among o st ms led m h.1 in
            let s = spot-child o st None m.0 m.1 b.0 b.1 in
            let c = spot-child (spot_inside o None m.0 m.1) s.0 None (drop 2 k) t h.4 (branch-context m.0 m.1 (drop 2 k) t h.3 b.1 h.5) in
            let e : branch_at (take 2 k) ms ≡ m.1 = ap (λ l. branch_at l ms) h.2 ∙ found m h.1 in
            subst (λ u. AllFit (tree n (spot_inside u None (drop 2 k) t) t)) (λ i. spot_inside o None (sym h.2 i) (sym e i)) (rec (spot_inside (spot_inside o None m.0 m.1) None (drop 2 k) t) t c.0 c.1)
        part-told (lone k t) h = let s = spot-child o st o.handed k t h.0 h.1 in rec (spot_inside o o.handed k t) t s.0 s.1
        part-told (made t) h = rec o t st (made-fits o p ss ls ns f t h)

        parts-told : (qs : List Part) → AreLedParts d W on (context o) p ss ls ns ms qs → AllFit (parts_trees r d most (λ o s. tree n o s) o ms qs)
        parts-told [] h = tt
        parts-told (q ∷ qs) h = nodes-both (tree n (part_spot o ms q) (part_schema q)) (parts_trees r d most (λ o s. tree n o s) o ms qs) (part-told q h.0) (parts-told qs h.1)

        -- what a node comes to, and what is below it
        node-fits : (row : Row) → AreLedParts d W on (context o) p ss ls ns ms (row_parts row) → (ps : Option (List Part)) → IfMergedLed d W on (context o) p ss ls ns ps
            → StateFits o (converted (merge_of r d most n o (object p ss ls ns) ps)) × AllFit (below r d most n (λ o s. tree n o s) o (object p ss ls ns) ms row ps)
        node-fits row h None g = (tt, nodes-both (deep_branches r d most o ms) (parts_trees r d most (λ o s. tree n o s) o ms (row_parts row)) (deep-branches ms led) (parts-told (row_parts row) h))
        node-fits row h (Some ps) g =
            let m : Merged targets elsewhere most n (merged_at d most n o (object p ss ls ns) ps) = merged-row targets elsewhere most n o st (object p ss ls ns) ps f g in
            (m, standing (object p ss ls ns) (merged_at d most n o (object p ss ls ns) ps) m.0)

    claims : (n : ℕ) → Claim n
    claims zero o s st f = ((st, f, tt), tt)
    claims (suc n) o (boolean true) st f = by (has_more_steps most o.walk) refl
      where
        by : (b : Bool) → has_more_steps most o.walk ≡ b → AllFit (elim b [
          | true ↦ cut too_many_steps o (boolean true) ∷ []
          | false ↦ record { spot = o; schema = boolean true; entry = entry_at r d most (suc n) o (boolean true); state = converted (merge_of r d most n o (boolean true) (if_merged (row_of r d (boolean true)))) }
              ∷ below r d most n (λ o s. tree_at r d most n o s) o (boolean true) (finding_of r d (boolean true)).branches (row_of r d (boolean true)) (if_merged (row_of r d (boolean true)))
        ])
        by true e = ((st, tt, e), tt)
        by false e = ((st, tt, tt), tt)
    claims (suc n) o (boolean false) st f = by (has_more_steps most o.walk) refl
      where
        by : (b : Bool) → has_more_steps most o.walk ≡ b → AllFit (elim b [
          | true ↦ cut too_many_steps o (boolean false) ∷ []
          | false ↦ record { spot = o; schema = boolean false; entry = entry_at r d most (suc n) o (boolean false); state = converted (merge_of r d most n o (boolean false) (if_merged (row_of r d (boolean false)))) }
              ∷ below r d most n (λ o s. tree_at r d most n o s) o (boolean false) (finding_of r d (boolean false)).branches (row_of r d (boolean false)) (if_merged (row_of r d (boolean false)))
        ])
        by true e = ((st, tt, e), tt)
        by false e = ((st, tt, tt), tt)
    claims (suc n) o (object p ss ls ns) st f = by (claims n) (has_more_steps most o.walk) refl
      where
        found : IsLedFinding d W on (context o) p ss ls ns (finding_of r d (object p ss ls ns))
        found = finding-led d W on (context o) p ss ls ns f.2 r

        by : Claim n → (b : Bool) → has_more_steps most o.walk ≡ b → AllFit (elim b [
          | true ↦ cut too_many_steps o (object p ss ls ns) ∷ []
          | false ↦ record { spot = o; schema = object p ss ls ns; entry = entry_at r d most (suc n) o (object p ss ls ns); state = converted (merge_of r d most n o (object p ss ls ns) (if_merged (row_of r d (object p ss ls ns)))) }
              ∷ below r d most n (λ o s. tree_at r d most n o s) o (object p ss ls ns) (finding_of r d (object p ss ls ns)).branches (row_of r d (object p ss ls ns)) (if_merged (row_of r d (object p ss ls ns)))
        ])
        by rec true e = ((st, f, e), tt)
        by rec false e =
            let k = node-fits n rec o st p ss ls ns f (finding_of r d (object p ss ls ns)).branches found.0.0 found.0.1 (row_of r d (object p ss ls ns)) found.1 (if_merged (row_of r d (object p ss ls ns))) found.2 in
            ((st, f, k.0), k.1)

    -- a schema of the document, at its place
    placed : (h : Handed) (l : Location) (s : Schema) → schema_at d l ≡ Some s → EachSchema IsBare of_any_size s → let o : Spot = record { handed = h; path = l; walk = l ∷ []; in_made = false } in Stands o × Fits o s
    placed h l (boolean b) e bare = ((ap is_some e, ap is_some e), tt)
    placed h l (object p ss ls ns) e bare =
        let o : Spot = record { handed = h; path = l; walk = l ∷ []; in_made = false } in
        let k : IsLedTo d W (Some (l ∷ [])) p.reference × LedToSame d W (Some (l ∷ [])) ss × LedToLists d W (Some (l ∷ [])) ls × LedToNamed d W (Some (l ∷ [])) ns = stands-object d W on (l ∷ []) p ss ls ns (ap is_some e) e bare in
        ((ap is_some e, ap is_some e), (inl (subst (λ v. HasItsWalk o v) (sym bare.0.0) (refl, refl)), k.0.1, (k.1, k.2, k.3)))

    definitions-fit : (whole : ℕ) (es : List Definition) → AllByRecursion (λ e. EachSchema IsBare of_any_size e.body × (defined e.name d.definitions ≡ Some e)) es → AllFit (definition_trees r d most whole es)
    definitions-fit whole [] h = tt
    definitions-fit whole (e ∷ es) h =
        let k = placed (Some e.name) (definition_location e) e.body (definition-stands d e h.0.1) h.0.0 in
        nodes-both (tree whole (definition_spot r d most whole e) e.body) (definition_trees r d most whole es) (claims whole (definition_spot r d most whole e) e.body k.0 k.1) (definitions-fit whole es h.1)

    pub document-fits : IsBareDocument d → (whole : ℕ) → AllFit (document_tree r d most whole)
    document-fits bare whole =
        let k = placed (Some (root_name d.root)) [] d.root refl bare.root in
        nodes-both (definition_trees r d most whole d.definitions) (tree_at r d most whole (root_spot r d most whole) d.root) (definitions-fit whole d.definitions bare.definitions) (claims whole (root_spot r d most whole) d.root k.0 k.1)

    -- ---- what is told of it

    module _ (whole : ℕ) where
      abbrev Told : List (Location × Reason) → Type 0
      Told fs = AllByRecursion (IsToldInside d most) fs

      all-both : (xs ys : List (Location × Reason)) → Told xs → Told ys → Told (xs ++ ys)
      all-both [] ys h g = g
      all-both (x ∷ xs) ys h g = (h.0, all-both xs ys h.1 g)

      rows-told : (l : Location) (cs : List Cause) → IsSome (schema_at d l) → Told (map (λ c. (l, by_row c)) cs)
      rows-told l [] h = tt
      rows-told l (c ∷ cs) h = (h, rows-told l cs h)

      deep-told : (w : Walk) → W w → has_more_steps most w ≡ true → IsToldInside d most (last_of w, too_deep w)
      deep-told w h e = (way-ends w h, h, ltb-true (suc most) (length w) e)

      state-told : (o : Spot) (s : Schema) (t : State) → Stands o → StateFits o t → Told (state_faults r d most whole o s t)
      state-told o s too_few_levels st h = (st.1, tt)
      state-told o s too_many_steps st h = (deep-told o.walk st.0 h, tt)
      state-told o s (converted None) st h = rows-told o.path (finding_faults r d most (finding_of r d s)) st.1
      state-told o s (converted (Some (fault (depth [])))) st h = (st.1, tt)
      state-told o s (converted (Some (fault (depth (l ∷ w))))) st h = (deep-told (l ∷ w) h.0 h.1, tt)
      state-told o s (converted (Some (fault (unsupported u)))) st h = (st.1, tt)
      state-told o s (converted (Some (never ns))) st h = tt
      state-told o s (converted (Some (answer ns m))) st h = tt

      pub all-told : (ts : List Node) → AllFit ts → Told (faults_in r d most whole ts)
      all-told [] h = tt
      all-told (t ∷ ts) h = all-both (state_faults r d most whole t.spot t.schema t.state) (faults_in r d most whole ts) (state-told t.spot t.schema t.state h.0.0 h.0.2) (all-told ts h.1)

pub faults_told_inside : (d : Document) → LeadsElsewhere d → IsBareDocument d → (r : Relations) (most n : ℕ) → AllByRecursion (IsToldInside d most) (faults_of r d most n)
faults_told_inside d elsewhere bare r most n = all-told d bare.targets elsewhere r most n (document_tree r d most n) (document-fits d bare.targets elsewhere r most bare n)

pub faults_are_inside : FaultsAreInside
faults_are_inside r d most n guarded bare = faults_told_inside d (guarded-leads-elsewhere d guarded) bare r most n

module _ (d : Document) (targets : TargetsAreBare d) (elsewhere : LeadsElsewhere d) (r : Relations) (most : ℕ) where
  spots-inside : (ts : List Node) → AllFit d targets elsewhere r most ts → AllByRecursion (λ t. IsSome (schema_at d t.spot.path) × IsWay d t.spot.walk) ts
  spots-inside [] h = tt
  spots-inside (t ∷ ts) h = ((h.0.0.1, h.0.0.0), spots-inside ts h.1)

pub trees_are_inside : TreesAreInside
trees_are_inside r d most n guarded bare =
    let elsewhere : LeadsElsewhere d = guarded-leads-elsewhere d guarded in
    spots-inside d bare.targets elsewhere r most (document_tree r d most n) (document-fits d bare.targets elsewhere r most bare n)

-- ---- where references have no cycle

module _ (d : Document) (none : HasNoCycle d) where
  elsewhere-without-cycle : LeadsElsewhere d
  elsewhere-without-cycle l t = none l (l ∷ []) (inr (refl, t), ap is_some t.2) (first_in l [])

  way-bounded : (w : Walk) → IsWay d w → length w ≤ nodes d
  way-bounded [] h = absurd h
  way-bounded (l ∷ ls) h = omega (arith, bounded d none l ls (document_places d) h (all-stand d l ls h), as_many_as_schemas d)

  module _ (most : ℕ) (enough : nodes d ≤ suc most) where
    not-deep : (l : Location) (x : Reason) → IsToldInside d most (l, x) → IsNotDeep (l, x)
    not-deep l (by_row c) h = tt
    not-deep l (by_merge u) h = tt
    not-deep l by_levels h = tt
    not-deep l (too_deep w) h = absurd (omega (arith, way-bounded w h.1, h.2, enough))

    all-not-deep : (fs : List (Location × Reason)) → AllByRecursion (IsToldInside d most) fs → AllByRecursion IsNotDeep fs
    all-not-deep [] h = tt
    all-not-deep (f ∷ fs) h = (not-deep f.0 f.1 h.0, all-not-deep fs h.1)

pub nodes_are_enough : NodesAreEnough
nodes_are_enough r d most n none bare enough = all-not-deep d none most enough (faults_of r d most n) (faults_told_inside d (elsewhere-without-cycle d none) bare r most n)
