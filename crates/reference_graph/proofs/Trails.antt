-- What a search has found, and what it finds next.
use Rattle.std.proofs.Common.{◌≡◌, ℕ, ◌+◌, ◌<◌, ◌≢◌, List, [], ◌∷◌, ◌++◌, length, get_or, set, reverse, Bool, true, false, cond, refl, sym, ap, ◌∙◌, subst, inl, inr, arith, below_more, length-append}
use Rattle.std.specs.Prelude.{◌⊎◌, Contains, not, count_by}
use Rattle.std.proofs.lemmas.List.{get_or_append_left, get_or_push, get_or-set_same, get_or-set_other, get_or_default, length-set, reverse-append}
use Rattle.std.proofs.lemmas.List.Elements.{Contains-push, Contains-append_left}
use Rattle.std.proofs.lemmas.List.Sums.{sum_by-set}
use Rattle.std.proofs.lemmas.Bool.{cases_lt, cases_eq, false≢true}
use Rattle.reference_graph.specs.Graph.{Graph, Refers, Leads, one_step, more_steps, GoesRound, IsLoopFrom}
use Rattle.reference_graph.specs.declared.search.Trail.{Trail}
use Rattle.reference_graph.specs.Trail.{node_at, parent_at, is_found, IsTrail, Extends, IsMet, IsDone}
use Rattle.reference_graph.proofs.Routes.{leads_past}

-- ---- one more node

pushed_old : (xs ys : List ℕ) (x k : ℕ) → ys ≡ xs ++ x ∷ [] → k < length xs → get_or ys k 0 ≡ get_or xs k 0
pushed_old xs ys x k e h = ap (λ zs. get_or zs k 0) e ∙ get_or_append_left xs (x ∷ []) 0 k h

pushed_new : (xs ys : List ℕ) (x k : ℕ) → ys ≡ xs ++ x ∷ [] → length xs ≡ k → get_or ys k 0 ≡ x
pushed_new xs ys x k e h = ap (λ zs. get_or zs k 0) e ∙ get_or_push xs x 0 k h

pushed_length : (xs ys : List ℕ) (x : ℕ) → ys ≡ xs ++ x ∷ [] → length ys ≡ length xs + 1
pushed_length xs ys x e = omega (arith, ap length e, length-append xs (x ∷ []))

-- an old place, or the new one
places : (n k : ℕ) → k < n + 1 → (k < n) ⊎ (n ≡ k)
places n k h = elim (cases_lt k n) [ inl l ↦ inl l | inr m ↦ inr (omega arith) ]

marked_count : (fs : List Bool) (i : ℕ) → i < length fs → get_or fs i false ≡ false → count_by not (set fs i true) + 1 ≡ count_by not fs
marked_count fs i h e =
    let s : count_by not (set fs i true) + cond (not (get_or fs i false)) 1 0 ≡ count_by not fs + 0 = sum_by-set (λ x. cond (not x) 1 0) fs i true false h in
    let s' : count_by not (set fs i true) + 1 ≡ count_by not fs + 0 = subst (λ b. count_by not (set fs i true) + cond (not b) 1 0 ≡ count_by not fs + 0) e s in
    omega arith

-- what holds where a node was added to a trail
pub record Added (old new : Trail) (node parent : ℕ) : Type 0 where
  pub nodes : new.nodes.items ≡ old.nodes.items ++ node ∷ []
  pub parents : new.parents.items ≡ old.parents.items ++ parent ∷ []
  pub found : new.found.items ≡ set old.found.items node true

module _ (g : Graph) (start : ℕ) (t u : Trail) (node parent : ℕ) (trail : IsTrail g start t) (added : Added t u node parent)
    (is_node : node < length g) (fresh : is_found t node ≡ false) (is_place : parent < length t.nodes.items) (referred : Refers g (node_at t parent) node) where
  longer : length u.nodes.items ≡ length t.nodes.items + 1
  longer = pushed_length t.nodes.items u.nodes.items node added.nodes

  longer_parents : length u.parents.items ≡ length t.parents.items + 1
  longer_parents = pushed_length t.parents.items u.parents.items parent added.parents

  old_node : (k : ℕ) → k < length t.nodes.items → node_at u k ≡ node_at t k
  old_node k h = pushed_old t.nodes.items u.nodes.items node k added.nodes h

  new_node : (k : ℕ) → length t.nodes.items ≡ k → node_at u k ≡ node
  new_node k h = pushed_new t.nodes.items u.nodes.items node k added.nodes h

  old_parent : (k : ℕ) → k < length t.nodes.items → parent_at u k ≡ parent_at t k
  old_parent k h = let e = trail.climb.paired in pushed_old t.parents.items u.parents.items parent k added.parents (omega arith)

  new_parent : (k : ℕ) → length t.nodes.items ≡ k → parent_at u k ≡ parent
  new_parent k h = let e = trail.climb.paired in pushed_new t.parents.items u.parents.items parent k added.parents (omega arith)

  place_of : (k : ℕ) → k < length u.nodes.items → (k < length t.nodes.items) ⊎ (length t.nodes.items ≡ k)
  place_of k h = let e = longer in places (length t.nodes.items) k (omega arith)

  still : (j : ℕ) → is_found t j ≡ true → is_found u j ≡ true
  still j h = elim (cases_eq j node) [
    | inl e ↦ absurd (false≢true (sym fresh ∙ ap (λ i. is_found t i) (sym e) ∙ h))
    | inr ne ↦ ap (λ xs. get_or xs j false) added.found ∙ get_or-set_other t.found.items node j true false ne ∙ h
  ]

  pub now_found : is_found u node ≡ true
  now_found = let e = trail.sized in ap (λ xs. get_or xs node false) added.found ∙ get_or-set_same t.found.items node true false (omega arith)

  listed_still : (j : ℕ) → is_found u j ≡ true → Contains u.nodes.items j
  listed_still j h =
      subst (λ xs. Contains xs j) (sym added.nodes)
      (elim (cases_eq j node) [
        | inl e ↦ subst (λ i. Contains (t.nodes.items ++ node ∷ []) i) (sym e) (Contains-push t.nodes.items node)
        | inr ne ↦
            Contains-append_left t.nodes.items (node ∷ []) j
            (trail.listed j (sym (ap (λ xs. get_or xs j false) added.found ∙ get_or-set_other t.found.items node j true false ne) ∙ h))
      ])

  linked_still : (k : ℕ) → 0 < k → k < length u.nodes.items → Refers g (node_at u (parent_at u k)) (node_at u k)
  linked_still k p h = elim (place_of k h) [
    | inl l ↦
        let q = trail.climb.earlier k p l in
        let e : node_at t (parent_at t k) ≡ node_at u (parent_at u k) = sym (ap (λ i. node_at u i) (old_parent k l) ∙ old_node (parent_at t k) (omega arith)) in
        let f : node_at t k ≡ node_at u k = sym (old_node k l) in
        subst (λ i. Refers g i (node_at u k)) e (subst (λ i. Refers g (node_at t (parent_at t k)) i) f (trail.linked k p l))
    | inr l ↦
        let e : node_at t parent ≡ node_at u (parent_at u k) = sym (ap (λ i. node_at u i) (new_parent k l) ∙ old_node parent is_place) in
        let f : node ≡ node_at u k = sym (new_node k l) in
        subst (λ i. Refers g i (node_at u k)) e (subst (λ i. Refers g (node_at t parent) i) f referred)
  ]

  earlier_still : (k : ℕ) → 0 < k → k < length u.nodes.items → parent_at u k < k
  earlier_still k p h = elim (place_of k h) [
    | inl l ↦ let e = old_parent k l in let q = trail.climb.earlier k p l in omega arith
    | inr l ↦ let e = new_parent k l in omega arith
  ]

  within_still : (k : ℕ) → k < length u.nodes.items → node_at u k < length g
  within_still k h = elim (place_of k h) [
    | inl l ↦ let e = old_node k l in let q = trail.within k l in omega arith
    | inr l ↦ let e = new_node k l in omega arith
  ]

  pub trail_still : IsTrail g start u
  trail_still = record {
    climb = record {
      paired = let a = longer in let b = longer_parents in let e = trail.climb.paired in omega arith;
      earlier = earlier_still;
    };
    rooted = old_node 0 trail.filled ∙ trail.rooted;
    filled = let a = longer in omega arith;
    within = within_still;
    linked = linked_still;
    listed = listed_still;
    sized = ap length added.found ∙ length-set t.found.items node true ∙ trail.sized;
    room =
        let a = longer in
        let s = trail.sized in
        let r = trail.room in
        let e = ap (λ xs. count_by not xs) added.found in
        let m = marked_count t.found.items node (omega arith) fresh in
        omega arith;
  }

  pub extends_still : Extends t u
  extends_still = record {
    longer = let a = longer in omega arith;
    same = old_node;
    still_found = still;
  }

-- ---- what stays

pub extends_itself : (t : Trail) → Extends t t
extends_itself t = record { longer = omega arith; same = λ k h. refl; still_found = λ j h. h }

pub extends_on : (s t u : Trail) → Extends s t → Extends t u → Extends s u
extends_on s t u a b = record {
  longer = let x = a.longer in let y = b.longer in omega arith;
  same = λ k h. let x = a.longer in b.same k (omega arith) ∙ a.same k h;
  still_found = λ j h. b.still_found j (a.still_found j h);
}

pub met_still : (g : Graph) (start : ℕ) (t u : Trail) (j : ℕ) → Extends t u → IsMet g start t j → IsMet g start u j
met_still g start t u j x m = (m.0, elim m.1 [ inl f ↦ inl (x.still_found j f) | inr l ↦ inr l ])

pub done_still : (g : Graph) (start : ℕ) (t u : Trail) (k : ℕ) → Extends t u → k < length t.nodes.items → IsDone g start t k → IsDone g start u k
done_still g start t u k x h d j r = met_still g start t u j x (d j (subst (λ i. Refers g i j) (x.same k h) r))

-- ---- a search that is done

module _ (g : Graph) (start : ℕ) (t : Trail) (trail : IsTrail g start t) (done : (k : ℕ) → k < length t.nodes.items → IsDone g start t k) where
  met : (i j : ℕ) → Contains t.nodes.items i → Refers g i j → IsMet g start t j
  met i j c r = done c.0 c.1 j (subst (λ x. Refers g x j) (sym (get_or_default t.nodes.items c.0 0 i c.1 ∙ c.2)) r)

  never_back : (i j : ℕ) → Contains t.nodes.items i → Leads g i j → j ≢ start
  never_back _ _ c (one_step i j r) = (met i j c r).0
  never_back _ _ c (more_steps i j k r w) = elim (met i j c r).1 [
    | inl f ↦ never_back j k (trail.listed j f) w
    | inr l ↦ absurd (leads_past g j k l w)
  ]

  start_listed : Contains t.nodes.items start
  start_listed = (0, trail.filled, get_or_default t.nodes.items 0 start 0 trail.filled ∙ trail.rooted)

  pub no_way_back : ¬ (Leads g start start)
  no_way_back w = never_back start start start_listed w refl

-- ---- the way back up

-- one step up from a place, where the way from there on is known
pub goes_up : (g : Graph) (start : ℕ) (t : Trail) (place : ℕ) (path further : List ℕ) → IsTrail g start t → 0 < place → place < length t.nodes.items
    → further ≡ path ++ node_at t place ∷ [] → GoesRound g start (node_at t place) (reverse path) → GoesRound g start (node_at t (parent_at t place)) (reverse further)
goes_up g start t place path further trail p h e w =
    let f : reverse further ≡ node_at t place ∷ reverse path = ap reverse e ∙ reverse-append path (node_at t place ∷ []) in
    subst (λ js. GoesRound g start (node_at t (parent_at t place)) js) (sym f) (trail.linked place p h, w)

-- the way from the first node is a loop
pub goes_all : (g : Graph) (start : ℕ) (t : Trail) (path all turned : List ℕ) → IsTrail g start t
    → all ≡ path ++ node_at t 0 ∷ [] → turned ≡ reverse all → GoesRound g start (node_at t 0) (reverse path) → IsLoopFrom g start turned
goes_all g start t path all turned trail e f w = (
  reverse path,
  f ∙ ap reverse e ∙ reverse-append path (node_at t 0 ∷ []) ∙ ap (λ i. i ∷ reverse path) trail.rooted,
  subst (λ i. GoesRound g start i (reverse path)) trail.rooted w,
)

-- ---- the nodes of a row, one after the other

-- t is a trail that extends s, and the first i nodes of the row are met in it
abbrev pub Passes : Graph → ℕ → Trail → List ℕ → Trail → ℕ → Type 0
Passes g start s row t i = IsTrail g start t × Extends s t × ((k : ℕ) → k < i → IsMet g start t (get_or row k 0))

pub passes_more : (g : Graph) (start : ℕ) (s : Trail) (row : List ℕ) (t u : Trail) (i : ℕ) → Passes g start s row t i
    → IsTrail g start u → Extends t u → IsMet g start u (get_or row i 0) → Passes g start s row u (i + 1)
passes_more g start s row t u i p trail extends here = (
  trail,
  extends_on s t u p.1 extends,
  below_more (λ k. IsMet g start u (get_or row k 0)) i (λ k h. met_still g start t u (get_or row k 0) extends (p.2 k h)) here,
)
