-- The graph of what is asked has no loop exactly where no item reaches itself at one value.
use Rattle.std.proofs.Common.{◌≡◌, ◌↔◌, ℕ, zero, suc, ◌≤◌, List, [], ◌∷◌, map, Bool, true, false, ◌||◌, cond, Option, Some, None, is_some, slice_get, Contains, option_map, slice_index, refl, sym, ap, subst, ◌∙◌, true≢false, ⊎_elim, bytes_eq, arith}
use Rattle.std.specs.List.{cons_option}
use Rattle.std.specs.Prelude.{IfSome, Vec}
use Rattle.std.specs.declared.alloc.Global.{Global}
use Rattle.std.proofs.lemmas.Slice.Eq.{bytes_eq-Decides}
use Rattle.schema_defs.proofs.Stand.{none_in, first_or_rest, first_in, rest_in}
use Rattle.name_tables.specs.Names.{Names, place_of}
use Rattle.reference_graph.specs.Graph.{Graph, row_of, Refers, Leads, one_step, more_steps, IsAcyclic, IsLoop, StartsLeast}
use Rattle.reference_graph.proofs.Routes.{goes_leads}
use Rattle.model_defs.specs.Model.{ContainerModel, container_named}
use Rattle.model_defs.specs.Reach.{asked_by, is_among, Asks, Reaches, at_once, further, NoneReachesItself}
use Rattle.model_defs.proofs.Flat.{bytes_itself}
use Rattle.value_models.specs.Names.{container_names, at_place}
use Rattle.value_models.proofs.Found.{containers_are_found}
use Rattle.value_kinds.specs.Rounds.{places_of, asked_places, asked_graph}
use Rattle.value_kinds.specs.Reaching.{IsFirstReaching, IsFirstLooping}

-- ---- names and their places

same_text : (m n : List ℕ) → bytes_eq m n ≡ true → m ≡ n
same_text m n h = (bytes_eq-Decides m n).0 h

places_from : (n : List ℕ) (ms : List ContainerModel) (c i : ℕ) → place_of n (container_names c ms) ≡ Some i → c ≤ i
places_from n [] c i h = cc
places_from n (x ∷ xs) c i h =
    elim (bytes_eq n x.name) as (λ b. cond b (Some c) (place_of n (container_names (suc c) xs)) ≡ Some i → c ≤ i) [
      | true ↦ λ e. let same : c ≡ i = cc in omega (arith, same)
      | false ↦ λ e. omega (arith, places_from n xs (suc c) i e)
    ] h

-- one place has one name
one_name : (m n : List ℕ) (ms : List ContainerModel) (c i : ℕ) → place_of m (container_names c ms) ≡ Some i → place_of n (container_names c ms) ≡ Some i → m ≡ n
one_name m n [] c i h k = cc
one_name m n (x ∷ xs) c i h k =
    elim (bytes_eq m x.name) as (λ b. bytes_eq m x.name ≡ b → cond b (Some c) (place_of m (container_names (suc c) xs)) ≡ Some i → m ≡ n) [
      | true ↦ λ p e. elim (bytes_eq n x.name) as (λ b. bytes_eq n x.name ≡ b → cond b (Some c) (place_of n (container_names (suc c) xs)) ≡ Some i → m ≡ n) [
        | true ↦ λ q d. same_text m x.name p ∙ sym (same_text n x.name q)
        | false ↦ λ q d. let same : c ≡ i = cc in absurd (omega (arith, same, places_from n xs (suc c) i d))
      ] refl k
      | false ↦ λ p e. elim (bytes_eq n x.name) as (λ b. cond b (Some c) (place_of n (container_names (suc c) xs)) ≡ Some i → m ≡ n) [
        | true ↦ λ d. let same : c ≡ i = cc in absurd (omega (arith, same, places_from m xs (suc c) i e))
        | false ↦ λ d. one_name m n xs (suc c) i e d
      ] k
    ] refl h

-- ---- the places of names

module _ (names : Names) where
  place_in : (n : List ℕ) (ns : List (List ℕ)) (j : ℕ) → is_among n ns ≡ true → place_of n names ≡ Some j → Contains (places_of names ns) j
  place_in n [] j h e = absurd (true≢false (sym h))
  place_in n (x ∷ ns) j h e =
      elim (bytes_eq n x) as (λ b. bytes_eq n x ≡ b → (b || is_among n ns) ≡ true → Contains (places_of names (x ∷ ns)) j) [
        | true ↦ λ p k. subst (λ o. Contains (cons_option o (places_of names ns)) j) (sym e ∙ ap (λ y. place_of y names) (same_text n x p)) (first_in j (places_of names ns))
        | false ↦ λ p k. behind (place_of x names) (place_in n ns j k e)
      ] refl h
    where
      behind : (o : Option ℕ) → Contains (places_of names ns) j → Contains (cons_option o (places_of names ns)) j
      behind None k = k
      behind (Some p) k = rest_in p (places_of names ns) j k

  -- what stands among the places is that of a name
  abbrev Named : List (List ℕ) → ℕ → Type 0
  Named ns j = (n : List ℕ) × (is_among n ns ≡ true) × (place_of n names ≡ Some j)

  still_among : (n x : List ℕ) (ns : List (List ℕ)) → is_among n ns ≡ true → is_among n (x ∷ ns) ≡ true
  still_among n x ns k = elim (bytes_eq n x) as (λ b. (b || is_among n ns) ≡ true) [ true ↦ refl | false ↦ k ]

  still_named : (x : List ℕ) (ns : List (List ℕ)) (j : ℕ) → Named ns j → Named (x ∷ ns) j
  still_named x ns j h = (h.0, still_among h.0 x ns h.1, h.2)

  one_named : (x : List ℕ) (ns : List (List ℕ)) (j : ℕ) (later : Contains (places_of names ns) j → Named ns j) (o : Option ℕ)
      → place_of x names ≡ o → Contains (cons_option o (places_of names ns)) j → Named (x ∷ ns) j
  one_named x ns j later None e k = still_named x ns j (later k)
  one_named x ns j later (Some p) e k =
      ⊎_elim
      (λ same. (x, ap (λ b. b || is_among x ns) (bytes_itself x), e ∙ ap Some same))
      (λ h. still_named x ns j (later h))
      (first_or_rest p (places_of names ns) j k)

  named_of : (ns : List (List ℕ)) (j : ℕ) → Contains (places_of names ns) j → Named ns j
  named_of [] j h = absurd (none_in j h)
  named_of (x ∷ ns) j h = one_named x ns j (named_of ns j) (place_of x names) refl h

-- ---- what is asked, and what refers

module _ (ms : List ContainerModel) where
  abbrev names : Names
  names = container_names 0 ms

  abbrev graph : Graph
  graph = asked_graph ms

  row_at : (xs : List ContainerModel) (i : ℕ) (c : Option ContainerModel) → slice_get xs i ≡ c → row_of (map (asked_places names) xs) i ≡ places_of names (asked_by c)
  row_at [] i c e = ap (λ c. places_of names (asked_by c)) e
  row_at (x ∷ xs) zero c e = ap (λ c. places_of names (asked_by c)) e
  row_at (x ∷ xs) (suc i) c e = row_at xs i c e

  named_at : (m : List ℕ) (i : ℕ) → place_of m names ≡ Some i → slice_get ms i ≡ container_named m ms
  named_at m i e = sym (ap (at_place ms) e) ∙ sym (containers_are_found m ms)

  asked_row : (m : List ℕ) (i : ℕ) → place_of m names ≡ Some i → row_of graph i ≡ places_of names (asked_by (container_named m ms))
  asked_row m i e = row_at ms i (container_named m ms) (named_at m i e)

  no_place : (m : List ℕ) → place_of m names ≡ None → container_named m ms ≡ None
  no_place m e = containers_are_found m ms ∙ ap (at_place ms) e

  -- what asks has a place
  placed_by : (m n : List ℕ) (o : Option ℕ) → place_of m names ≡ o → Asks ms m n → (i : ℕ) × (place_of m names ≡ Some i)
  placed_by m n None e a = absurd (true≢false (sym a ∙ ap (λ c. is_among n (asked_by c)) (no_place m e)))
  placed_by m n (Some i) e a = (i, e)

  placed : (m n : List ℕ) → Asks ms m n → (i : ℕ) × (place_of m names ≡ Some i)
  placed m n a = placed_by m n (place_of m names) refl a

  refers : (m n : List ℕ) (i j : ℕ) → place_of m names ≡ Some i → place_of n names ≡ Some j → Asks ms m n → Refers graph i j
  refers m n i j e d a = subst (λ row. Contains row j) (sym (asked_row m i e)) (place_in names n (asked_by (container_named m ms)) j a d)

  reaching_leads : (m n : List ℕ) (j : ℕ) → place_of n names ≡ Some j → Reaches ms m n → (i : ℕ) × (place_of m names ≡ Some i) × Leads graph i j
  reaching_leads _ _ j e (at_once m n a) =
      let here = placed m n a in
      (here.0, here.1, one_step here.0 j (refers m n here.0 j here.1 e a))
  reaching_leads _ _ j e (further m n l a r) =
      let here = placed m n a in
      let rest = reaching_leads n l j e r in
      (here.0, here.1, more_steps here.0 rest.0 j (refers m n here.0 rest.0 here.1 rest.1 a) rest.2)

  starts : (m n : List ℕ) → Reaches ms m n → (i : ℕ) × (place_of m names ≡ Some i)
  starts _ _ (at_once m n a) = placed m n a
  starts _ _ (further m n l a r) = placed m n a

  reaches_round : (n : List ℕ) (i : ℕ) → place_of n names ≡ Some i → Reaches ms n n → Leads graph i i
  reaches_round n i e r =
      let way = reaching_leads n n i e r in
      let same : way.0 ≡ i = some_is_one way.0 i (sym way.1 ∙ e) in
      subst (λ k. Leads graph k i) same way.2
    where
      some_is_one : (i j : ℕ) → Some i ≡ Some j → i ≡ j
      some_is_one i j h = cc

  none_reach : IsAcyclic graph → NoneReachesItself ms
  none_reach free n r =
      let here = starts n n r in
      free here.0 (reaches_round n here.0 here.1 r)

  -- and back

  abbrev Asked : List ℕ → ℕ → Type 0
  Asked m j = (n : List ℕ) × Asks ms m n × (place_of n names ≡ Some j)

  asks_on : (m : List ℕ) (i j : ℕ) → place_of m names ≡ Some i → Refers graph i j → Asked m j
  asks_on m i j e r = named_of names (asked_by (container_named m ms)) j (subst (λ row. Contains row j) (asked_row m i e) r)

  -- what is referred to has a name
  named_node : (i j : ℕ) → Refers graph i j → (n : List ℕ) × (place_of n names ≡ Some j)
  named_node i j r =
      let there = named_of names (asked_by (slice_get ms i)) j (subst (λ row. Contains row j) (row_at ms i (slice_get ms i) refl) r) in
      (there.0, there.2)

  named_end : (i j : ℕ) → Leads graph i j → (n : List ℕ) × (place_of n names ≡ Some j)
  named_end _ _ (one_step i j r) = named_node i j r
  named_end _ _ (more_steps i j k r l) = named_end j k l

  leading_reaches : (m : List ℕ) (i j : ℕ) → place_of m names ≡ Some i → Leads graph i j → (n : List ℕ) × (place_of n names ≡ Some j) × Reaches ms m n
  leading_reaches m _ _ e (one_step i j r) =
      let there = asks_on m i j e r in
      (there.0, there.2, at_once m there.0 there.1)
  leading_reaches m _ _ e (more_steps i j k r l) =
      let there = asks_on m i j e r in
      let rest = leading_reaches there.0 j k there.2 l in
      (rest.0, rest.1, further m there.0 rest.0 there.1 rest.2)

  round_reaches : (n : List ℕ) (i : ℕ) → place_of n names ≡ Some i → Leads graph i i → Reaches ms n n
  round_reaches n i e l =
      let round = leading_reaches n i i e l in
      let same : round.0 ≡ n = one_name round.0 n ms 0 i round.1 e in
      subst (λ m. Reaches ms n m) same round.2

  no_loop : NoneReachesItself ms → IsAcyclic graph
  no_loop none i l =
      let here = named_end i i l in
      none here.0 (round_reaches here.0 i here.1 l)

  pub reaching_is_leading : (b : Bool) (rows : Graph) → rows ≡ graph → ((b ≡ false) ↔ IsAcyclic rows) → ((b ≡ false) ↔ NoneReachesItself ms)
  reaching_is_leading b rows e h =
      (λ q. none_reach (subst IsAcyclic e (h.0 q)), λ none. h.1 (subst IsAcyclic (sym e) (no_loop none)))

  -- the first node that leads back to itself is the first item that reaches itself
  pub first_reaches : (rows : Graph) (found : Option ℕ) → rows ≡ graph → IsFirstLooping rows found → IsFirstReaching ms found
  first_reaches rows found e h = by found (subst (λ g. IsFirstLooping g found) e h)
    where
      by : (o : Option ℕ) → IsFirstLooping graph o → IsFirstReaching ms o
      by None h = record { none = λ q. none_reach (h.none q); first = tt; least = tt }
      by (Some i) h = record {
        none = λ q. none_reach (h.none q);
        first = λ n e. round_reaches n i e h.first;
        least = λ n j e l r. h.least j l (reaches_round n j e r);
      }

-- ---- whether there is a loop

some_is_none : {A : Type 0} (a : A) → Some a ≡ None → ⊥
some_is_none a e = cc

pub some_or_none : {A : Type 0} (o : Option A) (P : Type 0) → ((o ≡ None) ↔ P) → ((is_some o ≡ false) ↔ P)
some_or_none None P h = (λ e. h.0 refl, λ p. refl)
some_or_none (Some a) P h = (λ e. absurd (true≢false e), λ p. absurd (some_is_none a (h.1 p)))

-- the way round that is found begins at the least node on one
pub first_of_loop : (g : Graph) (found : Option (Vec ℕ Global)) (o : Option ℕ) → ((found ≡ None) ↔ IsAcyclic g) → IfSome found (λ path. IsLoop g path.items) → IfSome found (λ path. StartsLeast g path.items)
    → o ≡ option_map (λ path. slice_index path.items 0) found → IsFirstLooping g o
first_of_loop g found o n p l e = subst (IsFirstLooping g) (sym e) (by found n p l)
  where
    by : (f : Option (Vec ℕ Global)) → ((f ≡ None) ↔ IsAcyclic g) → IfSome f (λ path. IsLoop g path.items) → IfSome f (λ path. StartsLeast g path.items)
        → IsFirstLooping g (option_map (λ path. slice_index path.items 0) f)
    by None n p l = record { none = λ q. n.0 refl; first = tt; least = tt }
    by (Some path) n p l = begins path.items p l
      where
        begins : (is : List ℕ) → IsLoop g is → StartsLeast g is → IsFirstLooping g (Some (slice_index is 0))
        begins [] p l = absurd p
        begins (i ∷ is) p l = record { none = λ q. absurd (some_is_none i q); first = goes_leads g i i is p; least = l }
