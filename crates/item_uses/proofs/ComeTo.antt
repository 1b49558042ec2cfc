-- What is marked in the graph of items are the items that a type comes to.
use Rattle.std.proofs.Common.{◌≡◌, ℕ, zero, suc, List, [], ◌∷◌, ◌++◌, map, Bool, true, false, ◌||◌, cond, Option, Some, None, slice_get, refl, sym, ap, subst, ◌∙◌, true≢false, ⊎_elim, bytes_eq}
use Rattle.std.specs.Prelude.{Contains}
use Rattle.std.specs.List.{list_any, cons_option}
use Rattle.std.proofs.lemmas.Slice.Eq.{bytes_eq-Decides}
use Rattle.std.proofs.lemmas.List.{append-nil}
use Rattle.schema_defs.proofs.Stand.{none_in, first_or_rest, first_in, rest_in}
use Rattle.name_tables.specs.Names.{Names, place_of}
use Rattle.reference_graph.specs.Graph.{Graph, row_of}
use Rattle.model_defs.specs.Types.{TypeModel}
use Rattle.model_defs.specs.Model.{ContainerModel, ConversionsD, container_named}
use Rattle.model_defs.proofs.Flat.{bytes_itself}
use Rattle.example_defs.specs.Outside.{items_in, types_in, Comes, at_once, further}
use Rattle.value_kinds.specs.Rounds.{places_of}
use Rattle.value_models.specs.Names.{container_names, at_place}
use Rattle.value_models.proofs.Found.{containers_are_found}
use Rattle.item_uses.specs.Uses.{item_places, items_of, body_places, used_graph}
use Rattle.item_uses.specs.Reached.{Reached, at_start, from_there, is_marked, AreReached, AllMarked, IsClosed, AreCome}

abbrev is_among : List ℕ → List (List ℕ) → Bool
is_among n ns = list_any (bytes_eq n) ns

same_text : (m n : List ℕ) → bytes_eq m n ≡ true → m ≡ n
same_text m n h = (bytes_eq-Decides m n).0 h

-- ---- names and their places

module _ (names : Names) where
  place_in : (n : List ℕ) (ns : List (List ℕ)) (j : ℕ) → is_among n ns ≡ true → place_of n names ≡ Some j → Contains (places_of names ns) j
  place_in n [] j h e = absurd (true≢false (sym h))
  place_in n (x ∷ ns) j h e =
      elim (bytes_eq n x) as (λ b. bytes_eq n x ≡ b → (b || is_among n ns) ≡ true → Contains (places_of names (x ∷ ns)) j) [
        | true ↦ λ p k. subst (λ o. Contains (cons_option o (places_of names ns)) j) (sym e ∙ ap (λ y. place_of y names) (same_text n x p)) (first_in j (places_of names ns))
        | false ↦ λ p k. behind (place_of x names) (place_in n ns j k e)
      ] refl h
    where
      behind : (o : Option ℕ) → Contains (places_of names ns) j → Contains (cons_option o (places_of names ns)) j
      behind None k = k
      behind (Some p) k = rest_in p (places_of names ns) j k

  -- what stands among the places is that of a name
  abbrev Named : List (List ℕ) → ℕ → Type 0
  Named ns j = (n : List ℕ) × (is_among n ns ≡ true) × (place_of n names ≡ Some j)

  still_among : (n x : List ℕ) (ns : List (List ℕ)) → is_among n ns ≡ true → is_among n (x ∷ ns) ≡ true
  still_among n x ns k = elim (bytes_eq n x) as (λ b. (b || is_among n ns) ≡ true) [ true ↦ refl | false ↦ k ]

  still_named : (x : List ℕ) (ns : List (List ℕ)) (j : ℕ) → Named ns j → Named (x ∷ ns) j
  still_named x ns j h = (h.0, still_among h.0 x ns h.1, h.2)

  one_named : (x : List ℕ) (ns : List (List ℕ)) (j : ℕ) (later : Contains (places_of names ns) j → Named ns j) (o : Option ℕ)
      → place_of x names ≡ o → Contains (cons_option o (places_of names ns)) j → Named (x ∷ ns) j
  one_named x ns j later None e k = still_named x ns j (later k)
  one_named x ns j later (Some p) e k =
      ⊎_elim
      (λ same. (x, ap (λ b. b || is_among x ns) (bytes_itself x), e ∙ ap Some same))
      (λ h. still_named x ns j (later h))
      (first_or_rest p (places_of names ns) j k)

  named_of : (ns : List (List ℕ)) (j : ℕ) → Contains (places_of names ns) j → Named ns j
  named_of [] j h = absurd (none_in j h)
  named_of (x ∷ ns) j h = one_named x ns j (named_of ns j) (place_of x names) refl h

module _ (ms : List ContainerModel) where
  abbrev named : Names
  named = container_names 0 ms

  abbrev graph : Graph
  graph = used_graph ms

  abbrev places_if : Option ContainerModel → List ℕ
  places_if None = []
  places_if (Some m) = body_places ms m

  row_at : (xs : List ContainerModel) (i : ℕ) (o : Option ContainerModel) → slice_get xs i ≡ o → row_of (map (body_places ms) xs) i ≡ places_if o
  row_at [] i o e = ap places_if e
  row_at (x ∷ xs) zero o e = ap places_if e
  row_at (x ∷ xs) (suc i) o e = row_at xs i o e

  -- what has a place is the item there
  pub stands_at : (n : List ℕ) (i : ℕ) → place_of n named ≡ Some i → slice_get ms i ≡ container_named n ms
  stands_at n i e = sym (ap (at_place ms) e) ∙ sym (containers_are_found n ms)

  named_row : (n : List ℕ) (i : ℕ) → place_of n named ≡ Some i → row_of graph i ≡ places_if (container_named n ms)
  named_row n i e = row_at ms i (container_named n ms) (stands_at n i e)

  -- and what is an item's name has a place
  pub has_place : (n : List ℕ) (m : ContainerModel) → container_named n ms ≡ Some m → (i : ℕ) × (place_of n named ≡ Some i)
  has_place n m e = by (place_of n named) refl
    where
      by : (o : Option ℕ) → place_of n named ≡ o → (i : ℕ) × (place_of n named ≡ Some i)
      by None q = let none : container_named n ms ≡ None = containers_are_found n ms ∙ ap (at_place ms) q in let wrong : Some m ≡ None = sym e ∙ none in cc
      by (Some i) q = (i, q)

  module _ (cs : ConversionsD) where
    abbrev Come : List TypeModel → List ℕ → Type 0
    Come ts n = Comes ms cs ts n

    comes_on : (ts : List TypeModel) (l : List ℕ) (k : ContainerModel) (n : List ℕ) → container_named l ms ≡ Some k → is_among n (items_of (types_in k.body)) ≡ true → Come ts l → Come ts n
    comes_on _ _ k n e q (at_once ts l a) = further ts l k n a e (at_once (types_in k.body) n q)
    comes_on _ _ k n e q (further ts j m l a d c) = further ts j m n a d (comes_on (types_in m.body) l k n e q c)

    abbrev ComeAt : List TypeModel → ℕ → Type 0
    ComeAt ts i = (n : List ℕ) × (place_of n named ≡ Some i) × Come ts n

    step : (ts : List TypeModel) (l : List ℕ) (j : ℕ) (o : Option ContainerModel) → container_named l ms ≡ o → Contains (places_if o) j → Come ts l → ComeAt ts j
    step ts l j None e c r = absurd (none_in j c)
    step ts l j (Some k) e c r = let there = named_of named (items_of (types_in k.body)) j c in (there.0, there.2, comes_on ts l k there.0 e there.1 r)

    reached_come : (ts : List TypeModel) (i : ℕ) → Reached graph (item_places ms (items_of ts)) i → ComeAt ts i
    reached_come ts _ (at_start i c) = let there = named_of named (items_of ts) i c in (there.0, there.2, at_once ts there.0 there.1)
    reached_come ts _ (from_there i j r c) =
        let here = reached_come ts i r in
        step ts here.0 j (container_named here.0 ms) refl (subst (λ row. Contains row j) (named_row here.0 i here.1) c) here.2

    module _ (flags : List Bool) (onward : (i : ℕ) → is_marked flags i ≡ true → AllMarked flags (row_of graph i)) where
      come_marked : (ts : List TypeModel) (n : List ℕ) (i : ℕ) → AllMarked flags (item_places ms (items_of ts)) → Come ts n → place_of n named ≡ Some i → is_marked flags i ≡ true
      come_marked _ _ i h (at_once ts n a) e = h i (place_in named n (items_of ts) i a e)
      come_marked _ _ i h (further ts l m n a d c) e =
          let here = has_place l m d in
          let row : row_of graph here.0 ≡ body_places ms m = named_row l here.0 here.1 ∙ ap places_if d in
          let mark : is_marked flags here.0 ≡ true = h here.0 (place_in named l (items_of ts) here.0 a here.1) in
          come_marked (types_in m.body) n i (subst (AllMarked flags) row (onward here.0 mark)) c e

pub are_come : (ms : List ContainerModel) (t : TypeModel) (rows : Graph) (starts : List ℕ) (flags : List Bool) → rows ≡ used_graph ms → starts ≡ item_places ms (items_in t)
    → AreReached rows starts flags → IsClosed rows starts flags → AreCome ms t flags
are_come ms t rows starts flags e s r c =
    let begun : starts ≡ item_places ms (items_of (t ∷ [])) = s ∙ ap (item_places ms) (sym (append-nil (items_in t))) in
    record {
      come = λ cs i m. reached_come ms cs (t ∷ []) i (subst (λ ss. Reached (used_graph ms) ss i) begun (subst (λ g. Reached g starts i) e (r i m)));
      all = λ cs n i k p. come_marked ms cs flags (subst (λ g. (i : ℕ) → is_marked flags i ≡ true → AllMarked flags (row_of g i)) e c.onward) (t ∷ []) n i (subst (AllMarked flags) begun c.begun) k p;
    }
