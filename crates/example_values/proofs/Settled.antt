-- Rounds that stay as they are, one item after another.
use Rattle.std.proofs.Common.{◌≡◌, ℕ, zero, suc, ◌+◌, ◌≤◌, ◌<◌, List, [], ◌∷◌, ◌++◌, map, drop, drop-cons, length, get_or, Bool, true, false, Option, Some, None, slice_get, refl, sym, ap, ◌∙◌, append_assoc, inl, inr, true≢false, eqb-true, arith}
use Rattle.std.proofs.lemmas.Bool.{cases_lt}
use Rattle.std.proofs.lemmas.List.{get_or_past, drop_all, append-nil}
use Rattle.model_defs.specs.Model.{ContainerModel, ConversionsD}
use Rattle.model_defs.specs.Reads.{leads_to_option}
use Rattle.value_models.specs.declared.container.Container.{Container}
use Rattle.value_models.specs.ContainerView.{container_view, containers_view}
use Rattle.example_values.specs.Fewest.{Rounds, same_rounds, container_fewest, item_fewest}
use Rattle.example_values.specs.Known.{rounds_at, rounds_of, gives, AreSettled}

-- a list of what each item says, at an item's place
said : {A B : Type 0} (f : A → B) (xs : List A) (i : ℕ) (x : A) (d : B) → slice_get xs i ≡ Some x → get_or (map f xs) i d ≡ f x
said f [] i x d e = cc
said f (y ∷ ys) zero x d e = ap f (some_is y x e)
  where
    some_is : {A : Type 0} (a b : A) → Some a ≡ Some b → a ≡ b
    some_is a b e = cc
said f (y ∷ ys) (suc i) x d e = said f ys i x d e

same_is : (a b : Rounds) → same_rounds a b ≡ true → a ≡ b
same_is None None e = refl
same_is None (Some b) e = absurd (true≢false (sym e))
same_is (Some a) None e = absurd (true≢false (sym e))
same_is (Some a) (Some b) e = ap Some (eqb-true a b e)

module _ (ms : List ContainerModel) (rounds : List Rounds) where
  abbrev now : ConversionsD → Option ContainerModel → Rounds
  now cs o = item_fewest (leads_to_option ms) (rounds_of ms rounds) (gives ms cs) o

  abbrev pub Stays : ConversionsD → ℕ → Type 0
  Stays cs i = rounds_at rounds i ≡ now cs (slice_get ms i)

  pub settled_here : (given : List Bool) (i : ℕ) (m : ContainerModel) (was counted : Rounds) (here b : Bool) → slice_get ms i ≡ Some m
      → here ≡ get_or given i false → counted ≡ container_fewest (leads_to_option ms) (rounds_of ms rounds) here m → was ≡ rounds_at rounds i → b ≡ same_rounds was counted
      → (cs : ConversionsD) → given ≡ map (gives ms cs) ms → b ≡ true → Stays cs i
  settled_here given i m was counted here b at h c w s cs g e =
      sym w ∙ same_is was counted (sym s ∙ e) ∙ c
      ∙ ap (λ z. container_fewest (leads_to_option ms) (rounds_of ms rounds) z m) (h ∙ ap (λ gs. get_or gs i false) g ∙ said (gives ms cs) ms i m false at)
      ∙ ap (now cs) (sym at)

  pub all_settled : (xs : List Container) (n : ℕ) → containers_view xs ≡ ms → length rounds ≡ length xs → length xs ≤ n → (cs : ConversionsD) → ((i : ℕ) → i < n → Stays cs i) → AreSettled ms cs rounds
  all_settled xs n w s h cs each i = elim (cases_lt i n) [
    | inl l ↦ each i l
    | inr l ↦
        get_or_past rounds i None (omega (arith, s, h, l))
        ∙ ap (now cs) (sym (ap (λ ys. slice_get ys i) (sym w) ∙ past xs i (omega (arith, h, l))))
  ]
    where
      past : (xs : List Container) (i : ℕ) → length xs ≤ i → slice_get (containers_view xs) i ≡ None
      past [] i h = refl
      past (y ∷ ys) zero h = absurd (omega (arith, h))
      past (y ∷ ys) (suc i) h = past ys i (omega (arith, h))

item_at : (xs : List Container) (i : ℕ) (x : Container) → i < length xs → x ≡ get_or xs i x → slice_get (containers_view xs) i ≡ Some (container_view x)
item_at [] i x h e = absurd (omega (arith, h))
item_at (y ∷ ys) zero x h e = ap (λ z. Some (container_view z)) (sym e)
item_at (y ∷ ys) (suc i) x h e = item_at ys i x (omega (arith, h)) e

pub here : (ms : List ContainerModel) (xs : List Container) (i : ℕ) (x : Container) → containers_view xs ≡ ms → i < length xs → x ≡ get_or xs i x → slice_get ms i ≡ Some (container_view x)
here ms xs i x w h e = ap (λ ys. slice_get ys i) (sym w) ∙ item_at xs i x h e

-- ---- whose rules give values

module _ (ms : List ContainerModel) (cs : ConversionsD) where
  abbrev pub givens_left : List Container → List Bool
  givens_left xs = map (gives ms cs) (containers_view xs)

  pub given_turn : (xs : List Container) (i : ℕ) (x : Container) (b : Bool) (done new whole : List Bool) → i < length xs → x ≡ get_or xs i x → b ≡ gives ms cs (container_view x) → new ≡ done ++ b ∷ []
      → done ++ givens_left (drop i xs) ≡ whole → new ++ givens_left (drop (i + 1) xs) ≡ whole
  given_turn xs i x b done new whole h e m n was =
      let more : suc i ≡ i + 1 = omega arith in
      let rest = givens_left (drop (i + 1) xs) in
      ap (λ ys. ys ++ rest) (n ∙ ap (λ y. done ++ y ∷ []) m)
      ∙ append_assoc done (gives ms cs (container_view x) ∷ []) rest
      ∙ ap (λ ys. done ++ ys) (sym (ap givens_left (drop-cons xs i x h) ∙ (λ z. gives ms cs (container_view (sym e z)) ∷ givens_left (drop (more z) xs))))
      ∙ was

  pub given_end : (xs : List Container) (i : ℕ) (done whole : List Bool) → length xs ≤ i → done ++ givens_left (drop i xs) ≡ whole → done ≡ whole
  given_end xs i done whole h was = sym (append-nil done) ∙ ap (λ ys. done ++ givens_left ys) (sym (drop_all i xs h)) ∙ was
