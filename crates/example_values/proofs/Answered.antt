-- What is made of a type is its example, and why nothing is.
use Rattle.std.proofs.Common.{◌≡◌, ℕ, zero, suc, ◌+◌, ◌≤◌, ◌<◌, List, [], ◌∷◌, length, get_or, cond, Bool, true, false, ◌&&◌, ◌||◌, Option, Some, None, slice_get, bytes_eq, refl, sym, ap, subst, ◌∙◌, true≢false, inl, inr, arith}
use Rattle.std.proofs.lemmas.Bool.{cases_lt, le-leb}
use Rattle.std.proofs.lemmas.Slice.Eq.{bytes_eq-Decides}
use Rattle.json_value.specs.Value.{Value}
use Rattle.name_tables.specs.Names.{place_of}
use Rattle.value_models.specs.Names.{container_names}
use Rattle.value_models.specs.declared.container.Container.{Container}
use Rattle.value_models.specs.ContainerView.{container_view, containers_view}
use Rattle.model_defs.specs.Types.{TypeModel}
use Rattle.model_defs.specs.Model.{ContainerModel, ConversionsD, container_named}
use Rattle.model_defs.specs.Layer.{one_type}
use Rattle.model_defs.proofs.Flat.{bytes_itself}
use Rattle.example_defs.specs.Built.{built}
use Rattle.example_defs.specs.Example.{example_in}
use Rattle.example_defs.specs.Enough.{no_texts, enough_rounds, example_of}
use Rattle.example_defs.specs.Outside.{names_native, is_odd, Comes, IsOddAt}
use Rattle.example_laws.proofs.Small.{left, right, both}
use Rattle.example_laws.proofs.Rounds.{rounds_grow}
use Rattle.example_values.specs.Fewest.{Rounds, are_within}
use Rattle.example_values.proofs.Settled.{here}
use Rattle.item_uses.specs.Reached.{is_marked, AreCome}
use Rattle.item_uses.proofs.ComeTo.{stands_at, has_place}
use Rattle.example_values.specs.Made.{IsMade}
use Rattle.example_values.specs.Causes.{IsMarkedOdd, IsFirstOdd, IsCause, cause_of}

-- ---- by rounds

module _ (ms ns : List ContainerModel) (cs ks : ConversionsD) (same : ms ≡ ns) (alike : cs ≡ ks) where
  abbrev enough : TypeModel → ℕ
  enough t = enough_rounds ms cs no_texts t

  answer_same : (t : TypeModel) → example_of ms cs no_texts t ≡ example_of ns ks no_texts t
  answer_same t = λ i. example_of (same i) (alike i) no_texts t

  pub none_made : (t : TypeModel) (r : Rounds) → ((n : ℕ) → built ms cs no_texts t n ≡ are_within r n) → r ≡ None → None ≡ example_of ns ks no_texts t
  none_made t r known e =
      sym (ap (λ b. cond b (Some (example_in ms cs no_texts t (enough t))) None) (known (enough t) ∙ ap (λ s. are_within s (enough t)) e)) ∙ answer_same t

  pub one_made : (t : TypeModel) (r : Rounds) (k : ℕ) (v : Value) → ((n : ℕ) → built ms cs no_texts t n ≡ are_within r n) → r ≡ Some k → IsMade ms cs (one_type t) v → Some v ≡ example_of ns ks no_texts t
  unfolding IsMade
  one_made t r k v known e m =
      let first : built ms cs no_texts t k ≡ true = known k ∙ ap (λ s. are_within s k) e ∙ le-leb k k (omega arith) in
      let whole : built ms cs no_texts t (enough t) ≡ true = (rounds_grow ms cs no_texts t).enough k first in
      ap Some (m (enough t) whole) ∙ sym (ap (λ b. cond b (Some (example_in ms cs no_texts t (enough t))) None) whole) ∙ answer_same t

module _ (ms : List ContainerModel) (cs : ConversionsD) where
  -- ---- by items that are odd

  some_same : {A : Type 0} (a b : A) → Some a ≡ Some b → a ≡ b
  some_same a b e = cc

  pub odd_turn : (xs : List Container) (flags : List Bool) (i : ℕ) (x : Container) (b : Bool) → containers_view xs ≡ ms → i < length xs → x ≡ get_or xs i x
      → b ≡ (is_marked flags i && is_odd ms cs (container_view x)) → b ≡ false → IsMarkedOdd ms cs flags i → ⊥
  odd_turn xs flags i x b w h e k f o =
      let same : o.item ≡ container_view x = some_same o.item (container_view x) (sym o.stands ∙ here ms xs i x w h e) in
      true≢false (sym (both (is_marked flags i) (is_odd ms cs (container_view x)) o.marked (subst (λ m. is_odd ms cs m ≡ true) same o.odd)) ∙ sym k ∙ f)

  pub odd_stop : (xs : List Container) (flags : List Bool) (i p : ℕ) (x : Container) (b : Bool) → containers_view xs ≡ ms → i < length xs → x ≡ get_or xs i x
      → b ≡ (is_marked flags i && is_odd ms cs (container_view x)) → b ≡ true → p ≡ i → ((j : ℕ) → j < i → IsMarkedOdd ms cs flags j → ⊥) → IsFirstOdd ms cs flags (Some p)
  odd_stop xs flags i p x b w h e k t s none =
      subst (λ q. IsFirstOdd ms cs flags (Some q)) (sym s) (
        record {
          item = container_view x;
          stands = here ms xs i x w h e;
          marked = left (is_marked flags i) (is_odd ms cs (container_view x)) (sym k ∙ t);
          odd = right (is_marked flags i) (is_odd ms cs (container_view x)) (sym k ∙ t);
        },
        none,
      )

  past : (xs : List Container) (i : ℕ) → length xs ≤ i → slice_get (containers_view xs) i ≡ None
  past [] i h = refl
  past (y ∷ ys) zero h = absurd (omega (arith, h))
  past (y ∷ ys) (suc i) h = past ys i (omega (arith, h))

  pub odd_end : (xs : List Container) (flags : List Bool) (n : ℕ) → containers_view xs ≡ ms → length xs ≤ n → ((j : ℕ) → j < n → IsMarkedOdd ms cs flags j → ⊥) → IsFirstOdd ms cs flags None
  odd_end xs flags n w h none j o = elim (cases_lt j n) [
    | inl l ↦ none j l o
    | inr l ↦
        let nothing : Some o.item ≡ None = sym o.stands ∙ ap (λ ys. slice_get ys j) (sym w) ∙ past xs j (omega (arith, h, l)) in
        nowhere o.item nothing
  ]
    where
      nowhere : (m : ContainerModel) → Some m ≡ None → ⊥
      nowhere m e = cc

  -- ---- the first cause

  named_itself : (n : List ℕ) (xs : List ContainerModel) (m : ContainerModel) → container_named n xs ≡ Some m → n ≡ m.name
  named_itself n [] m e = cc
  named_itself n (x ∷ xs) m e = elim (bytes_eq n x.name) as (λ b. bytes_eq n x.name ≡ b → cond b (Some x) (container_named n xs) ≡ Some m → n ≡ m.name) [
    | true ↦ λ h k. (bytes_eq-Decides n x.name).0 h ∙ ap (λ y. y.name) (some_same x m k)
    | false ↦ λ h k. named_itself n xs m k
  ] refl e

  -- the first of a name stands no later than any of that name
  first_place : (n : List ℕ) (xs : List ContainerModel) (c i j : ℕ) (m : ContainerModel) → place_of n (container_names c xs) ≡ Some i → slice_get xs j ≡ Some m → n ≡ m.name → i ≤ c + j
  first_place n [] c i j m e s q = cc
  first_place n (x ∷ xs) c i zero m e s q =
      let here : bytes_eq n x.name ≡ true = ap (bytes_eq n) (ap (λ y. y.name) (some_same x m s) ∙ sym q) ∙ bytes_itself n in
      let same : c ≡ i = some_same c i (sym (ap (λ b. cond b (Some c) (place_of n (container_names (suc c) xs))) here) ∙ e) in
      omega (arith, same)
  first_place n (x ∷ xs) c i (suc j) m e s q = elim (bytes_eq n x.name) as (λ b. cond b (Some c) (place_of n (container_names (suc c) xs)) ≡ Some i → i ≤ c + suc j) [
    | true ↦ λ k. let same : c ≡ i = some_same c i k in omega (arith, same)
    | false ↦ λ k. let l : i ≤ suc c + j = first_place n xs (suc c) i j m k s q in omega (arith, l)
  ] e

  module _ (t : TypeModel) (flags : List Bool) (come : AreCome ms t flags) where
    -- what is come to and odd is marked at the first place of its name
    marked_at : (n : List ℕ) (m : ContainerModel) → Comes ms cs (t ∷ []) n → container_named n ms ≡ Some m → is_odd ms cs m ≡ true → (i : ℕ) × (place_of n (container_names 0 ms) ≡ Some i) × IsMarkedOdd ms cs flags i
    marked_at n m c e o =
        let p = has_place ms n m e in
        (p.0, p.1, record { item = m; stands = stands_at ms n p.0 p.1 ∙ e; marked = come.all cs n p.0 c p.1; odd = o })

    odd_there : (i : ℕ) → IsMarkedOdd ms cs flags i → IsOddAt ms cs t i
    odd_there i o =
        let c = come.come cs i o.marked in
        let e : container_named c.0 ms ≡ Some o.item = sym (stands_at ms c.0 i c.1) ∙ o.stands in
        let q : c.0 ≡ o.item.name = named_itself c.0 ms o.item e in
        record {
          item = o.item;
          stands = o.stands;
          named = ap (λ n. container_named n ms) (sym q) ∙ e;
          comes = subst (λ n. Comes ms cs (t ∷ []) n) q c.2;
          odd = o.odd;
        }

    no_earlier : (i : ℕ) → ((j : ℕ) → j < i → IsMarkedOdd ms cs flags j → ⊥) → (j : ℕ) → j < i → IsOddAt ms cs t j → ⊥
    no_earlier i none j h o =
        let k = marked_at o.item.name o.item o.comes o.named o.odd in
        let l : k.0 ≤ 0 + j = first_place o.item.name ms 0 k.0 j o.item k.1 o.stands refl in
        none k.0 (omega (arith, h, l)) k.2

    pub found_cause : (o : Option ℕ) → names_native t ≡ false → IsFirstOdd ms cs flags o → IsCause ms cs t (cause_of o)
    found_cause None p none = record {
      plain = ap (λ b. b || false) p;
      even = λ n m c e. not_odd (is_odd ms cs m) (λ h. let k = marked_at n m c e h in none k.0 k.2);
    }
      where
        not_odd : (b : Bool) → (b ≡ true → ⊥) → b ≡ false
        not_odd true h = absurd (h refl)
        not_odd false h = refl
    found_cause (Some i) p found = (p, odd_there i found.0, no_earlier i found.1)
