-- Which item fails first.
use Rattle.std.proofs.Common.{◌≡◌, ◌⊎◌, inl, inr, ℕ, zero, suc, ◌+◌, ◌≤◌, ◌<◌, List, [], ◌∷◌, map, filter, drop, length, get_or, cond, Bool, true, false, not, ◌||◌, Option, Some, None, IfSome, is_some, slice_get, eqb, ◌≢◌, bytes_eq, if◌then◌else◌, refl, sym, ap, subst, ◌∙◌, true≢false, arith}
use Rattle.std.proofs.lemmas.List.{drop_all}
use Rattle.std.proofs.lemmas.Bool.Decides.{eqb_tells}
use Rattle.model_defs.specs.Types.{TypeModel}
use Rattle.model_defs.specs.Model.{ContainerModel, ConversionsD}
use Rattle.model_defs.specs.Reach.{Reaches, NoneReachesItself}
use Rattle.model_defs.proofs.Flat.{bytes_itself}
use Rattle.name_tables.specs.Names.{Names, place_of}
use Rattle.value_models.specs.Names.{container_names}
use Rattle.value_models.specs.declared.container.Container.{Container}
use Rattle.value_models.specs.ContainerView.{container_view, containers_view}
use Rattle.value_kinds.specs.Reaching.{IsFirstReaching}
use Rattle.describe_defs.specs.Plain.{has_none, is_plain_item, plain_type}
use Rattle.describe_defs.specs.NotPlain.{has_two, names_of, comes_twice, reaches_itself, item_fails, first_failing, else_root, why_not_plain}
use Rattle.describe_defs.proofs.Decided.{reaching_decided}
use Rattle.plain_tables.specs.Apart.{is_entered}
use Rattle.plain_tables.specs.Twice.{AreTwice, IsBefore, is_there}
use Rattle.plain_tables.proofs.Once.{next}

-- ---- the place of an item is that of its name, or the name comes twice

abbrev name_or : Option ContainerModel → List ℕ → List ℕ
name_or None n = n
name_or (Some m) n = m.name

abbrev alike : ContainerModel → List ContainerModel → List (List ℕ)
alike m xs = filter (bytes_eq m.name) (names_of xs)

still : (m : ContainerModel) (xs : List ContainerModel) (j : ℕ) → slice_get xs j ≡ Some m → has_none (alike m xs) ≡ false
still m [] j e = absurd (true≢false (sym (ap is_some e)))
still m (x ∷ xs) zero e =
    ap (λ y. has_none (cond (bytes_eq m.name y) (y ∷ alike m xs) (alike m xs))) (ap (λ o. name_or o m.name) e) ∙ ap (λ b. has_none (cond b (m.name ∷ alike m xs) (alike m xs))) (bytes_itself m.name)
still m (x ∷ xs) (suc j) e = by (bytes_eq m.name x.name) (still m xs j e)
  where
    by : (b : Bool) → has_none (alike m xs) ≡ false → has_none (cond b (x.name ∷ alike m xs) (alike m xs)) ≡ false
    by true h = refl
    by false h = h

more_of : (n : List ℕ) (ns : List (List ℕ)) → has_none ns ≡ false → has_two (n ∷ ns) ≡ true
more_of n [] h = absurd (true≢false h)
more_of n (k ∷ ns) h = refl

abbrev Placed : ContainerModel → List ContainerModel → ℕ → ℕ → Type 0
Placed m xs c p = (place_of m.name (container_names c xs) ≡ Some p) ⊎ (has_two (alike m xs) ≡ true)

placed : (m : ContainerModel) (xs : List ContainerModel) (c i : ℕ) → slice_get xs i ≡ Some m → Placed m xs c (c + i)
placed m [] c i e = absurd (true≢false (sym (ap is_some e)))
placed m (x ∷ xs) c zero e =
    inl (ap (λ y. cond (bytes_eq m.name y) (Some c) (place_of m.name (container_names (suc c) xs))) (ap (λ o. name_or o m.name) e)
    ∙ ap (λ b. cond b (Some c) (place_of m.name (container_names (suc c) xs))) (bytes_itself m.name) ∙ ap Some (let k : c ≡ c + 0 = omega arith in k))
placed m (x ∷ xs) c (suc j) e = by (bytes_eq m.name x.name) (placed m xs (suc c) j e)
  where
    by : (b : Bool) → Placed m xs (suc c) (suc c + j)
        → (cond b (Some c) (place_of m.name (container_names (suc c) xs)) ≡ Some (c + suc j)) ⊎ (has_two (cond b (x.name ∷ alike m xs) (alike m xs)) ≡ true)
    by true h = inr (more_of x.name (alike m xs) (still m xs j e))
    by false (inl h) = inl (h ∙ ap Some (let k : suc c + j ≡ c + suc j = omega arith in k))
    by false (inr h) = inr h

placed_first : (m : ContainerModel) (xs : List ContainerModel) (i : ℕ) → slice_get xs i ≡ Some m → Placed m xs 0 i
placed_first m xs i e = subst (Placed m xs 0) (let k : 0 + i ≡ i = omega arith in k) (placed m xs 0 i e)

-- ---- whether an item reaches itself

module _ (ms : List ContainerModel) where
  unreached : (n : List ℕ) → (Reaches ms n n → ⊥) → reaches_itself ms n ≡ false
  unreached n h = by (reaches_itself ms n) refl
    where
      by : (b : Bool) → reaches_itself ms n ≡ b → reaches_itself ms n ≡ false
      by true e = absurd (h ((reaching_decided ms n).0 e))
      by false e = e

  reaches_is : (first : Option ℕ) (i : ℕ) (n : List ℕ) → IsFirstReaching ms first → IsBefore first i → place_of n (container_names 0 ms) ≡ Some i → is_there first i ≡ reaches_itself ms n
  reaches_is None i n r b p = sym (unreached n (r.none refl n))
  reaches_is (Some s) i n r b p = by (eqb_tells s i)
    where
      by : ((eqb s i ≡ true) × (s ≡ i)) ⊎ ((eqb s i ≡ false) × (s ≢ i)) → eqb s i ≡ reaches_itself ms n
      by (inl (e, q)) = e ∙ sym ((reaching_decided ms n).1 (r.first n (p ∙ ap Some (sym q))))
      by (inr (e, q)) = e ∙ sym (unreached n (λ w. r.least n i p (omega (arith, b, q)) w))

  -- ---- whether an item fails

  pub fails_again : (cs : ConversionsD) (m : ContainerModel) (again : Names) (b : Bool) → AreTwice ms again → b ≡ is_entered m.name again → b ≡ true → true ≡ item_fails ms cs m
  fails_again cs m again b t e h = by (not (is_plain_item ms cs m)) (sym (sym h ∙ e ∙ t.twice m.name))
    where
      by : (p : Bool) → comes_twice ms m.name ≡ true → true ≡ (p || (comes_twice ms m.name || reaches_itself ms m.name))
      by true k = refl
      by false k = ap (λ z. z || reaches_itself ms m.name) (sym k)

  pub fails_is : (cs : ConversionsD) (m : ContainerModel) (again : Names) (first : Option ℕ) (i : ℕ) (b p w a : Bool) → AreTwice ms again → IsFirstReaching ms first → IsBefore first i → slice_get ms i ≡ Some m
      → b ≡ is_entered m.name again → b ≡ false → p ≡ is_plain_item ms cs m → w ≡ is_there first i → a ≡ (not p || w) → a ≡ item_fails ms cs m
  fails_is cs m again first i b p w a t r s here e h k l q =
      q ∙ (λ z. not (k z) || l z) ∙ ap (λ z. not (is_plain_item ms cs m) || z) (by (placed_first m ms i here) ∙ ap (λ z. z || reaches_itself ms m.name) (sym (sym (t.twice m.name) ∙ sym e ∙ h)))
    where
      by : Placed m ms 0 i → is_there first i ≡ reaches_itself ms m.name
      by (inl g) = reaches_is first i m.name r s g
      by (inr g) = absurd (true≢false (sym g ∙ sym (t.twice m.name) ∙ sym e ∙ h))

-- ---- items, one after another

-- what is left to look at tells what the whole tells, and none before it reaches itself
pub record IsLeft (ms : List ContainerModel) (cs : ConversionsD) (first : Option ℕ) (i : ℕ) (left : List ContainerModel) : Type 0 where
  pub told : first_failing ms cs 0 ms ≡ first_failing ms cs i left
  pub before : IsBefore first i

pub nothing_yet : (ms xs : List ContainerModel) (cs : ConversionsD) (first : Option ℕ) → xs ≡ ms → IsLeft ms cs first 0 xs
nothing_yet ms xs cs first w = record { told = ap (first_failing ms cs 0) (sym w); before = by first }
  where
    by : (o : Option ℕ) → IsBefore o 0
    by None = tt
    by (Some s) = omega arith

item_at : (xs : List Container) (i : ℕ) (x : Container) → i < length xs → x ≡ get_or xs i x → slice_get (containers_view xs) i ≡ Some (container_view x)
item_at [] i x h e = absurd (omega (arith, h))
item_at (y ∷ ys) zero x h e = ap (λ z. Some (container_view z)) (sym e)
item_at (y ∷ ys) (suc i) x h e = item_at ys i x (omega (arith, h)) e

pub here : (ms : List ContainerModel) (xs : List Container) (i : ℕ) (x : Container) → containers_view xs ≡ ms → i < length xs → x ≡ get_or xs i x → slice_get ms i ≡ Some (container_view x)
here ms xs i x w h e = ap (λ ys. slice_get ys i) (sym w) ∙ item_at xs i x h e

module _ (ms : List ContainerModel) (cs : ConversionsD) (first : Option ℕ) (r : IsFirstReaching ms first) where
  one_past : (i : ℕ) (m : ContainerModel) → slice_get ms i ≡ Some m → item_fails ms cs m ≡ false → (o : Option ℕ) → first ≡ o → IsBefore o i → IsBefore o (i + 1)
  one_past i m g h None e b = tt
  one_past i m g h (Some s) e b = by (eqb_tells s i) (placed_first m ms i g)
    where
      neither : (p t w : Bool) → (p || (t || w)) ≡ false → (t ≡ false) × (w ≡ false)
      neither true t w k = absurd (true≢false k)
      neither false true w k = absurd (true≢false k)
      neither false false w k = (refl, k)

      clear : (comes_twice ms m.name ≡ false) × (reaches_itself ms m.name ≡ false)
      clear = neither (not (is_plain_item ms cs m)) (comes_twice ms m.name) (reaches_itself ms m.name) h

      reached : IsFirstReaching ms (Some s)
      reached = subst (IsFirstReaching ms) e r

      by : ((eqb s i ≡ true) × (s ≡ i)) ⊎ ((eqb s i ≡ false) × (s ≢ i)) → Placed m ms 0 i → i + 1 ≤ s
      by (inr (k, q)) p = omega (arith, b, q)
      by (inl (k, q)) (inl p) = absurd (true≢false (sym ((reaching_decided ms m.name).1 (reached.first m.name (p ∙ ap Some (sym q)))) ∙ clear.1))
      by (inl (k, q)) (inr p) = absurd (true≢false (sym p ∙ clear.0))

  pub failing_turn : (xs : List Container) (i : ℕ) (x : Container) (b : Bool) → containers_view xs ≡ ms → i < length xs → x ≡ get_or xs i x → b ≡ item_fails ms cs (container_view x) → b ≡ false
      → IsLeft ms cs first i (containers_view (drop i xs)) → IsLeft ms cs first (i + 1) (containers_view (drop (i + 1) xs))
  failing_turn xs i x b w h e k f was = record {
    told = was.told ∙ ap (λ ys. first_failing ms cs i (containers_view ys)) (next xs i x h e)
        ∙ ap (λ z. if z then Some i else first_failing ms cs (suc i) (containers_view (drop (i + 1) xs))) (sym k ∙ f)
        ∙ ap (λ n. first_failing ms cs n (containers_view (drop (i + 1) xs))) (let q : suc i ≡ i + 1 = omega arith in q);
    before = one_past i (container_view x) (here ms xs i x w h e) (sym k ∙ f) first refl was.before;
  }

  pub failing_stop : (xs : List Container) (i : ℕ) (x : Container) (b : Bool) (p : ℕ) → i < length xs → x ≡ get_or xs i x → b ≡ item_fails ms cs (container_view x) → b ≡ true → p ≡ i
      → IsLeft ms cs first i (containers_view (drop i xs)) → Some p ≡ first_failing ms cs 0 ms
  failing_stop xs i x b p h e k f q was =
      ap Some q ∙ sym (was.told ∙ ap (λ ys. first_failing ms cs i (containers_view ys)) (next xs i x h e)
      ∙ ap (λ z. if z then Some i else first_failing ms cs (suc i) (containers_view (drop (i + 1) xs))) (sym k ∙ f))

  pub failing_end : (xs : List Container) (i : ℕ) → length xs ≤ i → IsLeft ms cs first i (containers_view (drop i xs)) → None ≡ first_failing ms cs 0 ms
  failing_end xs i h was = sym (was.told ∙ ap (λ ys. first_failing ms cs i (containers_view ys)) (drop_all i xs h))

-- ---- the whole

pub by_item : (ms : List ContainerModel) (cs : ConversionsD) (root : TypeModel) (o : Option ℕ) (b : Bool) → o ≡ first_failing ms cs 0 ms → b ≡ is_some o → b ≡ true → Some o ≡ why_not_plain ms cs root
by_item ms cs root None b e h k = absurd (true≢false (sym k ∙ h))
by_item ms cs root (Some i) b e h k = ap (else_root ms cs root) e

pub by_plain : (ms : List ContainerModel) (cs : ConversionsD) (root : TypeModel) (o : Option ℕ) (b p : Bool) → o ≡ first_failing ms cs 0 ms → b ≡ is_some o → b ≡ false → p ≡ plain_type ms cs root → p ≡ true
    → None ≡ why_not_plain ms cs root
by_plain ms cs root (Some i) b p e h k q w = absurd (true≢false (sym h ∙ k))
by_plain ms cs root None b p e h k q w = ap (λ z. if z then None else Some None) (sym w ∙ q) ∙ ap (else_root ms cs root) e

pub by_root : (ms : List ContainerModel) (cs : ConversionsD) (root : TypeModel) (o : Option ℕ) (b p : Bool) → o ≡ first_failing ms cs 0 ms → b ≡ is_some o → b ≡ false → p ≡ plain_type ms cs root → p ≡ false
    → Some None ≡ why_not_plain ms cs root
by_root ms cs root (Some i) b p e h k q w = absurd (true≢false (sym h ∙ k))
by_root ms cs root None b p e h k q w = ap (λ z. if z then None else Some None) (sym w ∙ q) ∙ ap (else_root ms cs root) e
