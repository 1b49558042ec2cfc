-- Ways from node to node: each gives one without repeats, which passes no more nodes than there are.
use Rattle.std.proofs.Common.{◌≡◌, ◌≤◌, ◌<◌, ◌+◌, ℕ, suc, zero, List, [], ◌∷◌, length, Bool, true, false, ◌||◌, refl, sym, ap, ◌∙◌, subst, true≢false, ◌⊎◌, inl, inr, arith, eq-eqb}
use Rattle.std.specs.Prelude.{◌==◌, ◌↔◌, Contains}
use Rattle.std.specs.List.{list_any, IsDistinct, AllByRecursion}
use Rattle.std.proofs.Math.Dec.{eqb}
use Rattle.std.proofs.lemmas.Bool.{eqb-true, cases_lt}
use Rattle.std.proofs.lemmas.List.{get_or_past}
use Rattle.std.proofs.lemmas.List.Folds.{list_any_at, Any-from_list_any}
use Rattle.std.proofs.lemmas.Map.Keys.{IsDistinct-cons}
use Rattle.std.proofs.lemmas.Map.Steps.{length-le_from_distinct_below}
use Rattle.use_graph.specs.Graph.{Graph, row_of, Uses, Reaches, one_use, more_uses, reaches_within}
use Rattle.use_graph.specs.Laws.{ReachingIsDecided}

abbrev pub Among : ℕ → List ℕ → Type 0
Among x ns = list_any (eqb x) ns ≡ true

or_cases : (a b : Bool) → (a || b) ≡ true → (a ≡ true) ⊎ (b ≡ true)
or_cases true b h = inl refl
or_cases false b h = inr h

or_right : (a b : Bool) → b ≡ true → (a || b) ≡ true
or_right true b h = refl
or_right false b h = h

first_or_later : (x m : ℕ) (ns : List ℕ) → Among x (m ∷ ns) → (x ≡ m) ⊎ Among x ns
first_or_later x m ns a = elim (or_cases (eqb x m) (list_any (eqb x) ns) a) [ inl e ↦ inl (eqb-true x m e) | inr b ↦ inr b ]

the_one : (x m : ℕ) → Among x (m ∷ []) → x ≡ m
the_one x m a = elim (first_or_later x m [] a) [ inl e ↦ e | inr b ↦ absurd (true≢false (sym b)) ]

apart : (x : ℕ) (ns : List ℕ) → list_any (eqb x) ns ≡ false → AllByRecursion (λ y. eqb x y ≡ false) ns
apart x [] h = tt
apart x (n ∷ ns) h =
    let rec = apart x ns in
    elim (eqb x n) as (λ b. (b || list_any (eqb x) ns) ≡ false → (b ≡ false) × AllByRecursion (λ y. eqb x y ≡ false) ns) [
      | true ↦ λ k. absurd (true≢false k)
      | false ↦ λ k. (refl, rec k)
    ] h

first_distinct : (m : ℕ) (ns : List ℕ) → IsDistinct eqb (m ∷ ns) → IsDistinct eqb ns
unfolding IsDistinct
first_distinct m ns d = d.1

no_other : (m : ℕ) → IsDistinct eqb (m ∷ [])
unfolding IsDistinct
no_other m = (tt, tt)

module _ (Step : ℕ → ℕ → Type 0) (Last : ℕ → Type 0) where
  -- through these nodes in order, and then to the last
  abbrev pub Way : ℕ → List ℕ → Type 0
  Way m [] = Last m
  Way m (n ∷ ns) = Step m n × Way n ns

  pub record Simple (m : ℕ) : Type 0 where
    pub through : List ℕ
    pub way : Way m through
    pub distinct : IsDistinct eqb (m ∷ through)

  -- the way from a node on it
  cut : (x m : ℕ) (ns : List ℕ) → Among x (m ∷ ns) → Way m ns → IsDistinct eqb (m ∷ ns) → Simple x
  cut x m [] a w d = subst Simple (sym (the_one x m a)) (record { through = []; way = w; distinct = d })
  cut x m (n ∷ ns) a w d =
      let rec = cut x n ns in
      elim (first_or_later x m (n ∷ ns) a) [
        | inl e ↦ subst Simple (sym e) (record { through = n ∷ ns; way = w; distinct = d })
        | inr b ↦ rec b w.1 (first_distinct m (n ∷ ns) d)
      ]

  pub last_step : (x : ℕ) → Last x → Simple x
  last_step x h = record { through = []; way = h; distinct = no_other x }

  pub one_more : (x m : ℕ) → Step x m → Simple m → Simple x
  one_more x m s p = elim (list_any (eqb x) (m ∷ p.through)) as (λ b. list_any (eqb x) (m ∷ p.through) ≡ b → Simple x) [
    | true ↦ λ e. cut x m p.through e p.way p.distinct
    | false ↦ λ e. record { through = m ∷ p.through; way = (s, p.way); distinct = IsDistinct-cons eqb x (m ∷ p.through) (apart x (m ∷ p.through) e) p.distinct }
  ] refl

  module _ (count : ℕ) (last_below : (m : ℕ) → Last m → m < count) (step_below : (m n : ℕ) → Step m n → m < count) where
    all_below : (m : ℕ) (ns : List ℕ) → Way m ns → (q : ℕ) → Among q (m ∷ ns) → q < count
    all_below m [] w q a = let e = the_one q m a in let l = last_below m w in omega arith
    all_below m (n ∷ ns) w q a =
        let rec = all_below n ns w.1 q in
        let l = step_below m n w.0 in
        elim (first_or_later q m (n ∷ ns) a) [ inl e ↦ omega arith | inr b ↦ rec b ]

    pub long : (m : ℕ) (p : Simple m) → suc (length p.through) ≤ count
    long m p = length-le_from_distinct_below (m ∷ p.through) count p.distinct (all_below m p.through p.way)

-- ---- uses

pub uses_below : (g : Graph) (i j : ℕ) → Uses g i j → i < length g
uses_below g i j u = elim (first_below i (length g)) [
  | inl l ↦ l
  | inr m ↦ let x = subst (λ xs. Contains xs j) (get_or_past g i [] m) u in let y : x.0 < 0 = x.1 in absurd (omega arith)
]
  where
    first_below : (m n : ℕ) → (m < n) ⊎ (n ≤ m)
    first_below m n = cases_lt m n

pub reaches_below : (g : Graph) (i j : ℕ) → Reaches g i j → i < length g
reaches_below g _ _ (one_use i j u) = uses_below g i j u
reaches_below g _ _ (more_uses i j k u r) = uses_below g i j u

pub reaches_on : (g : Graph) (i j k : ℕ) → Reaches g i j → Reaches g j k → Reaches g i k
reaches_on g _ _ k (one_use i j u) r = more_uses i j k u r
reaches_on g _ _ k (more_uses i m j u v) r = more_uses i m k u (reaches_on g m j k v r)

any_of : (p : ℕ → Bool) (u : ℕ) (us : List ℕ) → Contains us u → p u ≡ true → list_any p us ≡ true
any_of p u us c h = list_any_at p us c.0 u c.1 (ap p c.2 ∙ h)

module _ (g : Graph) (goal : ℕ) where
  abbrev Simply : ℕ → Type 0
  Simply m = Simple (Uses g) (λ i. Uses g i goal) m

  way_reaches : (ns : List ℕ) (n m : ℕ) → suc (length ns) ≤ n → Way (Uses g) (λ i. Uses g i goal) m ns → reaches_within g n m goal ≡ true
  way_reaches ns zero m l w = absurd (omega arith)
  way_reaches [] (suc n) m l w = any_of (λ k. (k == goal) || reaches_within g n k goal) goal (row_of g m) w (ap (λ b. b || reaches_within g n goal goal) (eq-eqb goal goal refl))
  way_reaches (k ∷ ns) (suc n) m l w =
      any_of (λ k. (k == goal) || reaches_within g n k goal) k (row_of g m) w.0 (or_right (k == goal) (reaches_within g n k goal) (way_reaches ns n k (omega arith) w.1))

  simply : (i j : ℕ) → Reaches g i j → j ≡ goal → Simply i
  simply _ _ (one_use i j u) e = last_step (Uses g) (λ i. Uses g i goal) i (subst (Uses g i) e u)
  simply _ _ (more_uses i j k u r) e = one_more (Uses g) (λ i. Uses g i goal) i j u (simply j k r e)

  reaches_decided : (n i : ℕ) → length g ≤ n → Reaches g i goal → reaches_within g n i goal ≡ true
  reaches_decided n i h r =
      let p = simply i goal r refl in
      let l = long (Uses g) (λ i. Uses g i goal) (length g) (λ m u. uses_below g m goal u) (uses_below g) i p in
      way_reaches p.through n i (omega arith) p.way

pub within_reaches : (g : Graph) (n i j : ℕ) → reaches_within g n i j ≡ true → Reaches g i j
within_reaches g zero i j h = absurd (true≢false (sym h))
within_reaches g (suc n) i j h =
    let a = Any-from_list_any (λ k. (k == j) || reaches_within g n k j) (row_of g i) h in
    let k = a.1 in
    let u : Uses g i k = (a.0, a.2, a.3) in
    let rec = within_reaches g n k j in
    elim (or_cases (k == j) (reaches_within g n k j) a.4) [
      | inl e ↦ one_use i j (subst (Uses g i) (eqb-true k j e) u)
      | inr r ↦ more_uses i k j u (rec r)
    ]

pub reaching_is_decided : ReachingIsDecided
reaching_is_decided g n i j h = (within_reaches g n i j, reaches_decided g j n i h)
