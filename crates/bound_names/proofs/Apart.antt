-- What is bound, and which items there are, between names that were taken before and those after.
use Rattle.std.proofs.Common.{◌≡◌, ◌⊎◌, ℕ, List, [], ◌∷◌, ◌++◌, Bool, true, false, ◌||◌, ◌&&◌, not, refl, sym, ap, ◌∙◌, subst, true≢false, inl, inr, bytes_eq, cond}
use Rattle.std.proofs.lemmas.Bool.{and_parts}
use Rattle.std.proofs.lemmas.Slice.Eq.{bytes_eq-Decides}
use Rattle.model_defs.proofs.Flat.{not_true}
use Rattle.entry_defs.specs.Entry.{Shape}
use Rattle.entry_defs.specs.Table.{ItemEntry, Among}
use Rattle.naming_defs.specs.Derived.{is_derived, is_denied}
use Rattle.naming_defs.specs.Names.{Names, is_among, numbered, is_value, as_value, taking, prelude_values, values, bound, free_name, given_name}
use Rattle.naming_defs.proofs.Free.{is-number}
use Rattle.naming_defs.proofs.Fresh.{AreAmong, FreshNames, taken-among, bound-among}
use Rattle.good_names.proofs.First.{among_both, among_values}

-- ---- names among names

pub itself : (n : List ℕ) → bytes_eq n n ≡ true
itself n = (bytes_eq-Decides n n).1 refl

pub no-more : {A : Type 0} (b : Bool) → b ≡ true → b ≡ false → A
no-more b h k = absurd (true≢false (sym h ∙ k))

pub refused : (b : Bool) → (b ≡ true → ⊥) → b ≡ false
refused true f = absurd (f refl)
refused false f = refl

either : (a b : Bool) → (a || b) ≡ true → (a ≡ true) ⊎ (b ≡ true)
either true b h = inl refl
either false b h = inr h

or-right : (a b : Bool) → b ≡ true → (a || b) ≡ true
or-right true b h = refl
or-right false b h = h

or-left : (a b : Bool) → a ≡ true → (a || b) ≡ true
or-left true b h = refl
or-left false b h = absurd (true≢false (sym h))

pub in-either : (n : List ℕ) (xs ys : Names) → is_among n (xs ++ ys) ≡ true → (is_among n xs ≡ true) ⊎ (is_among n ys ≡ true)
in-either n xs ys h = either (is_among n xs) (is_among n ys) (sym (among_both n xs ys) ∙ h)

pub in-left : (n : List ℕ) (xs ys : Names) → is_among n xs ≡ true → is_among n (xs ++ ys) ≡ true
in-left n xs ys h = among_both n xs ys ∙ or-left (is_among n xs) (is_among n ys) h

pub in-right : (n : List ℕ) (xs ys : Names) → is_among n ys ≡ true → is_among n (xs ++ ys) ≡ true
in-right n xs ys h = among_both n xs ys ∙ or-right (is_among n xs) (is_among n ys) h

pub differ : (n m : List ℕ) (t : Names) → is_among n t ≡ true → is_among m t ≡ false → bytes_eq n m ≡ false
differ n m t h k = refused (bytes_eq n m) (λ e. no-more (is_among n t) h (ap (λ x. is_among x t) ((bytes_eq-Decides n m).0 e) ∙ k))

turned : (n m : List ℕ) → bytes_eq n m ≡ false → bytes_eq m n ≡ false
turned n m h = refused (bytes_eq m n) (λ e. no-more (bytes_eq n m) ((bytes_eq-Decides n m).1 (sym ((bytes_eq-Decides m n).0 e))) h)

not-in : (n : List ℕ) (s t : Names) → AreAmong s t → is_among n t ≡ false → is_among n s ≡ false
not-in n s t a h = refused (is_among n s) (λ e. no-more (is_among n t) (a n e) h)

-- ---- values

pub value-in : (n : List ℕ) (t : Names) → is_among (as_value n) t ≡ true → is_among n (values t) ≡ true
value-in n t h = among_values n t ∙ or-right (is_among n prelude_values) (is_among (as_value n) t) h

pub prelude-in : (n : List ℕ) (t : Names) → is_among n prelude_values ≡ true → is_among n (values t) ≡ true
prelude-in n t h = among_values n t ∙ or-left (is_among n prelude_values) (is_among (as_value n) t) h

values-among : (s t : Names) → AreAmong s t → AreAmong (values s) (values t)
values-among s t a n h = elim (either (is_among n prelude_values) (is_among (as_value n) s) (sym (among_values n s) ∙ h)) [
  | inl p ↦ prelude-in n t p
  | inr v ↦ value-in n t (a (as_value n) v)
]

-- ---- items among items

pub item-in-either : (i : ItemEntry) (xs ys : List ItemEntry) → Among i (xs ++ ys) → Among i xs ⊎ Among i ys
item-in-either i [] ys a = inr a
item-in-either i (x ∷ xs) ys (inl e) = inl (inl e)
item-in-either i (x ∷ xs) ys (inr a) = elim (item-in-either i xs ys a) [ inl b ↦ inl (inr b) | inr b ↦ inr b ]

-- ---- what holds between names that were taken before, t, and those after, u

pub record Apart (t bs : Names) (is : List ItemEntry) (u : Names) : Type 0 where
  pub kept : AreAmong t u
  pub made : (i : ItemEntry) → Among i is → is_value i.shape ≡ true → is_among (as_value i.name) u ≡ true
  pub new : (i : ItemEntry) → Among i is → is_among i.name t ≡ false
  pub tied : (n : List ℕ) → is_among n bs ≡ true → is_among n u ≡ true
  pub free : (n : List ℕ) → is_among n bs ≡ true → is_among n (values t) ≡ false
  pub differing : (n : List ℕ) (i : ItemEntry) → is_among n bs ≡ true → Among i is → is_value i.shape ≡ true → bytes_eq n i.name ≡ false
  pub underived : (n : List ℕ) → is_among n bs ≡ true → is_derived n ≡ false
  pub undenied : (i : ItemEntry) → Among i is → is_denied i.name ≡ false

pub nothing : (t : Names) → Apart t [] [] t
nothing t = record {
  kept = λ n h. h;
  made = λ i a. absurd a;
  new = λ i a. absurd a;
  tied = λ n h. absurd (true≢false (sym h));
  free = λ n h. absurd (true≢false (sym h));
  differing = λ n i h. absurd (true≢false (sym h));
  underived = λ n h. absurd (true≢false (sym h));
  undenied = λ i a. absurd a;
}

pub fewer : (t bs cs : Names) (is : List ItemEntry) (u : Names) → ((n : List ℕ) → is_among n cs ≡ true → is_among n bs ≡ true) → Apart t bs is u → Apart t cs is u
fewer t bs cs is u f p = record {
  kept = p.kept;
  made = p.made;
  new = p.new;
  tied = λ n h. p.tied n (f n h);
  free = λ n h. p.free n (f n h);
  differing = λ n i h. p.differing n i (f n h);
  underived = λ n h. p.underived n (f n h);
  undenied = p.undenied;
}

pub one-then : (t u w bs cs : Names) (is js : List ItemEntry) → Apart t bs is u → Apart u cs js w → Apart t (bs ++ cs) (is ++ js) w
one-then t u w bs cs is js p q = record {
  kept = λ n h. q.kept n (p.kept n h);
  made = λ i a v. elim (item-in-either i is js a) [ inl b ↦ q.kept (as_value i.name) (p.made i b v) | inr b ↦ q.made i b v ];
  new = λ i a. elim (item-in-either i is js a) [ inl b ↦ p.new i b | inr b ↦ not-in i.name t u p.kept (q.new i b) ];
  tied = λ n h. elim (in-either n bs cs h) [ inl b ↦ q.kept n (p.tied n b) | inr b ↦ q.tied n b ];
  free = λ n h. elim (in-either n bs cs h) [ inl b ↦ p.free n b | inr b ↦ not-in n (values t) (values u) (values-among t u p.kept) (q.free n b) ];
  differing = λ n i h a v. elim (in-either n bs cs h) [
    | inl b ↦ elim (item-in-either i is js a) [ inl c ↦ p.differing n i b c v | inr c ↦ differ n i.name u (p.tied n b) (q.new i c) ]
    | inr b ↦ elim (item-in-either i is js a) [ inl c ↦ turned i.name n (differ i.name n (values u) (value-in i.name u (p.made i c v)) (q.free n b)) | inr c ↦ q.differing n i b c v ]
  ];
  underived = λ n h. elim (in-either n bs cs h) [ inl b ↦ p.underived n b | inr b ↦ q.underived n b ];
  undenied = λ i a. elim (item-in-either i is js a) [ inl b ↦ p.undenied i b | inr b ↦ q.undenied i b ];
}

-- one more item, that is named before what it holds
pub with-item : (t u bs : Names) (m : List ℕ) (h : Shape) (v : Bool) (is : List ItemEntry) → is_value h ≡ v → is_among m t ≡ false → is_denied m ≡ false → Apart (taking v m t) bs is u
    → Apart t bs (record { name = m; shape = h } ∷ is) u
with-item t u bs m h v is e free ok p = record {
  kept = λ n k. p.kept n (grown n k);
  made = λ i a w. elim a [ inl x ↦ subst (λ (i : ItemEntry). is_value i.shape ≡ true → is_among (as_value i.name) u ≡ true) x (λ w. p.kept (as_value m) (marked w)) w | inr b ↦ p.made i b w ];
  new = λ i a. elim a [ inl x ↦ subst (λ (i : ItemEntry). is_among i.name t ≡ false) x free | inr b ↦ not-in i.name t (taking v m t) grown (p.new i b) ];
  tied = p.tied;
  free = λ n k. not-in n (values t) (values (taking v m t)) (values-among t (taking v m t) grown) (p.free n k);
  differing = λ n i k a w. elim a [ inl x ↦ subst (λ (i : ItemEntry). is_value i.shape ≡ true → bytes_eq n i.name ≡ false) x (λ w. other n k w) w | inr b ↦ p.differing n i k b w ];
  underived = p.underived;
  undenied = λ i a. elim a [ inl x ↦ subst (λ (i : ItemEntry). is_denied i.name ≡ false) x ok | inr b ↦ p.undenied i b ];
}
  where
    grown : AreAmong t (taking v m t)
    grown n k = taken-among v m t n (or-right (bytes_eq n m) (is_among n t) k)

    marked : is_value h ≡ true → is_among (as_value m) (taking v m t) ≡ true
    marked w = subst (λ (b : Bool). is_among (as_value m) (taking b m t) ≡ true) (sym w ∙ e) (or-left (bytes_eq (as_value m) (as_value m)) (is_among (as_value m) (m ∷ t)) (itself (as_value m)))

    other : (n : List ℕ) → is_among n bs ≡ true → is_value h ≡ true → bytes_eq n m ≡ false
    other n k w = turned m n (differ m n (values (taking v m t)) (value-in m (taking v m t) (marked w)) (p.free n k))

bound-in : (n : List ℕ) (ids u : Names) → is_among n ids ≡ true → is_among n (bound ids u) ≡ true
bound-in n [] u h = absurd (true≢false (sym h))
bound-in n (m ∷ ids) u h = elim (either (bytes_eq n m) (is_among n ids) h) [
  | inl e ↦ bound-among ids (m ∷ u) n (or-left (bytes_eq n m) (is_among n u) e)
  | inr b ↦ bound-in n ids (m ∷ u) b
]

-- more names that patterns bind
pub binding : (t u bs ids : Names) (is : List ItemEntry) → ((n : List ℕ) → is_among n ids ≡ true → (is_among n (values u) ≡ false) × (is_derived n ≡ false)) → Apart t bs is u → Apart t (ids ++ bs) is (bound ids u)
binding t u bs ids is out p = record {
  kept = λ n k. bound-among ids u n (p.kept n k);
  made = λ i a w. bound-among ids u (as_value i.name) (p.made i a w);
  new = p.new;
  tied = λ n h. elim (in-either n ids bs h) [ inl b ↦ bound-in n ids u b | inr b ↦ bound-among ids u n (p.tied n b) ];
  free = λ n h. elim (in-either n ids bs h) [ inl b ↦ not-in n (values t) (values u) (values-among t u p.kept) (out n b).0 | inr b ↦ p.free n b ];
  differing = λ n i h a w. elim (in-either n ids bs h) [
    | inl b ↦ turned i.name n (differ i.name n (values u) (value-in i.name u (p.made i a w)) (out n b).0)
    | inr b ↦ p.differing n i b a w
  ];
  underived = λ n h. elim (in-either n ids bs h) [ inl b ↦ (out n b).1 | inr b ↦ p.underived n b ];
  undenied = p.undenied;
}

-- ---- names that are given

pub given-is : (P : List ℕ → Type 0) (fits : List ℕ → Bool) (prefix : List ℕ) (taken beside : Names) (n : List ℕ) → (fits n ≡ true → P n) → ((i : ℕ) → P (numbered prefix i)) → P (given_name fits prefix taken beside n)
given-is P fits prefix taken beside n f g = by (fits n) refl (not (is_among n taken))
  where
    number : P (free_name prefix (taken ++ beside))
    number = let p = is-number prefix (taken ++ beside) in subst P (sym p.1) (g p.0)

    by : (b : Bool) → fits n ≡ b → (a : Bool) → P (cond (b && a) n (free_name prefix (taken ++ beside)))
    by true e true = f e
    by true e false = number
    by false e a = number

pub of-fresh : (Q : List ℕ → Type 0) (t ns : Names) → FreshNames Q t ns → (n : List ℕ) → is_among n ns ≡ true → (is_among n t ≡ false) × Q n
of-fresh Q t [] h n k = absurd (true≢false (sym k))
of-fresh Q t (m ∷ ns) h n k = elim (either (bytes_eq n m) (is_among n ns) k) [
  | inl e ↦ subst (λ (z : List ℕ). (is_among z t ≡ false) × Q z) (sym ((bytes_eq-Decides n m).0 e)) (h.0, h.1)
  | inr b ↦ (let r = of-fresh Q (m ∷ t) ns h.2 n b in (not-in n t (m ∷ t) (λ x j. or-right (bytes_eq x m) (is_among x t) j) r.0, r.1))
]
