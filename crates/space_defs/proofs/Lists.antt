-- Members of lists, and lists that agree place by place.
use Rattle.std.proofs.Common.{◌≡◌, ◌⊎◌, inl, inr, ℕ, zero, suc, ◌<◌, List, [], ◌∷◌, ◌++◌, map, length, get_or, Contains, flat_map, Bool, true, false, ◌||◌, refl, sym, ap, ◌∙◌, subst, true≢false, bytes_eq, arith}
use Rattle.std.specs.List.{AllZip, AllByRecursion}
use Rattle.std.proofs.lemmas.Slice.Eq.{bytes_eq-Decides}
use Rattle.model_defs.specs.Reach.{is_among}

abbrev pub In : {A : Type 0} → A → List A → Type 0
In x [] = ⊥
In x (y ∷ ys) = (y ≡ x) ⊎ In x ys

pub in_left : {A : Type 0} (x : A) (xs ys : List A) → In x xs → In x (xs ++ ys)
in_left x [] ys h = absurd h
in_left x (y ∷ xs) ys (inl e) = inl e
in_left x (y ∷ xs) ys (inr h) = inr (in_left x xs ys h)

pub in_right : {A : Type 0} (x : A) (xs ys : List A) → In x ys → In x (xs ++ ys)
in_right x [] ys h = h
in_right x (y ∷ xs) ys h = inr (in_right x xs ys h)

pub in_either : {A : Type 0} (x : A) (xs ys : List A) → In x (xs ++ ys) → In x xs ⊎ In x ys
in_either x [] ys h = inr h
in_either x (y ∷ xs) ys (inl e) = inl (inl e)
in_either x (y ∷ xs) ys (inr h) = let r = in_either x xs ys h in elim r [ inl a ↦ inl (inr a) | inr b ↦ inr b ]

pub in_flat : {A B : Type 0} (f : A → List B) (b : B) (x : A) (xs : List A) → In x xs → In b (f x) → In b (flat_map f xs)
in_flat f b x [] h g = absurd h
in_flat f b x (y ∷ ys) (inl e) g = in_left b (f y) (flat_map f ys) (subst (λ z. In b (f z)) (sym e) g)
in_flat f b x (y ∷ ys) (inr h) g = in_right b (f y) (flat_map f ys) (in_flat f b x ys h g)

pub record OfFlat {A B : Type 0} (f : A → List B) (b : B) (xs : List A) : Type 0 where
  pub of : A
  pub among : In of xs
  pub inside : In b (f of)

abbrev pub of_flat : {A B : Type 0} (f : A → List B) (b : B) (xs : List A) → In b (flat_map f xs) → OfFlat f b xs
of_flat f b [] h = absurd h
of_flat f b (y ∷ ys) h =
    let rec = of_flat f b ys in
    elim (in_either b (f y) (flat_map f ys) h) [
      | inl a ↦ record { of = y; among = inl refl; inside = a }
      | inr c ↦ let r = rec c in record { of = r.of; among = inr r.among; inside = r.inside }
    ]

pub record OfMap {A B : Type 0} (f : A → B) (b : B) (xs : List A) : Type 0 where
  pub of : A
  pub among : In of xs
  pub is : f of ≡ b

abbrev pub of_map : {A B : Type 0} (f : A → B) (b : B) (xs : List A) → In b (map f xs) → OfMap f b xs
of_map f b [] h = absurd h
of_map f b (y ∷ ys) (inl e) = record { of = y; among = inl refl; is = e }
of_map f b (y ∷ ys) (inr h) = let r = of_map f b ys h in record { of = r.of; among = inr r.among; is = r.is }

pub in_map : {A B : Type 0} (f : A → B) (x : A) (xs : List A) → In x xs → In (f x) (map f xs)
in_map f x [] h = absurd h
in_map f x (y ∷ ys) (inl e) = inl (ap f e)
in_map f x (y ∷ ys) (inr h) = inr (in_map f x ys h)

pub all_in : {A : Type 0} (P : A → Type 0) (x : A) (xs : List A) → AllByRecursion P xs → In x xs → P x
all_in P x [] a h = absurd h
all_in P x (y ∷ ys) a (inl e) = subst P e a.0
all_in P x (y ∷ ys) a (inr h) = all_in P x ys a.1 h

-- a member of one of two lists that agree has one of the other
pub record Beside {A B : Type 0} (R : A → B → Type 0) (x : A) (ys : List B) : Type 0 where
  pub other : B
  pub among : In other ys
  pub related : R x other

abbrev pub zip_left : {A B : Type 0} (R : A → B → Type 0) (x : A) (xs : List A) (ys : List B) → AllZip R xs ys → In x xs → Beside R x ys
zip_left R x [] ys z h = absurd h
zip_left R x (a ∷ xs) [] z h = absurd z
zip_left R x (a ∷ xs) (b ∷ ys) z (inl e) = record { other = b; among = inl refl; related = subst (λ w. R w b) e z.0 }
zip_left R x (a ∷ xs) (b ∷ ys) z (inr h) = let r = zip_left R x xs ys z.1 h in record { other = r.other; among = inr r.among; related = r.related }

abbrev pub zip_right : {A B : Type 0} (R : A → B → Type 0) (y : B) (xs : List A) (ys : List B) → AllZip R xs ys → In y ys → Beside (λ b a. R a b) y xs
zip_right R y xs [] z h = absurd h
zip_right R y [] (b ∷ ys) z h = absurd z
zip_right R y (a ∷ xs) (b ∷ ys) z (inl e) = record { other = a; among = inl refl; related = subst (λ w. R a w) e z.0 }
zip_right R y (a ∷ xs) (b ∷ ys) z (inr h) = let r = zip_right R y xs ys z.1 h in record { other = r.other; among = inr r.among; related = r.related }

-- ---- numbers

contains_from : (x : ℕ) (xs : List ℕ) (k : ℕ) → k < length xs → get_or xs k x ≡ x → In x xs
contains_from x [] k l e = absurd (omega arith)
contains_from x (y ∷ ys) zero l e = inl e
contains_from x (y ∷ ys) (suc k) l e = inr (contains_from x ys k (omega arith) e)

pub contains_in : (x : ℕ) (xs : List ℕ) → Contains xs x → In x xs
contains_in x xs c = contains_from x xs c.0 c.1 c.2

pub in_contains : (x : ℕ) (xs : List ℕ) → In x xs → Contains xs x
in_contains x [] h = absurd h
in_contains x (y ∷ ys) (inl e) = (0, omega arith, e)
in_contains x (y ∷ ys) (inr h) = let r = in_contains x ys h in let l : r.0 < length ys = r.1 in (suc r.0, omega arith, r.2)

-- ---- names

pub same_names : (n m : List ℕ) → m ≡ n → bytes_eq n m ≡ true
same_names n m e = (bytes_eq-Decides n m).1 (sym e)

pub or_right : (a b : Bool) → b ≡ true → (a || b) ≡ true
or_right true b h = refl
or_right false b h = h

pub in_among : (n : List ℕ) (ns : List (List ℕ)) → In n ns → is_among n ns ≡ true
in_among n [] h = absurd h
in_among n (m ∷ ns) (inl e) = ap (λ b. b || is_among n ns) (same_names n m e)
in_among n (m ∷ ns) (inr h) = or_right (bytes_eq n m) (is_among n ns) (in_among n ns h)

pub among_in : (n : List ℕ) (ns : List (List ℕ)) → is_among n ns ≡ true → In n ns
among_in n [] h = absurd (true≢false (sym h))
among_in n (m ∷ ns) h =
    let rec = among_in n ns in
    elim (bytes_eq n m) as (λ b. bytes_eq n m ≡ b → (b || is_among n ns) ≡ true → (m ≡ n) ⊎ In n ns) [
      | true ↦ λ e k. inl (sym ((bytes_eq-Decides n m).0 e))
      | false ↦ λ e k. inr (rec k)
    ] refl h

-- a name that differs from all isn't among them
pub differs : (n : List ℕ) (ns : List (List ℕ)) → AllByRecursion (λ y. bytes_eq n y ≡ false) ns → In n ns → ⊥
differs n [] a h = absurd h
differs n (m ∷ ns) a (inl e) = true≢false (sym (same_names n m e) ∙ a.0)
differs n (m ∷ ns) a (inr h) = differs n ns a.1 h

-- ---- answers

pub same_bools : (a b : Bool) → (a ≡ true → b ≡ true) → (b ≡ true → a ≡ true) → a ≡ b
same_bools true b f g = sym (f refl)
same_bools false true f g = g refl
same_bools false false f g = refl

pub length_map : {A B : Type 0} (f : A → B) (xs : List A) → length (map f xs) ≡ length xs
length_map f [] = refl
length_map f (x ∷ xs) = ap suc (length_map f xs)
