-- Names that rise are each there once, and what is left out of names that differ leaves names that differ.
use Rattle.std.proofs.Common.{◌≡◌, ℕ, List, [], ◌∷◌, Bool, true, false, ◌&&◌, ◌||◌, not, refl, sym, ap, ◌∙◌, true≢false, bytes_eq}
use Rattle.std.specs.Prelude.{if◌then◌else◌}
use Rattle.std.specs.List.{list_all}
use Rattle.std.proofs.lemmas.Slice.Eq.{bytes_eq-Decides}
use Rattle.enum_defs.specs.Words.{is_name}
use Rattle.merge_defs.specs.Objects.{is_below, put_before, put_name, put_names, all_names}
use Rattle.convert_defs.specs.Apart.{differ}

both : (a b : Bool) → a ≡ true → b ≡ true → (a && b) ≡ true
both true b h k = k
both false b h k = h

pub left : (a b : Bool) → (a && b) ≡ true → a ≡ true
left true b h = refl
left false b h = h

pub right : (a b : Bool) → (a && b) ≡ true → b ≡ true
right true b h = h
right false b h = absurd (true≢false (sym h))

-- the same test either way round
turned : (n m : List ℕ) → not (bytes_eq n m) ≡ true → not (bytes_eq m n) ≡ true
turned n m h = by (bytes_eq m n) refl
  where
    by : (b : Bool) → bytes_eq m n ≡ b → not b ≡ true
    by true e = absurd (true≢false (sym (sym (ap not ((bytes_eq-Decides n m).1 (sym ((bytes_eq-Decides m n).0 e)))) ∙ h)))
    by false e = refl

-- a name that is put among others
put-all : (f : List ℕ → Bool) (n : List ℕ) (ms : List (List ℕ)) → f n ≡ true → list_all f ms ≡ true → list_all f (put_before n ms) ≡ true
put-all f n [] h g = both (f n) true h refl
put-all f n (m ∷ ms) h g = by (is_below n m) (put-all f n ms h (right (f m) (list_all f ms) g))
  where
    by : (b : Bool) → list_all f (put_before n ms) ≡ true → list_all f (if b then n ∷ m ∷ ms else m ∷ put_before n ms) ≡ true
    by true k = both (f n) (list_all f (m ∷ ms)) h g
    by false k = both (f m) (list_all f (put_before n ms)) (left (f m) (list_all f ms) g) k

is-none : (n : List ℕ) (ms : List (List ℕ)) → is_name n ms ≡ false → list_all (λ m. not (bytes_eq n m)) ms ≡ true
is-none n [] h = refl
is-none n (m ∷ ms) h = by (bytes_eq n m) h (is-none n ms)
  where
    by : (b : Bool) → (b || is_name n ms) ≡ false → (is_name n ms ≡ false → list_all (λ m. not (bytes_eq n m)) ms ≡ true) → (not b && list_all (λ m. not (bytes_eq n m)) ms) ≡ true
    by true h f = absurd (true≢false h)
    by false h f = f h

put-differs : (n : List ℕ) (ms : List (List ℕ)) → list_all (λ m. not (bytes_eq n m)) ms ≡ true → differ ms ≡ true → differ (put_before n ms) ≡ true
put-differs n [] h g = refl
put-differs n (m ∷ ms) h g = by (is_below n m) (put-differs n ms (right (not (bytes_eq n m)) (list_all (λ k. not (bytes_eq n k)) ms) h) (right (list_all (λ k. not (bytes_eq m k)) ms) (differ ms) g))
  where
    by : (b : Bool) → differ (put_before n ms) ≡ true → differ (if b then n ∷ m ∷ ms else m ∷ put_before n ms) ≡ true
    by true k = both (list_all (λ k. not (bytes_eq n k)) (m ∷ ms)) (differ (m ∷ ms)) h g
    by false k =
        both (list_all (λ k. not (bytes_eq m k)) (put_before n ms)) (differ (put_before n ms))
        (put-all (λ k. not (bytes_eq m k)) n ms (turned n m (left (not (bytes_eq n m)) (list_all (λ k. not (bytes_eq n k)) ms) h)) (left (list_all (λ k. not (bytes_eq m k)) ms) (differ ms) g))
        k

name-differs : (n : List ℕ) (ms : List (List ℕ)) → differ ms ≡ true → differ (put_name n ms) ≡ true
name-differs n ms h = by (is_name n ms) refl
  where
    by : (b : Bool) → is_name n ms ≡ b → differ (if b then ms else put_before n ms) ≡ true
    by true e = h
    by false e = put-differs n ms (is-none n ms e) h

names-differ : (ns ms : List (List ℕ)) → differ ms ≡ true → differ (put_names ns ms) ≡ true
names-differ [] ms h = h
names-differ (n ∷ ns) ms h = name-differs n (put_names ns ms) (names-differ ns ms h)

pub all-names-differ : (ns ms : List (List ℕ)) → differ (all_names ns ms) ≡ true
all-names-differ ns ms = names-differ ns (put_names ms []) (names-differ ms [] refl)

-- ms are some of ns, in their order
pub record Some_of (ns ms : List (List ℕ)) : Type 0 where
  pub all_pass : (f : List ℕ → Bool) → list_all f ns ≡ true → list_all f ms ≡ true
  pub differ_too : differ ns ≡ true → differ ms ≡ true

pub none-of : Some_of [] []
none-of = record { all_pass = λ f h. h; differ_too = λ h. h }

pub one-left-out : (n : List ℕ) (ns ms : List (List ℕ)) → Some_of ns ms → Some_of (n ∷ ns) ms
one-left-out n ns ms s = record {
  all_pass = λ f h. s.all_pass f (right (f n) (list_all f ns) h);
  differ_too = λ h. s.differ_too (right (list_all (λ m. not (bytes_eq n m)) ns) (differ ns) h);
}

pub one-more : (n : List ℕ) (ns ms : List (List ℕ)) → Some_of ns ms → Some_of (n ∷ ns) (n ∷ ms)
one-more n ns ms s = record {
  all_pass = λ f h. both (f n) (list_all f ms) (left (f n) (list_all f ns) h) (s.all_pass f (right (f n) (list_all f ns) h));
  differ_too = λ h. both (list_all (λ m. not (bytes_eq n m)) ms) (differ ms) (s.all_pass (λ m. not (bytes_eq n m)) (left (list_all (λ m. not (bytes_eq n m)) ns) (differ ns) h)) (s.differ_too (right (list_all (λ m. not (bytes_eq n m)) ns) (differ ns) h));
}
