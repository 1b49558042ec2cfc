-- What is told of the fields that count, and which is marked, by the count of them.
use Rattle.std.proofs.Common.{◌≡◌, ℕ, zero, suc, ◌+◌, ◌<◌, ◌≤◌, List, [], ◌∷◌, Bool, true, false, cond, map, drop, length, get_or, set, refl, ap, sym, ◌∙◌, subst, arith}
use Rattle.std.specs.Prelude.{filter}
use Rattle.std.proofs.lemmas.List.{length-map}
use Rattle.token_trees.specs.declared.token.Span.{Span}
use Rattle.attr_parts.specs.declared.derive.Derive.{Derive}
use Rattle.attr_parts.specs.Diagnostics.{DiagnosticD, transparent_many}
use Rattle.container_defs.specs.Checks.{told_if, counts, none_counts, counting_told, mark_if, is_one, mark_counting}
use Rattle.container_defs.specs.Container.{ReadField}
use Rattle.derive_ast.specs.declared.checks.transparent.Count.{Count}
use Rattle.derive_ast.specs.declared.checks.transparent.Count.TheVariants.{None as NoField, One, Many}
use Rattle.derive_ast.specs.Counts.{count_with, first_counts, behind_first, count_of, counted, count_told, mark_nth, mark_by}
use Rattle.derive_ast.proofs.Loops.{mapped_drop}

-- ---- counting one after the other

on_first : (k : Count) (i : ℕ) (m : Count) → counted k i (first_counts m) ≡ counted (count_with i k) (suc i) m
on_first k i NoField = let e : i + 0 ≡ i = omega arith in ap (λ n. count_with n k) e
on_first NoField i (One n) = refl
on_first (One j) i (One n) = refl
on_first Many i (One n) = refl
on_first k i Many = refl

on_behind : (k : Count) (i : ℕ) (m : Count) → counted k i (behind_first m) ≡ counted k (suc i) m
on_behind k i NoField = refl
on_behind k i (One n) = let e : i + suc n ≡ suc i + n = omega arith in ap (λ j. count_with j k) e
on_behind k i Many = refl

on_any : (b : Bool) (k : Count) (i : ℕ) (m : Count) → counted k i (cond b (first_counts m) (behind_first m)) ≡ counted (cond b (count_with i k) k) (suc i) m
on_any true k i m = on_first k i m
on_any false k i m = on_behind k i m

-- in a loop over fields
pub next_count : {X : Type 0} (derive : Derive) (v : X → ReadField) (xs : List X) (k : Count) (i : ℕ) (x : X) → i < length xs → x ≡ get_or xs i x
    → counted k i (count_of derive (map v (drop i xs))) ≡ counted (cond (counts derive (v x)) (count_with i k) k) (i + 1) (count_of derive (map v (drop (i + 1) xs)))
next_count derive v xs k i x h e =
    ap (λ fs. counted k i (count_of derive fs)) (mapped_drop v xs i x h e)
    ∙ on_any (counts derive (v x)) k i (count_of derive (map v (drop (i + 1) xs)))
    ∙ ap (λ n. counted (cond (counts derive (v x)) (count_with i k) k) n (count_of derive (map v (drop (i + 1) xs)))) (let n : suc i ≡ i + 1 = omega arith in n)

-- of none before
pub from_none : (k : Count) → counted NoField 0 k ≡ k
from_none NoField = refl
from_none (One n) = let e : 0 + n ≡ n = omega arith in ap One e
from_none Many = refl

-- ---- none, one or more

data Number : Type 0 where
  none : Number
  single : Number
  more : Number

abbrev of_count : Count → Number
of_count NoField = none
of_count (One n) = single
of_count Many = more

abbrev of_list : List ReadField → Number
of_list [] = none
of_list (f ∷ []) = single
of_list (f ∷ g ∷ fs) = more

abbrev next_number : Number → Number
next_number none = single
next_number single = more
next_number more = more

count_first : (k : Count) → of_count (first_counts k) ≡ next_number (of_count k)
count_first NoField = refl
count_first (One n) = refl
count_first Many = refl

count_behind : (k : Count) → of_count (behind_first k) ≡ of_count k
count_behind NoField = refl
count_behind (One n) = refl
count_behind Many = refl

list_first : (f : ReadField) (fs : List ReadField) → of_list (f ∷ fs) ≡ next_number (of_list fs)
list_first f [] = refl
list_first f (g ∷ []) = refl
list_first f (g ∷ h ∷ fs) = refl

number_on : (b : Bool) (k : Count) (f : ReadField) (fs : List ReadField) → of_count k ≡ of_list fs → of_count (cond b (first_counts k) (behind_first k)) ≡ of_list (cond b (f ∷ fs) fs)
number_on true k f fs h = count_first k ∙ ap next_number h ∙ sym (list_first f fs)
number_on false k f fs h = count_behind k ∙ h

same_number : (derive : Derive) (fs : List ReadField) → of_count (count_of derive fs) ≡ of_list (filter (counts derive) fs)
same_number derive [] = refl
same_number derive (f ∷ fs) = number_on (counts derive f) (count_of derive fs) f (filter (counts derive) fs) (same_number derive fs)

-- ---- what is told

abbrev told_of : Derive → Number → Span → List DiagnosticD
told_of derive none at = told_if true (none_counts derive) at
told_of derive single at = []
told_of derive more at = told_if true transparent_many at

count_tells : (derive : Derive) (k : Count) (at : Span) → count_told derive k at ≡ told_of derive (of_count k) at
count_tells derive NoField at = refl
count_tells derive (One n) at = refl
count_tells derive Many at = refl

list_tells : (derive : Derive) (fs : List ReadField) (at : Span) → counting_told derive fs at ≡ told_of derive (of_list fs) at
list_tells derive [] at = refl
list_tells derive (f ∷ []) at = refl
list_tells derive (f ∷ g ∷ fs) at = refl

pub told_by_count : (derive : Derive) (fs : List ReadField) (at : Span) → count_told derive (count_of derive fs) at ≡ counting_told derive (filter (counts derive) fs) at
told_by_count derive fs at =
    count_tells derive (count_of derive fs) at
    ∙ ap (λ n. told_of derive n at) (same_number derive fs)
    ∙ sym (list_tells derive (filter (counts derive) fs) at)

-- ---- which is marked

abbrev is_single : Number → Bool
is_single none = false
is_single single = true
is_single more = false

one_by_number : (fs : List ReadField) → is_one fs ≡ is_single (of_list fs)
one_by_number [] = refl
one_by_number (f ∷ []) = refl
one_by_number (f ∷ g ∷ fs) = refl

module _ (derive : Derive) where
  abbrev mark : ReadField → ReadField
  mark f = mark_if (counts derive f) f

  none_on : (b : Bool) (k : Count) (f : ReadField) (fs gs : List ReadField) → (k ≡ NoField → gs ≡ fs) → cond b (first_counts k) (behind_first k) ≡ NoField → mark_if b f ∷ gs ≡ f ∷ fs
  none_on true NoField f fs gs h e = cc
  none_on true (One n) f fs gs h e = cc
  none_on true Many f fs gs h e = cc
  none_on false NoField f fs gs h e = ap (λ l. f ∷ l) (h refl)
  none_on false (One n) f fs gs h e = cc
  none_on false Many f fs gs h e = cc

  -- where none counts none is marked
  none_marked : (fs : List ReadField) → count_of derive fs ≡ NoField → map mark fs ≡ fs
  none_marked [] e = refl
  none_marked (f ∷ fs) e = none_on (counts derive f) (count_of derive fs) f fs (map mark fs) (none_marked fs) e

  mark_on : (b : Bool) (k : Count) (f : ReadField) (fs gs : List ReadField)
      → (k ≡ NoField → gs ≡ fs)
      → mark_by k fs ≡ cond (is_single (of_count k)) gs fs
      → mark_by (cond b (first_counts k) (behind_first k)) (f ∷ fs) ≡ cond (is_single (of_count (cond b (first_counts k) (behind_first k)))) (mark_if b f ∷ gs) (f ∷ fs)
  mark_on true NoField f fs gs n h = ap (λ l. mark_if true f ∷ l) (sym (n refl))
  mark_on true (One i) f fs gs n h = refl
  mark_on true Many f fs gs n h = refl
  mark_on false NoField f fs gs n h = refl
  mark_on false (One i) f fs gs n h = ap (λ l. f ∷ l) h
  mark_on false Many f fs gs n h = refl

  mark_single : (fs : List ReadField) → mark_by (count_of derive fs) fs ≡ cond (is_single (of_count (count_of derive fs))) (map mark fs) fs
  mark_single [] = refl
  mark_single (f ∷ fs) = mark_on (counts derive f) (count_of derive fs) f fs (map mark fs) (none_marked fs) (mark_single fs)

  pub mark_by_count : (fs : List ReadField) → mark_by (count_of derive fs) fs ≡ mark_counting derive fs
  mark_by_count fs =
      mark_single fs
      ∙ ap (λ n. cond (is_single n) (map mark fs) fs) (same_number derive fs)
      ∙ ap (λ b. cond b (map mark fs) fs) (sym (one_by_number (filter (counts derive) fs)))

-- ---- one of several is marked where it stands

pub marked_at : {X : Type 0} (v : X → ReadField) (xs : List X) (n : ℕ) (x y : X) → n < length xs → x ≡ get_or xs n x → v y ≡ mark_if true (v x) → map v (set xs n y) ≡ mark_nth n (map v xs)
marked_at v [] n x y h e m = absurd (let k : ⊥ = omega arith in k)
marked_at v (z ∷ xs) zero x y h e m = ap (λ f. f ∷ map v xs) (m ∙ ap (λ w. mark_if true (v w)) e)
marked_at v (z ∷ xs) (suc n) x y h e m = ap (λ fs. v z ∷ fs) (marked_at v xs n x y (let k : n < length xs = omega arith in k) e m)

pub none_at : (n : ℕ) (fs : List ReadField) → length fs ≤ n → mark_nth n fs ≡ fs
none_at n [] h = refl
none_at zero (f ∷ fs) h = absurd (let k : ⊥ = omega arith in k)
none_at (suc n) (f ∷ fs) h = ap (λ l. f ∷ l) (none_at n fs (let k : length fs ≤ n = omega arith in k))

pub none_at_list : {X : Type 0} (v : X → ReadField) (n : ℕ) (xs : List X) → length xs ≤ n → mark_nth n (map v xs) ≡ map v xs
none_at_list v n xs h = none_at n (map v xs) (subst (λ k. k ≤ n) (sym (length-map xs v)) h)
