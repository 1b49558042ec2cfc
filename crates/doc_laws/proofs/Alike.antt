-- Names that are taken to stand for values don't change which name is given.
use Rattle.std.proofs.Common.{◌≡◌, ℕ, zero, suc, Bool, true, false, true≢false, ◌&&◌, ◌||◌, not, cond, List, [], ◌∷◌, ◌++◌, length, codes, bytes_eq, refl, ap, sym, subst, ◌∙◌}
use Rattle.std.specs.Str.{chars}
use Rattle.std.proofs.lemmas.Slice.Eq.{bytes_eq-Decides}
use Rattle.unicode_ident.proofs.Computing.{unicode_ident}
use Rattle.naming_defs.specs.Names.{Names, is_among, numbered, first_free, free_name, as_value, taking, item_is_good, given_name, item_name}
use Rattle.naming_defs.specs.Good.{spells_identifier, is_good_name}
use Rattle.naming_defs.proofs.Good.{known, numbered_names_are_good}
use Rattle.naming_defs.proofs.Free.{free-name}
use Rattle.good_names.proofs.First.{among_both}

abbrev T : List ℕ
T = codes "Type"

-- good names are among both or among none
abbrev pub Alike : Names → Names → Type 0
Alike s t = (n : List ℕ) → is_good_name n ≡ true → is_among n s ≡ is_among n t

-- ---- a good name stands for no value

no_value : (m : List ℕ) → spells_identifier (chars (as_value m)) ≡ false
unfolding chars unicode_ident
no_value [] = refl
no_value (b ∷ m) = refl

value_apart : (n m : List ℕ) → is_good_name n ≡ true → bytes_eq n (as_value m) ≡ false
value_apart n m g = by (bytes_eq n (as_value m)) refl
  where
    by : (b : Bool) → bytes_eq n (as_value m) ≡ b → b ≡ false
    by true e =
        let same = (bytes_eq-Decides n (as_value m)).0 e in
        absurd (true≢false (sym (known n g).identifier ∙ ap (λ z. spells_identifier (chars z)) same ∙ no_value m))
    by false e = refl

pub taking_alike : (v : Bool) (n : List ℕ) (s t : Names) → Alike s t → Alike (n ∷ s) (taking v n t)
taking_alike false n s t h m g = ap (λ b. bytes_eq m n || b) (h m g)
taking_alike true n s t h m g = ap (λ b. bytes_eq m n || b) (h m g) ∙ sym (ap (λ b. b || (bytes_eq m n || is_among m t)) (value_apart m n g))

-- ---- the first free number

module _ (s t : Names) (h : (i : ℕ) → is_among (numbered T i) s ≡ is_among (numbered T i) t) where
  first_same : (j k i : ℕ) → is_among (first_free T s j i) s ≡ false → is_among (first_free T t k i) t ≡ false → first_free T s j i ≡ first_free T t k i
  first_same zero zero i e f = refl
  first_same zero (suc k) i e f = sym (ap (λ b. cond b (first_free T t k (suc i)) (numbered T i)) (sym (h i) ∙ e))
  first_same (suc j) zero i e f = ap (λ b. cond b (first_free T s j (suc i)) (numbered T i)) (h i ∙ f)
  first_same (suc j) (suc k) i e f = by (is_among (numbered T i) s) refl (first_same j k (suc i)) e f
    where
      by : (b : Bool) → is_among (numbered T i) s ≡ b
          → (is_among (first_free T s j (suc i)) s ≡ false → is_among (first_free T t k (suc i)) t ≡ false → first_free T s j (suc i) ≡ first_free T t k (suc i))
          → is_among (cond b (first_free T s j (suc i)) (numbered T i)) s ≡ false → is_among (cond (is_among (numbered T i) t) (first_free T t k (suc i)) (numbered T i)) t ≡ false
          → cond b (first_free T s j (suc i)) (numbered T i) ≡ cond (is_among (numbered T i) t) (first_free T t k (suc i)) (numbered T i)
      by true c rec x y =
          let d : is_among (numbered T i) t ≡ true = sym (h i) ∙ c in
          rec x (sym (ap (λ b. is_among (cond b (first_free T t k (suc i)) (numbered T i)) t) d) ∙ y) ∙ sym (ap (λ b. cond b (first_free T t k (suc i)) (numbered T i)) d)
      by false c rec x y = sym (ap (λ b. cond b (first_free T t k (suc i)) (numbered T i)) (sym (h i) ∙ c))

  free_same : free_name T s ≡ free_name T t
  free_same = first_same (length s) (length t) 0 (free-name T s) (free-name T t)

beside_alike : (s t beside : Names) → Alike s t → (i : ℕ) → is_among (numbered T i) (s ++ beside) ≡ is_among (numbered T i) (t ++ beside)
beside_alike s t beside h i =
    let n = numbered T i in among_both n s beside ∙ ap (λ b. b || is_among n beside) (h n (numbered_names_are_good.items i)) ∙ sym (among_both n t beside)

-- ---- so the same name is given

good_part : (a b : Bool) → (a && b) ≡ true → a ≡ true
good_part true b h = refl
good_part false b h = absurd (true≢false (sym h))

pub name_alike : (beside s t : Names) (n : List ℕ) → Alike s t → item_name is_good_name beside s n ≡ item_name is_good_name beside t n
name_alike beside s t n h = by (item_is_good is_good_name n) refl
  where
    free : free_name T (s ++ beside) ≡ free_name T (t ++ beside)
    free = free_same (s ++ beside) (t ++ beside) (beside_alike s t beside h)

    by : (b : Bool) → item_is_good is_good_name n ≡ b → cond (b && not (is_among n s)) n (free_name T (s ++ beside)) ≡ cond (b && not (is_among n t)) n (free_name T (t ++ beside))
    by true e = let same = h n (good_part (is_good_name n) _ e) in λ i. cond (not (same i)) n (free i)
    by false e = free
