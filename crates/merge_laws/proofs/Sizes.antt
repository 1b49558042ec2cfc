-- The greater least and the lesser greatest size say what both sides say.
use Rattle.std.proofs.Common.{◌≡◌, ℕ, min, max, List, [], ◌∷◌, ◌++◌, length, Bool, true, false, cond, ◌&&◌, not, Option, Some, None, refl, ap, sym, ◌∙◌, subst, bytes_eq, arith}
use Rattle.std.specs.Prelude.{nat_le, filter, chars, if◌then◌else◌}
use Rattle.std.specs.List.{list_all}
use Rattle.std.proofs.lemmas.Bool.{le-leb, leb-true}
use Rattle.std.proofs.lemmas.Bool.Decides.{Decides-ltb}
use Rattle.std.proofs.lemmas.List.Folds.{list_all-append}
use Rattle.std.proofs.lemmas.Slice.Eq.{bytes_eq-Decides}
use Rattle.json_value.specs.Value.{Value, text}
use Rattle.schema_defs.specs.Texts.{Relations}
use Rattle.schema_defs.specs.Schema.{Texts}
use Rattle.schema_defs.specs.Layer.{if_given, within, texts_agree}
use Rattle.merge_defs.specs.Outcome.{answer, never_unless, of_clash, either}
use Rattle.merge_defs.specs.Alike.{same_texts}
use Rattle.merge_defs.specs.Leaves.{sizes_cross, each_once, joined_texts, two_texts}
use Rattle.merge_laws.specs.Laws.{Meets, Given}
use Rattle.merge_laws.proofs.Steps.{no_no, and-1, and-2, and-in, meets-exactly, meets-never}
use Rattle.merge_laws.proofs.Leaves.{same_bools}

and-true : (b : Bool) → b ≡ (b && true)
and-true true = refl
and-true false = refl

pub either_says : {A : Type 0} (h : A → Bool) (f : A → A → A) → ((a b : A) → h (f a b) ≡ (h a && h b)) → (x y : Option A) → if_given h (either f x y) ≡ (if_given h x && if_given h y)
either_says h f e None y = refl
either_says h f e (Some a) None = and-true (h a)
either_says h f e (Some a) (Some b) = e a b

least : (n a b : ℕ) → nat_le (max a b) n ≡ (nat_le a n && nat_le b n)
least n a b = same_bools _ _
    (λ h. and-in _ _ (le-leb a n (omega (arith, leb-true (max a b) n h))) (le-leb b n (omega (arith, leb-true (max a b) n h))))
    (λ h. le-leb (max a b) n (omega (arith, leb-true a n (and-1 (nat_le a n) _ h), leb-true b n (and-2 (nat_le a n) _ h))))

greatest : (n a b : ℕ) → nat_le n (min a b) ≡ (nat_le n a && nat_le n b)
greatest n a b = same_bools _ _
    (λ h. and-in _ _ (le-leb n a (omega (arith, leb-true n (min a b) h))) (le-leb n b (omega (arith, leb-true n (min a b) h))))
    (λ h. le-leb n (min a b) (omega (arith, leb-true n a (and-1 (nat_le n a) _ h), leb-true n b (and-2 (nat_le n a) _ h))))

-- of four tests the two pairs, the other way
pub and-pairs : (a b c d : Bool) → ((a && b) && (c && d)) ≡ ((a && c) && (b && d))
and-pairs false b c d = refl
and-pairs true false false d = refl
and-pairs true false true d = refl
and-pairs true true c d = refl

pub within_both : (n : ℕ) (l l' m m' : Option ℕ) → within (either max l l') (either min m m') n ≡ (within l m n && within l' m' n)
within_both n l l' m m' =
    (λ i. either_says (λ a. nat_le a n) max (least n) l l' i && either_says (λ a. nat_le n a) min (greatest n) m m' i)
    ∙ and-pairs (if_given (λ a. nat_le a n) l) _ _ _

-- sizes that cross leave none
pub crossed : (l m : Option ℕ) (n : ℕ) → sizes_cross l m ≡ true → within l m n ≡ true → ⊥
crossed None m n h w = no_no h
crossed (Some a) None n h w = no_no h
crossed (Some a) (Some b) n h w =
    let p = (Decides-ltb b a).0 h in
    let q = leb-true a n (and-1 (nat_le a n) _ w) in
    let s = leb-true n b (and-2 (nat_le a n) _ w) in
    absurd (omega (arith, p, q, s))

-- ---- texts

all-without : {A : Type 0} (f g : A → Bool) (x : A) → ((a : A) → g a ≡ false → f x ≡ true → f a ≡ true) → (xs : List A) → (f x && list_all f (filter g xs)) ≡ (f x && list_all f xs)
all-without f g x h [] = refl
all-without f g x h (a ∷ bs) = cases (f x) refl (g a) refl (all-without f g x h bs)
  where
    cases : (b : Bool) → f x ≡ b → (c : Bool) → g a ≡ c → (f x && list_all f (filter g bs)) ≡ (f x && list_all f bs)
        → (b && list_all f (cond c (a ∷ filter g bs) (filter g bs))) ≡ (b && (f a && list_all f bs))
    cases false e c k i = refl
    cases true e true k i = ap (λ t. f a && t) (sym (ap (λ t. t && list_all f (filter g bs)) e) ∙ i ∙ ap (λ t. t && list_all f bs) e)
    cases true e false k i = sym (ap (λ t. t && list_all f (filter g bs)) e) ∙ i ∙ ap (λ t. t && list_all f bs) e ∙ sym (ap (λ t. t && list_all f bs) (h a k e))

once_says : (f : List ℕ → Bool) (ps : List (List ℕ)) → list_all f (each_once ps) ≡ list_all f ps
once_says f [] = refl
once_says f (p ∷ ps) = all-without f (λ q. not (bytes_eq p q)) p (λ q e t. subst (λ x. f x ≡ true) ((bytes_eq-Decides p q).0 (not-false _ e)) t) (each_once ps) ∙ ap (λ b. f p && b) (once_says f ps)
  where
    not-false : (b : Bool) → not b ≡ false → b ≡ true
    not-false true h = refl
    not-false false h = sym h

-- what the keywords of texts say of a value
abbrev pub texts_say : Relations → Value → Texts → Bool
texts_say r (text s) t = texts_agree r s t
texts_say r _ t = true

abbrev pub is_text : Value → Bool
is_text (text s) = true
is_text _ = false

module _ (r : Relations) where
  joined_texts_say : (s : List ℕ) (x y : Texts) → texts_agree r s (joined_texts x y) ≡ (texts_agree r s x && texts_agree r s y)
  joined_texts_say s x y =
      (λ i. within_both (length (chars s)) x.min_length y.min_length x.max_length y.max_length i && (once_says (λ p. r.matches p s) (x.patterns ++ y.patterns) ∙ list_all-append (λ p. r.matches p s) x.patterns y.patterns) i)
      ∙ and-pairs (within x.min_length x.max_length (length (chars s))) _ _ _

  pub joined_says : (v : Value) (x y : Texts) → texts_say r v (joined_texts x y) ≡ (texts_say r v x && texts_say r v y)
  joined_says (text s) x y = joined_texts_say s x y
  joined_says _ x y = refl

  no_text : (v : Value) (x : Texts) → is_text v ≡ true → sizes_cross x.min_length x.max_length ≡ true → texts_say r v x ≡ true → ⊥
  no_text (text s) x t h k = crossed x.min_length x.max_length (length (chars s)) h (and-1 (within x.min_length x.max_length (length (chars s))) _ k)
  no_text _ x t h k = no_no t

  -- `c` is what is known: it says of `whole` that the value is a text
  pub two_texts_meet : (v : Value) (c whole : Bool) → (c ≡ true → whole ≡ true → is_text v ≡ true) → (same_ones : (x y : Texts) → same_texts x y ≡ true → x ≡ y) → (x y : Texts)
      → Meets (Given (λ t. Unit {0})) (c && (texts_say r v x && texts_say r v y)) (λ o. c && if_given (texts_say r v) o) (two_texts whole x y)
  two_texts_meet v c whole known same_ones x y = cases (same_texts x y) refl (sizes_cross (joined_texts x y).min_length (joined_texts x y).max_length) refl
    where
      twice : (a b : Bool) → a ≡ b → a ≡ (a && b)
      twice true b h = h
      twice false b h = refl

      cases : (a : Bool) → same_texts x y ≡ a → (b : Bool) → sizes_cross (joined_texts x y).min_length (joined_texts x y).max_length ≡ b
          → Meets (Given (λ t. Unit {0})) (c && (texts_say r v x && texts_say r v y)) (λ o. c && if_given (texts_say r v) o) (if a then answer [] (Some x) else if b then never_unless whole of_clash else answer [] (Some (joined_texts x y)))
      cases true e b _ = meets-exactly (Given (λ t. Unit {0})) _ (λ o. c && if_given (texts_say r v) o) [] (Some x) tt (ap (λ b. c && b) (twice _ _ (ap (texts_say r v) (same_ones x y e))))
      cases false _ true h = meets-never (Given (λ t. Unit {0})) _ (λ o. c && if_given (texts_say r v) o) whole of_clash
          (λ k t. no_text v (joined_texts x y) (known (and-1 c _ t) k) h (joined_says v x y ∙ and-2 c _ t))
      cases false _ false _ = meets-exactly (Given (λ t. Unit {0})) _ (λ o. c && if_given (texts_say r v) o) [] (Some (joined_texts x y)) tt (ap (λ b. c && b) (joined_says v x y))
