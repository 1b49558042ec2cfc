-- A set of texts, and a table of patterns, one more at a time.
use Rattle.std.proofs.Common.{◌≡◌, ℕ, List, [], ◌∷◌, ◌++◌, ◌||◌, Bool, true, false, cond, bytes_eq, string_bytes, Option, Some, None, is_some, refl, ap, sym, ◌∙◌}
use Rattle.std.proofs.lemmas.List.Folds.{list_any-append}
use Rattle.std.specs.List.{list_any}
use Rattle.std.specs.Option.{option_map_or}
use Rattle.std.specs.Ordering.{nat_cmp}
use Rattle.std.specs.Cmp.Lexicographic.{slice_cmp}
use Rattle.std.specs.String.{string_cmp}
use Rattle.std.specs.BTreeMap.{BTreeMap, UpdatesBy, get_by_text}
use Rattle.std.specs.BTreeSet.{BTreeSet, contains_text}
use Rattle.std.specs.declared.string.String.{String}
use Rattle.std.proofs.lemmas.Map.Text.{btree_map_updates_text}
use Rattle.std.proofs.lemmas.Slice.Eq.{bytes_eq-Decides}
use Rattle.schema_texts.proofs.Bools.{bytes_eq_swap}

either_way : (a b c : Bool) → c ≡ b → cond c true a ≡ (a || (b || false))
either_way true true c h = rw h refl
either_way true false c h = rw h refl
either_way false true c h = rw h refl
either_way false false c h = rw h refl

-- one more text in a set
pub text_more : {Y : Type 0} (s : List ℕ) (xs : List (String Y)) (y : String Y) (old new : Bool)
    → old ≡ list_any (λ t. bytes_eq s (string_bytes t)) xs → new ≡ cond (bytes_eq (string_bytes y) s) true old
    → new ≡ list_any (λ t. bytes_eq s (string_bytes t)) (xs ++ y ∷ [])
text_more s xs y old new h e =
    e ∙ ap (λ o. cond (bytes_eq (string_bytes y) s) true o) h
    ∙ either_way (list_any (λ t. bytes_eq s (string_bytes t)) xs) (bytes_eq s (string_bytes y)) (bytes_eq (string_bytes y) s) (bytes_eq_swap (string_bytes y) s)
    ∙ sym (list_any-append (λ t. bytes_eq s (string_bytes t)) xs (y ∷ []))

pub is_some_cond : {X : Type 0} (t : Bool) (v : X) (o : Option X) → is_some (cond t (Some v) o) ≡ (t || is_some o)
is_some_cond true v o = refl
is_some_cond false v o = refl

-- ---- a pattern entered in a table

-- what a table has at the bytes of a text, after the pattern of bytes bs got the value w
pub entered : {Y X : Type 0} (bs : List ℕ) (m n : BTreeMap (String Y) X) (w : X)
    → UpdatesBy string_cmp (λ k. slice_cmp nat_cmp bs (string_bytes k)) m n (Some w)
    → (p : List ℕ) → get_by_text n p ≡ cond (bytes_eq bs p) (Some w) (get_by_text m p)
entered bs m n w u p = btree_map_updates_text bs m n (Some w) u p

pub pattern_entered : {Y X : Type 0} (bs : List ℕ) (m n : BTreeMap (String Y) X) (w : X)
    → UpdatesBy string_cmp (λ k. slice_cmp nat_cmp bs (string_bytes k)) m n (Some w)
    → (p : List ℕ) → is_some (get_by_text n p) ≡ (bytes_eq bs p || is_some (get_by_text m p))
pattern_entered bs m n w u p = ap is_some (entered bs m n w u p) ∙ is_some_cond (bytes_eq bs p) w (get_by_text m p)

pub texts_entered : {Y Z : Type 0} (bs : List ℕ) (m n : BTreeMap (String Y) (BTreeSet (String Z))) (w : BTreeSet (String Z))
    → UpdatesBy string_cmp (λ k. slice_cmp nat_cmp bs (string_bytes k)) m n (Some w)
    → (s : List ℕ) → option_map_or (λ texts. contains_text texts s) (get_by_text n bs) false ≡ contains_text w s
texts_entered bs m n w u s =
    ap (λ o. option_map_or (λ texts. contains_text texts s) o false)
    (entered bs m n w u bs ∙ ap (λ t. cond t (Some w) (get_by_text m bs)) ((bytes_eq-Decides bs bs).1 refl))

pub others_kept : {Y Z : Type 0} (bs : List ℕ) (m n : BTreeMap (String Y) (BTreeSet (String Z))) (w : BTreeSet (String Z))
    → UpdatesBy string_cmp (λ k. slice_cmp nat_cmp bs (string_bytes k)) m n (Some w)
    → (p s : List ℕ) → bytes_eq bs p ≡ false
    → option_map_or (λ texts. contains_text texts s) (get_by_text n p) false ≡ option_map_or (λ texts. contains_text texts s) (get_by_text m p) false
others_kept bs m n w u p s other =
    ap (λ o. option_map_or (λ texts. contains_text texts s) o false)
    (entered bs m n w u p ∙ ap (λ t. cond t (Some w) (get_by_text m p)) other)
