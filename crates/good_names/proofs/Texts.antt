-- Good names are the texts that are kept.
use Rattle.std.proofs.Common.{◌≡◌, ◌↔◌, IsTrue, ℕ, List, Bool, true, false, ◌&&◌, ◌||◌, not, bytes_eq, codes, chars, IsUtf8, refl, sym, ap, ◌∙◌}
use Rattle.std.specs.Str.{is_utf8}
use Rattle.std.proofs.lemmas.Str.{is_utf8-from_IsUtf8}
use Rattle.std.proofs.lemmas.Slice.Eq.{bytes_eq-Decides}
use Rattle.unicode_normalization.specs.Forms.{Nfc, normalize, is_nfc}
use Rattle.naming_defs.specs.Good.{is_good_name, is_composed, spells_identifier}
use Rattle.schema_tree.specs.KeptName as form
use Rattle.schema_tree.specs.KeptName.{is_kept_name, is_one_of}

same_answers : (a b : Bool) → (a ≡ true → b ≡ true) → (b ≡ true → a ≡ true) → a ≡ b
same_answers true b f g = sym (f refl)
same_answers false true f g = g refl
same_answers false false f g = refl

turned : (m n : List ℕ) → bytes_eq m n ≡ bytes_eq n m
turned m n = same_answers (bytes_eq m n) (bytes_eq n m) (λ e. (bytes_eq-Decides n m).1 (sym ((bytes_eq-Decides m n).0 e))) (λ e. (bytes_eq-Decides m n).1 (sym ((bytes_eq-Decides n m).0 e)))

-- `_`, `Self`, keywords and primitive types are none of them there
none_of : (s c a b k p : Bool) → ((s && not (a || b || k || p)) && c) ≡ (true && s && c && not (a || (b || k)) && not p)
none_of false c a b k p = refl
none_of true true true b k p = refl
none_of true true false true k p = refl
none_of true true false false true p = refl
none_of true true false false false true = refl
none_of true true false false false false = refl
none_of true false true b k p = refl
none_of true false false true k p = refl
none_of true false false false true p = refl
none_of true false false false false true = refl
none_of true false false false false false = refl

pub kept_is_good : (n : List ℕ) → IsUtf8 n → (is_kept_name n && is_composed n) ≡ is_good_name n
kept_is_good n u =
    let s = spells_identifier (chars n) in
    let k = is_one_of form.keywords n in
    let p = is_one_of form.primitive_types n in
    none_of s (is_composed n) (bytes_eq n (codes "_")) (bytes_eq n (codes "Self")) k p
    ∙ (λ i. sym (is_utf8-from_IsUtf8 n u) i && s && is_composed n && not (turned n (codes "_") i || (turned n (codes "Self") i || k)) && not p)

-- a text is in its composed form as the test says
pub in_form : (b : Bool) (cs : List ℕ) → IsTrue b ↔ (normalize Nfc cs ≡ cs) → b ≡ is_nfc cs
in_form b cs h =
    same_answers b (is_nfc cs) (λ e. (bytes_eq-Decides (normalize Nfc cs) cs).1 (h.0 e)) (λ e. h.1 ((bytes_eq-Decides (normalize Nfc cs) cs).0 e))
