-- What a good name is. Names that are numbered are identifiers, and no words of Rust's own.
use Rattle.std.proofs.Common.{◌≡◌, ℕ, zero, suc, ◌+◌, ◌<◌, List, [], ◌∷◌, length, get_or, map, true, false, not, ◌&&◌, ◌||◌, bytes_eq, refl, ap, ◌∙◌, subst, lit≤, arith}
use Rattle.std.specs.Prelude.{◌==◌}
use Rattle.std.specs.List.{list_all, AllByRecursion}
use Rattle.std.specs.Char.{is_ascii_alphabetic, is_ascii_alphanumeric}
use Rattle.std.specs.Int.{is_in_range}
use Rattle.std.specs.Int.Digits.{digits_of}
use Rattle.std.specs.Str.{chars, is_utf8, IsUtf8, IsAscii}
use Rattle.std.proofs.lemmas.Bool.{and_parts, le-leb}
use Rattle.std.proofs.lemmas.Slice.Eq.{bytes_eq-Decides}
use Rattle.std.proofs.lemmas.Int.Digits.{all_below_base_digits_of}
use Rattle.std.proofs.lemmas.Str.{chars-IsAscii, IsUtf8-from_is_utf8, is_utf8-from_IsUtf8, IsUtf8-from_ascii}
use Rattle.unicode_ident.specs.Ident.{is_xid_start, is_xid_continue}
use Rattle.unicode_ident.proofs.IdentLemmas.{is_xid_start-ascii, is_xid_continue-ascii}
use Rattle.unicode_normalization.specs.Forms.{Nfc, normalize}
use Rattle.unicode_normalization.proofs.FormsLemmas.{normalize-ascii}
use Rattle.schema_defs.specs.Location.{place}
use Rattle.model_defs.proofs.Flat.{not_true}
use Rattle.naming_defs.specs.Good.{spells_identifier, is_composed, keywords, primitive_types, is_one_of, is_good_name, NumberedNamesAreGood}

-- ---- what is known of a good name

pub record Known (n : List ℕ) : Type 0 where
  pub text : IsUtf8 n
  pub identifier : spells_identifier (chars n) ≡ true
  pub composed : is_composed n ≡ true
  pub no_keyword : is_one_of keywords n ≡ false
  pub no_primitive : is_one_of primitive_types n ≡ false

pub known : (n : List ℕ) → is_good_name n ≡ true → Known n
known n g =
    let spells = is_utf8 n && spells_identifier (chars n) in
    let named = spells && is_composed n in
    let whole = and_parts (named && not (is_one_of keywords n)) (not (is_one_of primitive_types n)) g in
    let own = and_parts named (not (is_one_of keywords n)) whole.0 in
    let formed = and_parts spells (is_composed n) own.0 in
    let spelled = and_parts (is_utf8 n) (spells_identifier (chars n)) formed.0 in
    record { text = IsUtf8-from_is_utf8 n spelled.0; identifier = spelled.1; composed = formed.1; no_keyword = not_true (is_one_of keywords n) own.1; no_primitive = not_true (is_one_of primitive_types n) whole.1 }

-- ---- digits

digit-continues : (d : ℕ) → d < 10 → is_xid_continue (48 + d) ≡ true
digit-continues d h = is_xid_continue-ascii (48 + d) (omega arith)
    ∙ (λ i. (((le-leb 48 (48 + d) (omega arith) i && le-leb (48 + d) 57 (omega arith) i) || is_in_range 65 90 (48 + d)) || is_in_range 97 122 (48 + d)) || (48 + d == 95))

digits-continue : (ds : List ℕ) → AllByRecursion (λ d. d < 10) ds → list_all is_xid_continue (map (λ d. 48 + d) ds) ≡ true
digits-continue [] h = refl
digits-continue (d ∷ ds) h = let a = digit-continues d h.0 in let b = digits-continue ds h.1 in λ i. a i && b i

place-continues : (n : ℕ) → list_all is_xid_continue (place n) ≡ true
unfolding place
place-continues zero = let a = digit-continues 0 (lit≤ tt) in λ i. a i && true
place-continues (suc n) = digits-continue (digits_of 10 (suc n)) (all_below_base_digits_of 10 (suc n) (lit≤ tt))

-- ---- ASCII

cons-ascii : (c : ℕ) (cs : List ℕ) → c < 128 → IsAscii cs → IsAscii (c ∷ cs)
cons-ascii c cs h g zero = h
cons-ascii c cs h g (suc i) = g i

digits-ascii : (ds : List ℕ) → AllByRecursion (λ d. d < 10) ds → IsAscii (map (λ d. 48 + d) ds)
digits-ascii [] h = λ i. lit≤ tt
digits-ascii (d ∷ ds) h = cons-ascii (48 + d) (map (λ d. 48 + d) ds) (let a : d < 10 = h.0 in omega arith) (digits-ascii ds h.1)

pub place-ascii : (n : ℕ) → IsAscii (place n)
unfolding place
place-ascii zero = cons-ascii 48 [] (lit≤ tt) (λ i. lit≤ tt)
place-ascii (suc n) = digits-ascii (digits_of 10 (suc n)) (all_below_base_digits_of 10 (suc n) (lit≤ tt))

in_bounds : (n : List ℕ) (k d : ℕ) → k < length n → get_or n k 0 ≡ get_or n k d
in_bounds [] k d l = absurd (omega (arith, l))
in_bounds (c ∷ cs) zero d l = refl
in_bounds (c ∷ cs) (suc k) d l = in_bounds cs k d (omega (arith, l))

-- composing leaves ASCII as it is (Unicode Standard Annex 15)
composed : (n : List ℕ) → IsAscii n → is_composed n ≡ true
composed n h =
    let same : normalize Nfc n ≡ n = normalize-ascii Nfc n (λ k d l. subst (λ z. z < 128) (in_bounds n k d l) (h k)) in
    ap (λ cs. bytes_eq (normalize Nfc cs) cs) (chars-IsAscii n h) ∙ (bytes_eq-Decides (normalize Nfc n) n).1 same

is_text : (cs : List ℕ) → IsAscii cs → is_utf8 cs ≡ true
is_text cs h = is_utf8-from_IsUtf8 cs (IsUtf8-from_ascii cs h)

-- ---- the three prefixes

starts : (c : ℕ) (h : c < 128) → is_ascii_alphabetic c ≡ true → is_xid_start c ≡ true
starts c h g = is_xid_start-ascii c h ∙ g

goes-on : (c : ℕ) (h : c < 128) → (is_ascii_alphanumeric c || (c == 95)) ≡ true → is_xid_continue c ≡ true
goes-on c h g = is_xid_continue-ascii c h ∙ g

type-good : (n : ℕ) → is_good_name (84 ∷ 121 ∷ 112 ∷ 101 ∷ place n) ≡ true
type-good n = λ i. is_text (84 ∷ 121 ∷ 112 ∷ 101 ∷ place n) ascii i && spelled i && composed (84 ∷ 121 ∷ 112 ∷ 101 ∷ place n) ascii i && true && true
  where
    ascii : IsAscii (84 ∷ 121 ∷ 112 ∷ 101 ∷ place n)
    ascii = cons-ascii 84 (121 ∷ 112 ∷ 101 ∷ place n) (lit≤ tt) (cons-ascii 121 (112 ∷ 101 ∷ place n) (lit≤ tt) (cons-ascii 112 (101 ∷ place n) (lit≤ tt) (cons-ascii 101 (place n) (lit≤ tt) (place-ascii n))))

    spelled : spells_identifier (chars (84 ∷ 121 ∷ 112 ∷ 101 ∷ place n)) ≡ true
    spelled = ap spells_identifier (chars-IsAscii (84 ∷ 121 ∷ 112 ∷ 101 ∷ place n) ascii)
        ∙ (λ i. (starts 84 (lit≤ tt) refl i || false) && (goes-on 121 (lit≤ tt) refl i && (goes-on 112 (lit≤ tt) refl i && (goes-on 101 (lit≤ tt) refl i && place-continues n i))))

field-good : (n : ℕ) → is_good_name (102 ∷ 105 ∷ 101 ∷ 108 ∷ 100 ∷ place n) ≡ true
field-good n = λ i. is_text (102 ∷ 105 ∷ 101 ∷ 108 ∷ 100 ∷ place n) ascii i && spelled i && composed (102 ∷ 105 ∷ 101 ∷ 108 ∷ 100 ∷ place n) ascii i && true && true
  where
    ascii : IsAscii (102 ∷ 105 ∷ 101 ∷ 108 ∷ 100 ∷ place n)
    ascii = cons-ascii 102 (105 ∷ 101 ∷ 108 ∷ 100 ∷ place n) (lit≤ tt) (cons-ascii 105 (101 ∷ 108 ∷ 100 ∷ place n) (lit≤ tt) (cons-ascii 101 (108 ∷ 100 ∷ place n) (lit≤ tt) (cons-ascii 108 (100 ∷ place n) (lit≤ tt) (cons-ascii 100 (place n) (lit≤ tt) (place-ascii n)))))

    spelled : spells_identifier (chars (102 ∷ 105 ∷ 101 ∷ 108 ∷ 100 ∷ place n)) ≡ true
    spelled = ap spells_identifier (chars-IsAscii (102 ∷ 105 ∷ 101 ∷ 108 ∷ 100 ∷ place n) ascii)
        ∙ (λ i. (starts 102 (lit≤ tt) refl i || false) && (goes-on 105 (lit≤ tt) refl i && (goes-on 101 (lit≤ tt) refl i && (goes-on 108 (lit≤ tt) refl i && (goes-on 100 (lit≤ tt) refl i && place-continues n i)))))

variant-good : (n : ℕ) → is_good_name (86 ∷ 97 ∷ 114 ∷ 105 ∷ 97 ∷ 110 ∷ 116 ∷ place n) ≡ true
variant-good n = λ i. is_text (86 ∷ 97 ∷ 114 ∷ 105 ∷ 97 ∷ 110 ∷ 116 ∷ place n) ascii i && spelled i && composed (86 ∷ 97 ∷ 114 ∷ 105 ∷ 97 ∷ 110 ∷ 116 ∷ place n) ascii i && true && true
  where
    ascii : IsAscii (86 ∷ 97 ∷ 114 ∷ 105 ∷ 97 ∷ 110 ∷ 116 ∷ place n)
    ascii = cons-ascii 86 (97 ∷ 114 ∷ 105 ∷ 97 ∷ 110 ∷ 116 ∷ place n) (lit≤ tt) (cons-ascii 97 (114 ∷ 105 ∷ 97 ∷ 110 ∷ 116 ∷ place n) (lit≤ tt) (cons-ascii 114 (105 ∷ 97 ∷ 110 ∷ 116 ∷ place n) (lit≤ tt) (cons-ascii 105 (97 ∷ 110 ∷ 116 ∷ place n) (lit≤ tt) (cons-ascii 97 (110 ∷ 116 ∷ place n) (lit≤ tt) (cons-ascii 110 (116 ∷ place n) (lit≤ tt) (cons-ascii 116 (place n) (lit≤ tt) (place-ascii n)))))))

    spelled : spells_identifier (chars (86 ∷ 97 ∷ 114 ∷ 105 ∷ 97 ∷ 110 ∷ 116 ∷ place n)) ≡ true
    spelled = ap spells_identifier (chars-IsAscii (86 ∷ 97 ∷ 114 ∷ 105 ∷ 97 ∷ 110 ∷ 116 ∷ place n) ascii)
        ∙ (λ i. (starts 86 (lit≤ tt) refl i || false) && (goes-on 97 (lit≤ tt) refl i && (goes-on 114 (lit≤ tt) refl i && (goes-on 105 (lit≤ tt) refl i && (goes-on 97 (lit≤ tt) refl i && (goes-on 110 (lit≤ tt) refl i && (goes-on 116 (lit≤ tt) refl i && place-continues n i)))))))

pub numbered_names_are_good : NumberedNamesAreGood
numbered_names_are_good = record { items = type-good; fields = field-good; variants = variant-good }
