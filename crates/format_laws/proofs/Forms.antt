-- The four forms of a UUID, for both readers.
use Rattle.std.proofs.Common.{◌≡◌, ◌∙◌, sym, ap, ℕ, ◌<◌, List, [], ◌∷◌, true, false, cond, ◌==◌, ◌&&◌, ◌||◌, length, take, drop, slice_index, bytes_eq, nat_eq, None, is_some, true≢false, arith}
use Rattle.std.specs.List.{list_all, starts_with}
use Rattle.std.specs.Cmp.Lexicographic.{pointwise}
use Rattle.std.proofs.lemmas.Bool.{and_from, and_parts, eq-eqb, eqb-true}
use Rattle.std.proofs.lemmas.List.{drop_all, length-drop}
use Rattle.std.proofs.lemmas.Slice.Eq.{bytes_eq-Decides}
use Rattle.std.proofs.Math.Seq.{drop-cons}
use Rattle.schema_defs.specs.Formats.{all_hex, is_braced, is_hyphenated, is_urn, is_uuid}
use Rattle.uuid.specs.Text.{has_hyphens, has_urn_prefix, is_hex_digit, digits_of, parsed, parsed_braced, parsed_hyphenated, parsed_simple, parsed_urn}
use Rattle.format_laws.proofs.Bools.{chosen, same_bools, some_cond, some_where}
use Rattle.format_laws.proofs.Groups.{hyphenated_same, hyphenated_test, same_digits, simple_test}

-- ---- thirty-two digits

simple_same : (s : List ℕ) → is_some (parsed_simple s) ≡ all_hex 32 s
simple_same s = simple_test s ∙ ap (λ t. (length s == 32) && t) (same_digits s)

simple_length : (s : List ℕ) → is_some (parsed_simple s) ≡ true → length s ≡ 32
simple_length s h = eqb-true (length s) 32 (and_parts (length s == 32) (list_all is_hex_digit s) (sym (simple_test s) ∙ h)).0

hyphenated_length : (s : List ℕ) → is_some (parsed_hyphenated s) ≡ true → length s ≡ 36
hyphenated_length s h =
    let k = and_parts ((length s == 36) && has_hyphens s) (list_all is_hex_digit (digits_of s)) (sym (hyphenated_test s) ∙ h) in
    eqb-true (length s) 36 (and_parts (length s == 36) (has_hyphens s) k.0).0

-- ---- in braces

braced_test : (s : List ℕ) → is_some (parsed_braced s)
    ≡ ((length s == 38) && (slice_index s 0 == 123) && (slice_index s 37 == 125) && is_hyphenated (take 36 (drop 1 s)))
braced_test s =
    some_where ((length s == 38) && (slice_index s 0 == 123) && (slice_index s 37 == 125)) (parsed_hyphenated (take 36 (drop 1 s)))
    ∙ ap (λ t. (length s == 38) && (slice_index s 0 == 123) && (slice_index s 37 == 125) && t) (hyphenated_same (take 36 (drop 1 s)))

begins : (s : List ℕ) → 0 < length s → slice_index s 0 ≡ 123 → starts_with nat_eq s (123 ∷ []) ≡ true
begins [] lt e = absurd (omega arith)
begins (c ∷ s) lt e = ap (λ x. starts_with nat_eq (x ∷ s) (123 ∷ [])) e

begun_by : (s : List ℕ) → starts_with nat_eq s (123 ∷ []) ≡ true → slice_index s 0 ≡ 123
begun_by [] h = absurd (true≢false (sym h))
begun_by (c ∷ s) h = sym (eqb-true 123 c (and_parts (123 == c) (pointwise nat_eq [] (take 0 s)) h).0)

end_of : (s : List ℕ) → length s ≡ 38 → drop 37 s ≡ slice_index s 37 ∷ []
end_of s len = drop-cons s 37 0 (omega arith) ∙ ap (λ r. slice_index s 37 ∷ r) (drop_all 38 s (omega arith))

closes : (s : List ℕ) → length s ≡ 38 → slice_index s 37 ≡ 125 → bytes_eq (drop 37 s) (125 ∷ []) ≡ true
closes s len e = ap (λ r. bytes_eq r (125 ∷ [])) (end_of s len ∙ ap (λ x. x ∷ []) e)

closed_length : (s : List ℕ) → bytes_eq (drop 37 s) (125 ∷ []) ≡ true → length s ≡ 38
closed_length s h =
    let e : drop 37 s ≡ 125 ∷ [] = (bytes_eq-Decides (drop 37 s) (125 ∷ [])).0 h in
    let n : length (drop 37 s) ≡ 1 = ap length e in
    omega (arith, length-drop 37 s)

first_of_rest : (x y : ℕ) (r t : List ℕ) → x ∷ r ≡ y ∷ t → x ≡ y
first_of_rest x y r t e = ap (λ s. slice_index s 0) e

closed_by : (s : List ℕ) → bytes_eq (drop 37 s) (125 ∷ []) ≡ true → slice_index s 37 ≡ 125
closed_by s h =
    let e : drop 37 s ≡ 125 ∷ [] = (bytes_eq-Decides (drop 37 s) (125 ∷ [])).0 h in
    first_of_rest _ _ [] [] (sym (end_of s (closed_length s h)) ∙ e)

to_braced : (s : List ℕ) → is_some (parsed_braced s) ≡ true → is_braced s ≡ true
to_braced s h =
    let k = and_parts ((length s == 38) && (slice_index s 0 == 123) && (slice_index s 37 == 125)) (is_hyphenated (take 36 (drop 1 s))) (sym (braced_test s) ∙ h) in
    let l = and_parts ((length s == 38) && (slice_index s 0 == 123)) (slice_index s 37 == 125) k.0 in
    let m = and_parts (length s == 38) (slice_index s 0 == 123) l.0 in
    let len : length s ≡ 38 = eqb-true (length s) 38 m.0 in
    and_from _ _ (and_from _ _ (begins s (omega arith) (eqb-true (slice_index s 0) 123 m.1)) (closes s len (eqb-true (slice_index s 37) 125 l.1))) k.1

from_braced : (s : List ℕ) → is_braced s ≡ true → is_some (parsed_braced s) ≡ true
from_braced s h =
    let k = and_parts (starts_with nat_eq s (123 ∷ []) && bytes_eq (drop 37 s) (125 ∷ [])) (is_hyphenated (take 36 (drop 1 s))) h in
    let l = and_parts (starts_with nat_eq s (123 ∷ [])) (bytes_eq (drop 37 s) (125 ∷ [])) k.0 in
    braced_test s
    ∙ and_from _ _ (and_from _ _ (and_from _ _ (eq-eqb (length s) 38 (closed_length s l.1)) (eq-eqb (slice_index s 0) 123 (begun_by s l.0)))
    (eq-eqb (slice_index s 37) 125 (closed_by s l.1))) k.1

braced_same : (s : List ℕ) → is_some (parsed_braced s) ≡ is_braced s
braced_same s = same_bools _ _ (to_braced s) (from_braced s)

braced_length : (s : List ℕ) → is_some (parsed_braced s) ≡ true → length s ≡ 38
braced_length s h =
    let k = and_parts ((length s == 38) && (slice_index s 0 == 123) && (slice_index s 37 == 125)) (is_hyphenated (take 36 (drop 1 s))) (sym (braced_test s) ∙ h) in
    let l = and_parts ((length s == 38) && (slice_index s 0 == 123)) (slice_index s 37 == 125) k.0 in
    eqb-true (length s) 38 (and_parts (length s == 38) (slice_index s 0 == 123) l.0).0

-- ---- as a URN

urn_test : (s : List ℕ) → is_some (parsed_urn s) ≡ ((length s == 45) && has_urn_prefix s && is_hyphenated (drop 9 s))
urn_test s =
    some_where ((length s == 45) && has_urn_prefix s) (parsed_hyphenated (drop 9 s))
    ∙ ap (λ t. (length s == 45) && has_urn_prefix s && t) (hyphenated_same (drop 9 s))

to_urn : (s : List ℕ) → is_some (parsed_urn s) ≡ true → is_urn s ≡ true
to_urn s h =
    let k = and_parts ((length s == 45) && has_urn_prefix s) (is_hyphenated (drop 9 s)) (sym (urn_test s) ∙ h) in
    and_from _ _ (and_parts (length s == 45) (has_urn_prefix s) k.0).1 k.1

from_urn : (s : List ℕ) → is_urn s ≡ true → is_some (parsed_urn s) ≡ true
from_urn s h =
    let k = and_parts (has_urn_prefix s) (is_hyphenated (drop 9 s)) h in
    let rest : length (drop 9 s) ≡ 36 = hyphenated_length (drop 9 s) (hyphenated_same (drop 9 s) ∙ k.1) in
    let len : length s ≡ 45 = omega (arith, length-drop 9 s) in
    urn_test s ∙ and_from _ _ (and_from _ _ (eq-eqb (length s) 45 len) k.0) k.1

urn_same : (s : List ℕ) → is_some (parsed_urn s) ≡ is_urn s
urn_same s = same_bools _ _ (to_urn s) (from_urn s)

urn_length : (s : List ℕ) → is_some (parsed_urn s) ≡ true → length s ≡ 45
urn_length s h =
    let k = and_parts ((length s == 45) && has_urn_prefix s) (is_hyphenated (drop 9 s)) (sym (urn_test s) ∙ h) in
    eqb-true (length s) 45 (and_parts (length s == 45) (has_urn_prefix s) k.0).0

-- ---- any form

parsed_test : (s : List ℕ) → is_some (parsed s)
    ≡ cond (length s == 32) (is_some (parsed_simple s)) (cond (length s == 36) (is_some (parsed_hyphenated s))
    (cond (length s == 38) (is_some (parsed_braced s)) (cond (length s == 45) (is_some (parsed_urn s)) false)))
parsed_test s =
    some_cond (length s == 32) (parsed_simple s) _
    ∙ ap (cond (length s == 32) (is_some (parsed_simple s))) (some_cond (length s == 36) (parsed_hyphenated s) _
    ∙ ap (cond (length s == 36) (is_some (parsed_hyphenated s))) (some_cond (length s == 38) (parsed_braced s) _
    ∙ ap (cond (length s == 38) (is_some (parsed_braced s))) (some_cond (length s == 45) (parsed_urn s) None)))

pub uuid_same : (s : List ℕ) → is_some (parsed s) ≡ is_uuid s
unfolding is_uuid
uuid_same s =
    parsed_test s
    ∙ chosen (length s) (is_some (parsed_simple s)) (is_some (parsed_hyphenated s)) (is_some (parsed_braced s)) (is_some (parsed_urn s))
    (simple_length s) (hyphenated_length s) (braced_length s) (urn_length s)
    ∙ ap (λ t. t || is_some (parsed_simple s) || is_some (parsed_braced s) || is_some (parsed_urn s)) (hyphenated_same s)
    ∙ ap (λ t. is_hyphenated s || t || is_some (parsed_braced s) || is_some (parsed_urn s)) (simple_same s)
    ∙ ap (λ t. is_hyphenated s || all_hex 32 s || t || is_some (parsed_urn s)) (braced_same s)
    ∙ ap (λ t. is_hyphenated s || all_hex 32 s || is_braced s || t) (urn_same s)
