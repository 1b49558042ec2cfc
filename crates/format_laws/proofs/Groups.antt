-- The hyphenated form: five groups of digits of sixteen with hyphens between them, for both readers.
use Rattle.std.proofs.Common.{◌≡◌, ◌∙◌, sym, ap, subst, ℕ, ◌+◌, ◌<◌, List, [], ◌∷◌, ◌++◌, Bool, true, false, ◌==◌, ◌&&◌, nat_le, length, slice_index, Some, is_some, refl, true≢false}
use Rattle.std.specs.List.{list_all}
use Rattle.std.specs.Char.{is_ascii_hexdigit}
use Rattle.std.proofs.lemmas.Bool.{and_from, and_parts, eq-eqb, eqb-true, ne_eqb}
use Rattle.std.proofs.lemmas.List.{get_or_default}
use Rattle.std.proofs.lemmas.List.Folds.{list_all-append}
use Rattle.schema_defs.specs.Formats.{all_hex, are_uuid_groups, is_hyphenated, pieces}
use Rattle.uuid.specs.Text.{by_index, byte_of_digits, digits_of, has_hyphens, is_hex_digit, parsed_hyphenated, parsed_simple}
use Rattle.uuid.proofs.TextLemmas.{by_index_length, by_index_same}
use Rattle.format_laws.proofs.Bools.{and_true, or_turned, same_bools, some_where}

-- ---- digits

same_digit : (c : ℕ) → is_hex_digit c ≡ is_ascii_hexdigit c
same_digit c = or_turned (nat_le 48 c && nat_le c 57) (nat_le 97 c && nat_le c 102) (nat_le 65 c && nat_le c 70)

pub same_digits : (s : List ℕ) → list_all is_hex_digit s ≡ list_all is_ascii_hexdigit s
same_digits [] = refl
same_digits (c ∷ s) = ap (λ t. t && list_all is_hex_digit s) (same_digit c) ∙ ap (λ t. is_ascii_hexdigit c && t) (same_digits s)

not_hyphen : (c : ℕ) → is_ascii_hexdigit c ≡ true → (c == 45) ≡ false
not_hyphen c h = ne_eqb c 45 (λ e. true≢false (sym h ∙ ap is_ascii_hexdigit e))

-- ---- pieces between hyphens

cut : (p rest : List ℕ) → list_all is_ascii_hexdigit p ≡ true → pieces 45 (p ++ 45 ∷ rest) ≡ p ∷ pieces 45 rest
cut [] rest h = refl
cut (c ∷ p) rest h = let k = and_parts (is_ascii_hexdigit c) (list_all is_ascii_hexdigit p) h in rw (not_hyphen c k.0, cut p rest k.1) refl

last : (p : List ℕ) → list_all is_ascii_hexdigit p ≡ true → pieces 45 p ≡ p ∷ []
last [] h = refl
last (c ∷ p) h = let k = and_parts (is_ascii_hexdigit c) (list_all is_ascii_hexdigit p) h in rw (not_hyphen c k.0, last p k.1) refl

-- pieces with hyphens between them
abbrev joined : List (List ℕ) → List ℕ
joined [] = []
joined (p ∷ []) = p
joined (p ∷ q ∷ ps) = p ++ 45 ∷ joined (q ∷ ps)

begun : (c : ℕ) (p : List ℕ) (ps : List (List ℕ)) → joined ((c ∷ p) ∷ ps) ≡ c ∷ joined (p ∷ ps)
begun c p [] = refl
begun c p (q ∷ ps) = refl

record Pieces (s : List ℕ) : Type 0 where
  first : List ℕ
  others : List (List ℕ)
  same : pieces 45 s ≡ first ∷ others
  back : joined (first ∷ others) ≡ s

one_more : (c : ℕ) (s : List ℕ) → Pieces s → (t : Bool) → (c == 45) ≡ t → Pieces (c ∷ s)
one_more c s w true e = record {
  first = [];
  others = w.first ∷ w.others;
  same = rw (e, w.same) refl;
  back = ap (λ r. 45 ∷ r) w.back ∙ ap (λ d. d ∷ s) (sym (eqb-true c 45 e));
}
one_more c s w false e = record {
  first = c ∷ w.first;
  others = w.others;
  same = rw (e, w.same) refl;
  back = begun c w.first w.others ∙ ap (λ r. c ∷ r) w.back;
}

pieces_of : (s : List ℕ) → Pieces s
pieces_of [] = record { first = []; others = []; same = refl; back = refl }
pieces_of (c ∷ s) = one_more c s (pieces_of s) (c == 45) refl

-- ---- the five groups

pub record Groups (s : List ℕ) : Type 0 where
  pub a : List ℕ
  pub b : List ℕ
  pub c : List ℕ
  pub d : List ℕ
  pub e : List ℕ
  pub whole : s ≡ a ++ 45 ∷ (b ++ 45 ∷ (c ++ 45 ∷ (d ++ 45 ∷ e)))
  pub in_a : all_hex 8 a ≡ true
  pub in_b : all_hex 4 b ≡ true
  pub in_c : all_hex 4 c ≡ true
  pub in_d : all_hex 4 d ≡ true
  pub in_e : all_hex 12 e ≡ true

digits_in : (n : ℕ) (s : List ℕ) → all_hex n s ≡ true → list_all is_ascii_hexdigit s ≡ true
digits_in n s h = (and_parts (length s == n) (list_all is_ascii_hexdigit s) h).1

length_of : (n : ℕ) (s : List ℕ) → all_hex n s ≡ true → length s ≡ n
length_of n s h = eqb-true (length s) n (and_parts (length s == n) (list_all is_ascii_hexdigit s) h).0

by_pieces : (s p : List ℕ) (ps : List (List ℕ)) → joined (p ∷ ps) ≡ s → are_uuid_groups (p ∷ ps) ≡ true → Groups s
by_pieces s a (b ∷ c ∷ d ∷ e ∷ []) j h =
    let k = and_parts (all_hex 8 a && all_hex 4 b && all_hex 4 c && all_hex 4 d) (all_hex 12 e) h in
    let l = and_parts (all_hex 8 a && all_hex 4 b && all_hex 4 c) (all_hex 4 d) k.0 in
    let m = and_parts (all_hex 8 a && all_hex 4 b) (all_hex 4 c) l.0 in
    let n = and_parts (all_hex 8 a) (all_hex 4 b) m.0 in
    record { a = a; b = b; c = c; d = d; e = e; whole = sym j; in_a = n.0; in_b = n.1; in_c = m.1; in_d = l.1; in_e = k.1 }
by_pieces s p ps j h = absurd (true≢false (sym h))

from_test : (s : List ℕ) → is_hyphenated s ≡ true → Groups s
from_test s h = let w = pieces_of s in by_pieces s w.first w.others w.back (ap are_uuid_groups (sym w.same) ∙ h)

pieces_of_groups : (a b c d e : List ℕ) → list_all is_ascii_hexdigit a ≡ true → list_all is_ascii_hexdigit b ≡ true → list_all is_ascii_hexdigit c ≡ true
    → list_all is_ascii_hexdigit d ≡ true → list_all is_ascii_hexdigit e ≡ true
    → pieces 45 (a ++ 45 ∷ (b ++ 45 ∷ (c ++ 45 ∷ (d ++ 45 ∷ e)))) ≡ a ∷ b ∷ c ∷ d ∷ e ∷ []
pieces_of_groups a b c d e at_a at_b at_c at_d at_e =
    cut a _ at_a ∙ ap (λ ps. a ∷ ps) (cut b _ at_b) ∙ ap (λ ps. a ∷ b ∷ ps) (cut c _ at_c) ∙ ap (λ ps. a ∷ b ∷ c ∷ ps) (cut d _ at_d)
    ∙ ap (λ ps. a ∷ b ∷ c ∷ d ∷ ps) (last e at_e)

to_test : (s : List ℕ) → Groups s → is_hyphenated s ≡ true
to_test s g =
    ap is_hyphenated g.whole
    ∙ ap are_uuid_groups
    (pieces_of_groups g.a g.b g.c g.d g.e (digits_in 8 g.a g.in_a) (digits_in 4 g.b g.in_b) (digits_in 4 g.c g.in_c) (digits_in 4 g.d g.in_d) (digits_in 12 g.e g.in_e))
    ∙ and_from _ _ (and_from _ _ (and_from _ _ (and_from _ _ g.in_a g.in_b) g.in_c) g.in_d) g.in_e

-- ---- the reader of crate uuid

places : (s : List ℕ) (n : ℕ) → length s ≡ n → s ≡ by_index n (slice_index s)
places s n len = by_index_same s n (slice_index s) len (λ k d h. get_or_default s k d 0 (subst (λ m. k < m) (sym len) h))

between : (ℕ → ℕ) → (ℕ → ℕ) → (ℕ → ℕ) → (ℕ → ℕ) → (ℕ → ℕ) → List ℕ
between f g h k m = by_index 8 f ++ 45 ∷ (by_index 4 g ++ 45 ∷ (by_index 4 h ++ 45 ∷ (by_index 4 k ++ 45 ∷ by_index 12 m)))

abbrev alone : (ℕ → ℕ) → (ℕ → ℕ) → (ℕ → ℕ) → (ℕ → ℕ) → (ℕ → ℕ) → List ℕ
alone f g h k m = by_index 8 f ++ (by_index 4 g ++ (by_index 4 h ++ (by_index 4 k ++ by_index 12 m)))

-- thirty-six characters, with any that stand at the places of the hyphens
abbrev spread : (ℕ → ℕ) → ℕ → ℕ → ℕ → ℕ → List ℕ
spread f w x y z =
    by_index 8 f ++ w ∷ (by_index 4 (λ i. f (9 + i)) ++ x ∷ (by_index 4 (λ i. f (14 + i)) ++ y ∷ (by_index 4 (λ i. f (19 + i)) ++ z ∷ by_index 12 (λ i. f (24 + i)))))

spread_all : (f : ℕ → ℕ) → by_index 36 f ≡ spread f (f 8) (f 13) (f 18) (f 23)
unfolding by_index
spread_all f = refl

digits_alone : (s : List ℕ) → digits_of s ≡ alone (slice_index s) (λ i. slice_index s (9 + i)) (λ i. slice_index s (14 + i)) (λ i. slice_index s (19 + i)) (λ i. slice_index s (24 + i))
unfolding by_index
digits_alone s = refl

hyphens_alone : (f g h k m : ℕ → ℕ) → has_hyphens (between f g h k m) ≡ true
unfolding by_index between
hyphens_alone f g h k m = refl

length_between : (f g h k m : ℕ → ℕ) → length (between f g h k m) ≡ 36
unfolding by_index between
length_between f g h k m = refl

digits_between : (f g h k m : ℕ → ℕ) → digits_of (between f g h k m) ≡ alone f g h k m
unfolding by_index between
digits_between f g h k m = refl

length_alone : (f g h k m : ℕ → ℕ) → length (alone f g h k m) ≡ 32
unfolding by_index
length_alone f g h k m = refl

length_digits : (s : List ℕ) → length (digits_of s) ≡ 32
length_digits s = by_index_length 32 _

-- what is parsed, as a test
pub simple_test : (s : List ℕ) → is_some (parsed_simple s) ≡ ((length s == 32) && list_all is_hex_digit s)
simple_test s = some_where ((length s == 32) && list_all is_hex_digit s) (Some (by_index 16 (byte_of_digits s))) ∙ and_true _

pub hyphenated_test : (s : List ℕ) → is_some (parsed_hyphenated s) ≡ ((length s == 36) && has_hyphens s && list_all is_hex_digit (digits_of s))
hyphenated_test s =
    some_where ((length s == 36) && has_hyphens s) (parsed_simple (digits_of s))
    ∙ ap (λ t. (length s == 36) && has_hyphens s && t) (simple_test (digits_of s) ∙ ap (λ n. (n == 32) && list_all is_hex_digit (digits_of s)) (length_digits s))

split_all : (a b c d e : List ℕ) → list_all is_ascii_hexdigit (a ++ (b ++ (c ++ (d ++ e)))) ≡ true
    → (list_all is_ascii_hexdigit a ≡ true) × (list_all is_ascii_hexdigit b ≡ true) × (list_all is_ascii_hexdigit c ≡ true)
    × (list_all is_ascii_hexdigit d ≡ true) × (list_all is_ascii_hexdigit e ≡ true)
split_all a b c d e h =
    let hex : List ℕ → Bool = list_all is_ascii_hexdigit in
    let i = and_parts (hex a) (hex (b ++ (c ++ (d ++ e)))) (sym (list_all-append is_ascii_hexdigit a (b ++ (c ++ (d ++ e)))) ∙ h) in
    let j = and_parts (hex b) (hex (c ++ (d ++ e))) (sym (list_all-append is_ascii_hexdigit b (c ++ (d ++ e))) ∙ i.1) in
    let k = and_parts (hex c) (hex (d ++ e)) (sym (list_all-append is_ascii_hexdigit c (d ++ e)) ∙ j.1) in
    let l = and_parts (hex d) (hex e) (sym (list_all-append is_ascii_hexdigit d e) ∙ k.1) in
    (i.0, j.0, k.0, l.0, l.1)

join_all : (a b c d e : List ℕ) → list_all is_ascii_hexdigit a ≡ true → list_all is_ascii_hexdigit b ≡ true → list_all is_ascii_hexdigit c ≡ true
    → list_all is_ascii_hexdigit d ≡ true → list_all is_ascii_hexdigit e ≡ true → list_all is_ascii_hexdigit (a ++ (b ++ (c ++ (d ++ e)))) ≡ true
join_all a b c d e at_a at_b at_c at_d at_e =
    let in_d = list_all-append is_ascii_hexdigit d e ∙ and_from _ _ at_d at_e in
    let in_c = list_all-append is_ascii_hexdigit c (d ++ e) ∙ and_from _ _ at_c in_d in
    let in_b = list_all-append is_ascii_hexdigit b (c ++ (d ++ e)) ∙ and_from _ _ at_b in_c in
    list_all-append is_ascii_hexdigit a (b ++ (c ++ (d ++ e))) ∙ and_from _ _ at_a in_b

hex_of : (n : ℕ) (s : List ℕ) → length s ≡ n → list_all is_ascii_hexdigit s ≡ true → all_hex n s ≡ true
hex_of n s len h = and_from _ _ (eq-eqb (length s) n len) h

from_parsed : (s : List ℕ) → is_some (parsed_hyphenated s) ≡ true → Groups s
from_parsed s h =
    let f : ℕ → ℕ = slice_index s in
    let k = and_parts ((length s == 36) && has_hyphens s) (list_all is_hex_digit (digits_of s)) (sym (hyphenated_test s) ∙ h) in
    let l = and_parts (length s == 36) (has_hyphens s) k.0 in
    let at_23 = and_parts ((f 8 == 45) && (f 13 == 45) && (f 18 == 45)) (f 23 == 45) l.1 in
    let at_18 = and_parts ((f 8 == 45) && (f 13 == 45)) (f 18 == 45) at_23.0 in
    let at_8 = and_parts (f 8 == 45) (f 13 == 45) at_18.0 in
    let all : list_all is_ascii_hexdigit (alone f (λ i. f (9 + i)) (λ i. f (14 + i)) (λ i. f (19 + i)) (λ i. f (24 + i))) ≡ true =
    ap (list_all is_ascii_hexdigit) (sym (digits_alone s)) ∙ sym (same_digits (digits_of s)) ∙ k.1 in
    let apart =
    split_all (by_index 8 f) (by_index 4 (λ i. f (9 + i))) (by_index 4 (λ i. f (14 + i))) (by_index 4 (λ i. f (19 + i))) (by_index 12 (λ i. f (24 + i))) all in
    record {
      a = by_index 8 f;
      b = by_index 4 (λ i. f (9 + i));
      c = by_index 4 (λ i. f (14 + i));
      d = by_index 4 (λ i. f (19 + i));
      e = by_index 12 (λ i. f (24 + i));
      whole =
          places s 36 (eqb-true (length s) 36 l.0) ∙ spread_all f ∙ ap (λ w. spread f w (f 13) (f 18) (f 23)) (eqb-true (f 8) 45 at_8.0)
          ∙ ap (λ x. spread f 45 x (f 18) (f 23)) (eqb-true (f 13) 45 at_8.1) ∙ ap (λ y. spread f 45 45 y (f 23)) (eqb-true (f 18) 45 at_18.1)
          ∙ ap (λ z. spread f 45 45 45 z) (eqb-true (f 23) 45 at_23.1);
      in_a = hex_of 8 _ (by_index_length 8 _) apart.0;
      in_b = hex_of 4 _ (by_index_length 4 _) apart.1;
      in_c = hex_of 4 _ (by_index_length 4 _) apart.2;
      in_d = hex_of 4 _ (by_index_length 4 _) apart.3;
      in_e = hex_of 12 _ (by_index_length 12 _) apart.4;
    }

parsed_between : (f g h k m : ℕ → ℕ) → list_all is_ascii_hexdigit (alone f g h k m) ≡ true → is_some (parsed_hyphenated (between f g h k m)) ≡ true
parsed_between f g h k m all =
    hyphenated_test (between f g h k m)
    ∙ and_from _ _ (and_from _ _ (eq-eqb _ 36 (length_between f g h k m)) (hyphens_alone f g h k m))
    (same_digits (digits_of (between f g h k m)) ∙ ap (list_all is_ascii_hexdigit) (digits_between f g h k m) ∙ all)

as_between : (a b c d e : List ℕ) → length a ≡ 8 → length b ≡ 4 → length c ≡ 4 → length d ≡ 4 → length e ≡ 12
    → a ++ 45 ∷ (b ++ 45 ∷ (c ++ 45 ∷ (d ++ 45 ∷ e))) ≡ between (slice_index a) (slice_index b) (slice_index c) (slice_index d) (slice_index e)
unfolding between
as_between a b c d e at_a at_b at_c at_d at_e =
    ap (λ x. x ++ 45 ∷ (b ++ 45 ∷ (c ++ 45 ∷ (d ++ 45 ∷ e)))) (places a 8 at_a)
    ∙ ap (λ x. by_index 8 (slice_index a) ++ 45 ∷ (x ++ 45 ∷ (c ++ 45 ∷ (d ++ 45 ∷ e)))) (places b 4 at_b)
    ∙ ap (λ x. by_index 8 (slice_index a) ++ 45 ∷ (by_index 4 (slice_index b) ++ 45 ∷ (x ++ 45 ∷ (d ++ 45 ∷ e)))) (places c 4 at_c)
    ∙ ap (λ x. by_index 8 (slice_index a) ++ 45 ∷ (by_index 4 (slice_index b) ++ 45 ∷ (by_index 4 (slice_index c) ++ 45 ∷ (x ++ 45 ∷ e)))) (places d 4 at_d)
    ∙ ap (λ x. by_index 8 (slice_index a) ++ 45 ∷ (by_index 4 (slice_index b) ++ 45 ∷ (by_index 4 (slice_index c) ++ 45 ∷ (by_index 4 (slice_index d) ++ 45 ∷ x)))) (places e 12 at_e)

as_alone : (a b c d e : List ℕ) → length a ≡ 8 → length b ≡ 4 → length c ≡ 4 → length d ≡ 4 → length e ≡ 12
    → alone (slice_index a) (slice_index b) (slice_index c) (slice_index d) (slice_index e) ≡ a ++ (b ++ (c ++ (d ++ e)))
as_alone a b c d e at_a at_b at_c at_d at_e =
    sym (ap (λ x. x ++ (b ++ (c ++ (d ++ e)))) (places a 8 at_a)
    ∙ ap (λ x. by_index 8 (slice_index a) ++ (x ++ (c ++ (d ++ e)))) (places b 4 at_b)
    ∙ ap (λ x. by_index 8 (slice_index a) ++ (by_index 4 (slice_index b) ++ (x ++ (d ++ e)))) (places c 4 at_c)
    ∙ ap (λ x. by_index 8 (slice_index a) ++ (by_index 4 (slice_index b) ++ (by_index 4 (slice_index c) ++ (x ++ e)))) (places d 4 at_d)
    ∙ ap (λ x. by_index 8 (slice_index a) ++ (by_index 4 (slice_index b) ++ (by_index 4 (slice_index c) ++ (by_index 4 (slice_index d) ++ x)))) (places e 12 at_e))

to_parsed : (s : List ℕ) → Groups s → is_some (parsed_hyphenated s) ≡ true
to_parsed s g =
    let at_a = length_of 8 g.a g.in_a in
    let at_b = length_of 4 g.b g.in_b in
    let at_c = length_of 4 g.c g.in_c in
    let at_d = length_of 4 g.d g.in_d in
    let at_e = length_of 12 g.e g.in_e in
    let all : list_all is_ascii_hexdigit (g.a ++ (g.b ++ (g.c ++ (g.d ++ g.e)))) ≡ true =
    join_all g.a g.b g.c g.d g.e (digits_in 8 g.a g.in_a) (digits_in 4 g.b g.in_b) (digits_in 4 g.c g.in_c) (digits_in 4 g.d g.in_d) (digits_in 12 g.e g.in_e) in
    ap (λ x. is_some (parsed_hyphenated x)) (g.whole ∙ as_between g.a g.b g.c g.d g.e at_a at_b at_c at_d at_e)
    ∙ parsed_between (slice_index g.a) (slice_index g.b) (slice_index g.c) (slice_index g.d) (slice_index g.e)
    (ap (list_all is_ascii_hexdigit) (as_alone g.a g.b g.c g.d g.e at_a at_b at_c at_d at_e) ∙ all)

pub hyphenated_same : (s : List ℕ) → is_some (parsed_hyphenated s) ≡ is_hyphenated s
hyphenated_same s = same_bools _ _ (λ h. to_test s (from_parsed s h)) (λ h. to_parsed s (from_test s h))
