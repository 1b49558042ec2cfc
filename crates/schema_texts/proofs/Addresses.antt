-- Groups between colons, counted from the front, and the first `::`.
use Rattle.std.proofs.Common.{◌≡◌, ℕ, suc, ◌+◌, ◌<◌, ◌≤◌, ◌&&◌, ◌==◌, List, [], ◌∷◌, ◌++◌, Bool, true, false, cond, if◌then◌else◌, Option, Some, None, length, take, drop, get_or, nat_eq, refl, ap, sym, ◌∙◌, append_assoc, add-one, arith}
use Rattle.std.proofs.Math.Seq.{drop-cons}
use Rattle.std.proofs.lemmas.Grind.{take_at_read}
use Rattle.std.proofs.lemmas.List.{append-nil, drop_all}
use Rattle.std.specs.Option.{option_map}
use Rattle.std.specs.List.{list_all, starts_with}
use Rattle.schema_defs.specs.Formats.{around_double, group_count, groups_after, groups_before, is_group, is_ipv4, pieces}
use Rattle.schema_texts.specs.Groups.{groups_in}
use Rattle.schema_texts.proofs.Cuts.{more_pieces}

-- ---- groups

groups_more : (a : Bool) (g r : List ℕ) → is_group g ≡ true → groups_in a (g ∷ pieces 58 r) ≡ option_map suc (groups_in a (pieces 58 r))
groups_more a g r h = let m = more_pieces 58 r in rw (m.1.1, h) refl

groups_stop : (a : Bool) (g r : List ℕ) → is_group g ≡ false → groups_in a (g ∷ pieces 58 r) ≡ None
groups_stop a g r h = let m = more_pieces 58 r in rw (m.1.1, h) refl

shift : (o : Option ℕ) (k : ℕ) → option_map (λ n. n + k) (option_map suc o) ≡ option_map (λ n. n + (k + 1)) o
shift None k = refl
shift (Some n) k = ap Some (omega arith)

-- k groups stand before what is left
pub record Counted (a : Bool) (text rest : List ℕ) (k : ℕ) : Type 0 where
  pub so_far : groups_in a (pieces 58 text) ≡ option_map (λ n. n + k) (groups_in a (pieces 58 rest))

none_before : (o : Option ℕ) → o ≡ option_map (λ n. n + 0) o
none_before None = refl
none_before (Some n) = ap Some (omega arith)

pub counted_none : (a : Bool) (text : List ℕ) → Counted a text text 0
counted_none a text = record { so_far = none_before (groups_in a (pieces 58 text)) }

pub counted_more : {a : Bool} {text rest : List ℕ} {k : ℕ} → Counted a text rest k → (g r : List ℕ) → pieces 58 rest ≡ g ∷ pieces 58 r
    → is_group g ≡ true → Counted a text r (k + 1)
counted_more {a} {text} {rest} {k} c g r e h = record {
  so_far = c.so_far ∙ ap (λ ps. option_map (λ n. n + k) (groups_in a ps)) e
      ∙ ap (option_map (λ n. n + k)) (groups_more a g r h) ∙ shift (groups_in a (pieces 58 r)) k;
}

pub counted_stop : {a : Bool} {text rest : List ℕ} {k : ℕ} → Counted a text rest k → (g r : List ℕ) → pieces 58 rest ≡ g ∷ pieces 58 r
    → is_group g ≡ false → None ≡ groups_in a (pieces 58 text)
counted_stop {a} {text} {rest} {k} c g r e h =
    sym (c.so_far ∙ ap (λ ps. option_map (λ n. n + k) (groups_in a ps)) e ∙ ap (option_map (λ n. n + k)) (groups_stop a g r h))

last_of : Bool → List ℕ → Option ℕ
last_of a p = if is_group p then Some 1 else (if a && is_ipv4 p then Some 2 else None)

counted_last : {a : Bool} {text rest : List ℕ} {k : ℕ} → Counted a text rest k → pieces 58 rest ≡ rest ∷ []
    → groups_in a (pieces 58 text) ≡ option_map (λ n. n + k) (last_of a rest)
unfolding last_of
counted_last {a} {text} {rest} {k} c e = c.so_far ∙ ap (λ ps. option_map (λ n. n + k) (groups_in a ps)) e

pub ends_in_group : {a : Bool} {text rest : List ℕ} {k : ℕ} → Counted a text rest k → pieces 58 rest ≡ rest ∷ [] → is_group rest ≡ true
    → Some (k + 1) ≡ groups_in a (pieces 58 text)
unfolding last_of
ends_in_group {a} {text} {rest} {k} c e h =
    let last : last_of a rest ≡ Some 1 = rw h refl in
    sym (counted_last c e ∙ ap (option_map (λ n. n + k)) last ∙ ap Some (omega arith))

pub ends_in_address : {a : Bool} {text rest : List ℕ} {k : ℕ} → Counted a text rest k → pieces 58 rest ≡ rest ∷ [] → is_group rest ≡ false
    → a ≡ true → is_ipv4 rest ≡ true → Some (k + 2) ≡ groups_in a (pieces 58 text)
unfolding last_of
ends_in_address {a} {text} {rest} {k} c e h allowed is_it =
    let last : last_of a rest ≡ Some 2 = rw (h, allowed, is_it) refl in
    sym (counted_last c e ∙ ap (option_map (λ n. n + k)) last ∙ ap Some (omega arith))

pub ends_in_neither : {a : Bool} {text rest : List ℕ} {k : ℕ} → Counted a text rest k → pieces 58 rest ≡ rest ∷ [] → is_group rest ≡ false
    → (a && is_ipv4 rest) ≡ false → None ≡ groups_in a (pieces 58 text)
unfolding last_of
ends_in_neither {a} {text} {rest} {k} c e h other =
    let last : last_of a rest ≡ None = rw (h, other) refl in
    sym (counted_last c e ∙ ap (option_map (λ n. n + k)) last)

pub same_count : (ps : List (List ℕ)) → group_count ps ≡ groups_in true ps
same_count [] = refl
same_count (p ∷ []) = refl
same_count (p ∷ q ∷ ps) = rw (same_count (q ∷ ps)) refl

pub count_after : (s : List ℕ) → (length s == 0) ≡ false → groups_in true (pieces 58 s) ≡ groups_after s
count_after [] h = cc
count_after (b ∷ bs) h = sym (same_count (pieces 58 (b ∷ bs)))

one_group : (t u : Bool) (one two : ℕ) → u ≡ false → (if t then Some one else (if u then Some two else None)) ≡ (if t && true then Some one else None)
one_group true u one two h = refl
one_group false u one two h = rw h refl

one_group_more : (t u : Bool) (n : ℕ) (o : Option ℕ) → o ≡ (if u then Some n else None)
    → (if t then option_map suc o else None) ≡ (if t && u then Some (suc n) else None)
one_group_more false u n o h = refl
one_group_more true true n o h = ap (option_map suc) h
one_group_more true false n o h = ap (option_map suc) h

all_groups : (p : List ℕ) (ps : List (List ℕ)) → groups_in false (p ∷ ps) ≡ (if list_all is_group (p ∷ ps) then Some (length (p ∷ ps)) else None)
all_groups p [] = one_group (is_group p) false 1 2 refl
all_groups p (q ∷ qs) = one_group_more (is_group p) (list_all is_group (q ∷ qs)) (length (q ∷ qs)) (groups_in false (q ∷ qs)) (all_groups q qs)

all_pieces : (s : List ℕ) → groups_in false (pieces 58 s) ≡ (if list_all is_group (pieces 58 s) then Some (length (pieces 58 s)) else None)
all_pieces s = let m = more_pieces 58 s in rw m.1.1 (all_groups m.0 m.1.0)

pub count_before : (s : List ℕ) → (length s == 0) ≡ false → groups_in false (pieces 58 s) ≡ groups_before s
count_before [] h = cc
count_before (b ∷ bs) h = all_pieces (b ∷ bs)

-- ---- the first `::`

-- no `::` begins before i
pub record Passed (s : List ℕ) (i : ℕ) : Type 0 where
  pub so_far : around_double s ≡ option_map (λ p. (take i s ++ p.0, p.1)) (around_double (drop i s))

nothing_before : (o : Option (List ℕ × List ℕ)) → o ≡ option_map (λ p. ([] ++ p.0, p.1)) o
nothing_before None = refl
nothing_before (Some p) = refl

pub passed_none : (s : List ℕ) → Passed s 0
passed_none s = record { so_far = nothing_before (around_double s) }

begins : (s : List ℕ) → starts_with nat_eq s (58 ∷ 58 ∷ []) ≡ true → around_double s ≡ Some ([], drop 2 s)
begins [] h = cc
begins (b ∷ bs) h = rw h refl

pub found : (s : List ℕ) (i : ℕ) → Passed s i → starts_with nat_eq (drop i s) (58 ∷ 58 ∷ []) ≡ true
    → around_double s ≡ Some (take i s, drop 2 (drop i s))
found s i h at =
    h.so_far ∙ ap (option_map (λ p. (take i s ++ p.0, p.1))) (begins (drop i s) at)
    ∙ ap (λ (front : List ℕ). Some (front, drop 2 (drop i s))) (append-nil (take i s))

passes : (b : ℕ) (bs : List ℕ) → starts_with nat_eq (b ∷ bs) (58 ∷ 58 ∷ []) ≡ false
    → around_double (b ∷ bs) ≡ option_map (λ p. (b ∷ p.0, p.1)) (around_double bs)
passes b bs h = rw h refl

onto_front : (xs : List ℕ) (b : ℕ) (ys : List ℕ) → ys ≡ xs ++ b ∷ [] → (o : Option (List ℕ × List ℕ))
    → option_map {U = List ℕ × List ℕ} (λ p. (xs ++ p.0, p.1)) (option_map {U = List ℕ × List ℕ} (λ p. (b ∷ p.0, p.1)) o)
    ≡ option_map {U = List ℕ × List ℕ} (λ p. (ys ++ p.0, p.1)) o
onto_front xs b ys e None = refl
onto_front xs b ys e (Some p) = ap (λ (front : List ℕ). Some (front, p.1)) (sym (ap (λ l. l ++ p.0) e ∙ append_assoc xs (b ∷ []) p.0))

pub passed_more : (s : List ℕ) (i : ℕ) → Passed s i → i < length s → starts_with nat_eq (drop i s) (58 ∷ 58 ∷ []) ≡ false → Passed s (i + 1)
passed_more s i h l other =
    let front = drop-cons s i 0 l in
    let step = passes (get_or s i 0) (drop (suc i) s) (rw front at other) in
    record {
      so_far = h.so_far ∙ ap (λ t. option_map (λ p. (take i s ++ p.0, p.1)) (around_double t)) front
          ∙ ap (option_map (λ p. (take i s ++ p.0, p.1))) step
          ∙ onto_front (take i s) (get_or s i 0) (take (i + 1) s) (take_at_read s i 0 l).1 (around_double (drop (suc i) s))
          ∙ ap (λ k. option_map (λ p. (take (i + 1) s ++ p.0, p.1)) (around_double (drop k s))) (sym (add-one i));
    }

pub passed_all : (s : List ℕ) (i : ℕ) → Passed s i → length s ≤ i → around_double s ≡ None
passed_all s i h l = h.so_far ∙ ap (λ t. option_map (λ p. (take i s ++ p.0, p.1)) (around_double t)) (drop_all i s l)
