-- The first meta of a list, and those after it.
use Rattle.std.proofs.Common.{◌≡◌, ℕ, suc, ◌<◌, ◌≤◌, List, [], ◌∷◌, true, false, cond, Some, None, map, take, drop, length, refl, ap, sym, ◌∙◌, arith, length-drop, ◌++◌, append_assoc}
use Rattle.std.proofs.lemmas.List.{map-append}
use Rattle.syntax_trees.specs.declared.cursor.SyntaxError.{SyntaxError}
use Rattle.token_trees.specs.declared.token.Span.{Span}
use Rattle.token_trees.specs.Token.{Tok}
use Rattle.syntax_trees.specs.declared.cursor.SyntaxKind.TheVariants.{ExpectedPath}
use Rattle.syntax_trees.specs.Metas.{is_sign, path_len, no_path, rest_of, before_comma, from_comma, place, expected}
use Rattle.attr_defs.specs.Metas.{piece_end, part, unread, part_by, part_of, metas_in}
use Rattle.attr_acts.proofs.Pieces.{pieces_cons, path_len_before, path_within}
use Rattle.attr_acts.proofs.Places.{no_path_before, split_before}

first_part_at : (at : Span) (ts : List Tok) (n : ℕ) → path_len ts ≡ Some n → part_of (record { tokens = before_comma ts; end = piece_end at ts }) ≡ part (take n ts) (before_comma (drop n ts)) (piece_end at (drop n ts))
first_part_at at ts n e =
    let k = path_len_before ts ∙ e in
    let w = path_within (before_comma ts) n k in
    let s = split_before n ts w.1 in
    ap (λ o. part_by o (record { tokens = before_comma ts; end = piece_end at ts })) k
    ∙ ap (λ us. part us (drop n (before_comma ts)) (piece_end at ts)) s.front
    ∙ ap (λ us. part (take n ts) us (piece_end at ts)) s.rest
    ∙ ap (λ us. part (take n ts) (before_comma (drop n ts)) (place at us)) (sym s.after)

first_part_after : (ts : List Tok) (n : ℕ) → path_len ts ≡ Some n → from_comma (drop n ts) ≡ from_comma ts
first_part_after ts n e =
    let w = path_within (before_comma ts) n (path_len_before ts ∙ e) in
    (split_before n ts w.1).after

-- a list that begins with a path
pub first_part : (at : Span) (ts : List Tok) (n : ℕ) → path_len ts ≡ Some n → metas_in at ts ≡ part (take n ts) (before_comma (drop n ts)) (piece_end at (drop n ts)) ∷ metas_in at (rest_of (from_comma (drop n ts)))
first_part at [] n e = cc
first_part at (t ∷ us) n e =
    ap (map part_of) (pieces_cons at t us)
    ∙ ap (λ m. m ∷ metas_in at (rest_of (from_comma (t ∷ us)))) (first_part_at at (t ∷ us) n e)
    ∙ ap (λ vs. part (take n (t ∷ us)) (before_comma (drop n (t ∷ us))) (piece_end at (drop n (t ∷ us))) ∷ metas_in at (rest_of vs)) (sym (first_part_after (t ∷ us) n e))

-- a list that begins with none
pub first_unread : (at : Span) (ts : List Tok) → (ts ≡ [] → ⊥) → path_len ts ≡ None → metas_in at ts ≡ unread (expected ExpectedPath at (no_path ts)) ∷ metas_in at (rest_of (from_comma ts))
first_unread at [] h e = absurd (h refl)
first_unread at (t ∷ us) h e =
    ap (map part_of) (pieces_cons at t us)
    ∙ ap (λ o. part_by o (record { tokens = before_comma (t ∷ us); end = piece_end at (t ∷ us) }) ∷ metas_in at (rest_of (from_comma (t ∷ us)))) (path_len_before (t ∷ us) ∙ e)
    ∙ ap (λ s. unread (record { kind = ExpectedPath; span = s }) ∷ metas_in at (rest_of (from_comma (t ∷ us)))) (no_path_before at (t ∷ us) e)

from_within : (ts : List Tok) → length (from_comma ts) ≤ length ts
from_within [] = omega arith
from_within (t ∷ ts) = let h = from_within ts in elim (is_sign 44 t) as (λ b. length (cond b (t ∷ ts) (from_comma ts)) ≤ suc (length ts)) [ true ↦ omega arith | false ↦ omega arith ]

past_by : (ts us : List Tok) → length us ≤ length ts → (ts ≡ [] → ⊥) → length (rest_of us) < length ts
past_by [] us h f = absurd (f refl)
past_by (t ∷ ts) [] h f = omega arith
past_by (t ∷ ts) (u ∷ us) h f = omega arith

-- past the first comma fewer tokens are left
pub past_shorter : (ts : List Tok) → (ts ≡ [] → ⊥) → length (rest_of (from_comma ts)) < length ts
past_shorter ts f = past_by ts (from_comma ts) (from_within ts) f

-- and so behind a path
pub path_shorter : (ts left : List Tok) (n : ℕ) → path_len ts ≡ Some n → left ≡ drop n ts → length left < length ts
path_shorter ts left n e h = let w = path_within ts n e in let k : length left ≡ length (drop n ts) = ap length h in omega (arith, k, w.0, w.1, length-drop n ts)

-- the meta that stands first, as the reader finds its parts
pub part_here : (at at' end : Span) (ts p left rest new : List Tok) (n : ℕ) → path_len ts ≡ Some n → p ≡ take n ts → left ≡ drop n ts → rest ≡ before_comma left → end ≡ piece_end at' left → new ≡ rest_of (from_comma left) → at' ≡ at → metas_in at ts ≡ part p rest end ∷ metas_in at new
part_here at at' end ts p left rest new n e ep el er ee en ea =
    first_part at ts n e
    ∙ ap (λ us. part us (before_comma (drop n ts)) (piece_end at (drop n ts)) ∷ metas_in at (rest_of (from_comma (drop n ts)))) (sym ep)
    ∙ ap (λ us. part p (before_comma us) (piece_end at us) ∷ metas_in at (rest_of (from_comma us))) (sym el)
    ∙ ap (λ us. part p us (piece_end at left) ∷ metas_in at (rest_of (from_comma left))) (sym er)
    ∙ ap (λ us. part p rest (piece_end at left) ∷ metas_in at us) (sym en)
    ∙ ap (λ a. part p rest (piece_end a left) ∷ metas_in at new) (sym ea)
    ∙ ap (λ a. part p rest a ∷ metas_in at new) (sym ee)

-- and where none reads as one
pub unread_here : (at at' : Span) (e : SyntaxError) (ts left new : List Tok) → (ts ≡ [] → ⊥) → path_len ts ≡ None → e ≡ expected ExpectedPath at (no_path ts) → left ≡ ts → new ≡ rest_of (from_comma left) → metas_in at ts ≡ unread e ∷ metas_in at new
unread_here at at' e ts left new f h ee el en =
    first_unread at ts f h
    ∙ ap (λ x. unread x ∷ metas_in at (rest_of (from_comma ts))) (sym ee)
    ∙ ap (λ us. unread e ∷ metas_in at (rest_of (from_comma us))) (sym el)
    ∙ ap (λ us. unread e ∷ metas_in at us) (sym en)

-- one element more of those that are read
pub more_read : {X Y : Type 0} → (f : X → Y) (xs : List X) (x : X) (ms rest all : List Y) → map f xs ++ ms ≡ all → ms ≡ f x ∷ rest → map f (xs ++ x ∷ []) ++ rest ≡ all
more_read f xs x ms rest all h e = ap (λ l. l ++ rest) (map-append f xs (x ∷ [])) ∙ append_assoc (map f xs) (f x ∷ []) rest ∙ ap (λ l. map f xs ++ l) (sym e) ∙ h
