-- The text of tokens, piece by piece.
use Rattle.std.proofs.Common.{◌≡◌, List, [], ◌∷◌, ◌++◌, Bool, refl, ap, sym, ◌∙◌, append_assoc}
use Rattle.token_trees.specs.declared.token.Delimiter.{Delimiter}
use Rattle.token_trees.specs.declared.token.Delimiter.TheVariants.{Parenthesis, Brace, Bracket, None}
use Rattle.token_trees.specs.Token.{Tok, toks_of}
use Rattle.token_trees.specs.Text.{Piece, opens, closes, enclosed, pieces, inner_pieces, pieces_of, spaced, tight_after, spelling, is_joint, gap}

pub inner_pieces_of : (ts : List Tok) → inner_pieces (toks_of ts) ≡ pieces_of ts
inner_pieces_of [] = refl
inner_pieces_of (t ∷ ts) = ap (λ xs. pieces t ++ xs) (inner_pieces_of ts)

pub pieces_of_append : (ts us : List Tok) → pieces_of (ts ++ us) ≡ pieces_of ts ++ pieces_of us
pieces_of_append [] us = refl
pieces_of_append (t ∷ ts) us = ap (λ xs. pieces t ++ xs) (pieces_of_append ts us) ∙ sym (append_assoc (pieces t) (pieces_of ts) (pieces_of us))

pub spaced_append : (tight : Bool) (xs ys : List Piece) → spaced tight (xs ++ ys) ≡ spaced tight xs ++ spaced (tight_after tight xs) ys
spaced_append tight [] ys = refl
spaced_append tight (x ∷ xs) ys =
    ap (λ l. gap tight ++ (spelling x ++ l)) (spaced_append (is_joint x) xs ys) ∙ simp append_assoc

pub tight_after_append : (tight : Bool) (xs ys : List Piece) → tight_after tight (xs ++ ys) ≡ tight_after (tight_after tight xs) ys
tight_after_append tight [] ys = refl
tight_after_append tight (x ∷ xs) ys = tight_after_append (is_joint x) xs ys

pub enclosed_shown : (d : Delimiter) (xs : List Piece) → (d ≡ None → ⊥) → enclosed d xs ≡ opens d ∷ (xs ++ closes d ∷ [])
enclosed_shown Parenthesis xs h = refl
enclosed_shown Brace xs h = refl
enclosed_shown Bracket xs h = refl
enclosed_shown None xs h = absurd (h refl)
