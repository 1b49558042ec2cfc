-- The trees of a text are one.
use Rattle.std.proofs.Common.{◌≡◌, ℕ, List, [], ◌∷◌, ◌++◌, refl, ap, sym, subst, ◌∙◌, append_assoc, append-nil, arith, drop}
use Rattle.std.specs.Str.{skip_leading_whitespace}
use Rattle.token_trees.specs.declared.token.Span.{Span}
use Rattle.token_trees.specs.Token.{Tok, word, mark, fixed, group, Toks, no_toks, tok, toks_of, list_of}
use Rattle.token_trees.specs.Text.{Piece, name, sign, constant, opens, closes, pieces, inner_pieces, pieces_of}
use Rattle.token_trees.proofs.Lists.{list_of_toks_of}
use Rattle.token_trees.proofs.Texts.{inner_pieces_of, enclosed_shown}
use Rattle.rust_tokens.specs.Front.{front}
use Rattle.rust_tokens.specs.Reading.{Reads, IsWritten, AreWritten, IsLexed}
use Rattle.rust_tokens.specs.Faults.{IsFirstFault}
use Rattle.rust_tokens.proofs.Readings.{same_front}

abbrev past : List ℕ → List ℕ
past = skip_leading_whitespace

same_pieces : (cs : List ℕ) (xs ys : List Piece) → Reads cs xs [] → Reads cs ys [] → xs ≡ ys
same_pieces cs [] [] h k = refl
same_pieces cs [] (y ∷ ys) h k = let bad = ap front h ∙ k.1 in cc
same_pieces cs (x ∷ xs) [] h k = let bad = ap front k ∙ h.1 in cc
same_pieces cs (x ∷ xs) (y ∷ ys) h k =
    let both = same_front (x, h.0) (y, k.0) (sym h.1 ∙ k.1) in
    let x_is : x ≡ y = both.0 in
    let P : ℕ → Type 0 = λ n. Reads (drop n (past cs)) ys [] in
    let more = same_pieces (drop h.0 (past cs)) xs ys h.2 (subst P (sym both.1) k.2) in
    cc

-- no tree goes on there
abbrev Ends : List Piece → Type 0
Ends [] = Unit {0}
Ends (closes d ∷ xs) = Unit {0}
Ends (x ∷ xs) = ⊥

-- the first token of a tree, and those after it
abbrev first : Tok → Piece
first (word x _) = name x
first (mark c j _) = sign c j
first (fixed l _) = constant l
first (group d _ _) = opens d

abbrev more_of : Tok → List Piece
more_of (group d ts _) = inner_pieces ts ++ closes d ∷ []
more_of t = []

begins : (s : Span) (t : Tok) → IsWritten s t → pieces t ≡ first t ∷ more_of t
begins s (word x a) w = refl
begins s (mark c j a) w = refl
begins s (fixed l a) w = refl
begins s (group d ts a) w = enclosed_shown d (inner_pieces ts) w.0

no_end : (t : Tok) (xs : List Piece) → Ends (first t ∷ xs) → ⊥
no_end (word x a) xs h = h
no_end (mark c j a) xs h = h
no_end (fixed l a) xs h = h
no_end (group d ts a) xs h = h

goes_on : (s : Span) (t : Tok) (xs ys : List Piece) → IsWritten s t → Ends xs → xs ≡ pieces t ++ ys → ⊥
goes_on s t xs ys w h e =
    let P : List Piece → Type 0 = Ends in
    no_end t (more_of t ++ ys) (subst P (e ∙ ap (λ zs. zs ++ ys) (begins s t w)) h)

heads : (s : Span) (t u : Tok) (xs ys : List Piece) → IsWritten s t → IsWritten s u → pieces t ++ xs ≡ pieces u ++ ys → first t ∷ (more_of t ++ xs) ≡ first u ∷ (more_of u ++ ys)
heads s t u xs ys w v e = sym (ap (λ zs. zs ++ xs) (begins s t w)) ∙ e ∙ ap (λ zs. zs ++ ys) (begins s u v)

mutual
  tok_same : (s : Span) (t u : Tok) (xs ys : List Piece) → IsWritten s t → IsWritten s u → pieces t ++ xs ≡ pieces u ++ ys → (t ≡ u) × (xs ≡ ys)
  tok_same s (word x a) (word y b) xs ys w v e = (cc, cc)
  tok_same s (mark c j a) (mark k l b) xs ys w v e = (cc, cc)
  tok_same s (fixed l a) (fixed m b) xs ys w v e = (cc, cc)
  tok_same s (group d ts a) (group g us b) xs ys w v e =
      let h : opens d ∷ ((inner_pieces ts ++ closes d ∷ []) ++ xs) ≡ opens g ∷ ((inner_pieces us ++ closes g ∷ []) ++ ys) = heads s (group d ts a) (group g us b) xs ys w v e in
      let kind : d ≡ g = cc in
      let rest : (inner_pieces ts ++ closes d ∷ []) ++ xs ≡ (inner_pieces us ++ closes g ∷ []) ++ ys = cc in
      let k = toks_same s ts us (closes d ∷ xs) (closes g ∷ ys) w.2 v.2 tt tt (sym (append_assoc (inner_pieces ts) (closes d ∷ []) xs) ∙ rest ∙ append_assoc (inner_pieces us) (closes g ∷ []) ys) in
      let trees : ts ≡ us = k.0 in
      let place : a ≡ b = w.1 ∙ sym v.1 in
      let left : closes d ∷ xs ≡ closes g ∷ ys = k.1 in
      (cc, cc)
  tok_same s t u xs ys w v e = let h : first t ∷ (more_of t ++ xs) ≡ first u ∷ (more_of u ++ ys) = heads s t u xs ys w v e in absurd (cc)

  toks_same : (s : Span) (ts us : Toks) (xs ys : List Piece) → AreWritten s ts → AreWritten s us → Ends xs → Ends ys → inner_pieces ts ++ xs ≡ inner_pieces us ++ ys → (ts ≡ us) × (xs ≡ ys)
  toks_same s no_toks no_toks xs ys w v h k e = (refl, e)
  toks_same s no_toks (tok u us) xs ys w v h k e = absurd (goes_on s u xs (inner_pieces us ++ ys) v.0 h (e ∙ append_assoc (pieces u) (inner_pieces us) ys))
  toks_same s (tok t ts) no_toks xs ys w v h k e = absurd (goes_on s t ys (inner_pieces ts ++ xs) w.0 k (sym e ∙ append_assoc (pieces t) (inner_pieces ts) xs))
  toks_same s (tok t ts) (tok u us) xs ys w v h k e =
      let one = tok_same s t u (inner_pieces ts ++ xs) (inner_pieces us ++ ys) w.0 v.0 (sym (append_assoc (pieces t) (inner_pieces ts) xs) ∙ e ∙ append_assoc (pieces u) (inner_pieces us) ys) in
      let more = toks_same s ts us xs ys w.1 v.1 h k one.1 in
      (ap (λ x. tok x ts) one.0 ∙ ap (tok u) more.0, more.1)

pub trees_are_one : (cs : List ℕ) (s : Span) (ts us : List Tok) → IsLexed cs s ts → IsLexed cs s us → ts ≡ us
trees_are_one cs s ts us h k =
    let same = same_pieces cs (pieces_of ts) (pieces_of us) h.read k.read in
    let e = toks_same s (toks_of ts) (toks_of us) [] [] h.written k.written tt tt
    (append-nil (inner_pieces (toks_of ts)) ∙ inner_pieces_of ts ∙ same ∙ sym (append-nil (inner_pieces (toks_of us)) ∙ inner_pieces_of us)) in
    sym (list_of_toks_of ts) ∙ ap list_of e.0 ∙ list_of_toks_of us

pub first_fault_is_one : (cs : List ℕ) (place other : ℕ) → IsFirstFault cs place → IsFirstFault cs other → place ≡ other
first_fault_is_one cs place other h k =
    let low = h.least other k.faulty in
    let high = k.least place h.faulty in
    omega arith
