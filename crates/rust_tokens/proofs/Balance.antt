-- Brackets: what closes what.
use Rattle.std.proofs.Common.{◌≡◌, ℕ, true, List, [], ◌∷◌, ◌++◌, cond, eqb, ◌⊎◌, inl, inr, Option, Some, None, refl, ap, sym, ◌∙◌, append_assoc}
use Rattle.token_trees.specs.declared.token.Delimiter.{Delimiter}
use Rattle.token_trees.specs.declared.token.Delimiter.TheVariants.{Parenthesis, Brace, Bracket, None as hidden}
use Rattle.token_trees.specs.Token.{Tok, word, mark, fixed, group, Toks, no_toks, tok}
use Rattle.token_trees.specs.Text.{Piece, name, sign, constant, opens, closes, pieces, inner_pieces, pieces_of}
use Rattle.rust_tokens.specs.Groups.{Level, opened, innermost, brackets}
use Rattle.std.proofs.lemmas.Bool.Decides.{eqb_tells}
use Rattle.rust_tokens.proofs.Bodies.{eqb_no}

abbrev code : Delimiter → ℕ
code Parenthesis = 0
code Brace = 1
code Bracket = 2
code hidden = 3

-- the delimiter with that number
abbrev coded : ℕ → Delimiter
coded n = cond (eqb n 0) Parenthesis (cond (eqb n 1) Brace (cond (eqb n 2) Bracket hidden))

coded_code : (d : Delimiter) → coded (code d) ≡ d
coded_code Parenthesis = refl
coded_code Brace = refl
coded_code Bracket = refl
coded_code hidden = refl

-- the brackets that are held after those tokens, the innermost first; none where one closes what is not held
abbrev pub balance : List Piece → List Delimiter → Option (List Delimiter)
balance [] held = Some held
balance (name _ ∷ xs) held = balance xs held
balance (sign _ _ ∷ xs) held = balance xs held
balance (constant _ ∷ xs) held = balance xs held
balance (opens d ∷ xs) held = balance xs (d ∷ held)
balance (closes d ∷ xs) [] = None
balance (closes d ∷ xs) (e ∷ held) = cond (eqb (code d) (code e)) (balance xs held) None

pub wrong_close : (d e : Delimiter) (xs : List Piece) (held : List Delimiter) → (d ≡ e → ⊥) → balance (closes d ∷ xs) (e ∷ held) ≡ None
wrong_close d e xs held h =
    let apart : code d ≡ code e → ⊥ = λ k. h (sym (coded_code d) ∙ ap coded k ∙ coded_code e) in
    ap (λ b. cond b (balance xs held) None) (eqb_no (code d) (code e) apart)

code_same : (d e : Delimiter) → code d ≡ code e → d ≡ e
code_same d e k = sym (coded_code d) ∙ ap coded k ∙ coded_code e

pub same_delimiter : (d e : Delimiter) → (d ≡ e) ⊎ (d ≡ e → ⊥)
same_delimiter d e = elim (eqb_tells (code d) (code e)) [ inl p ↦ inl (code_same d e p.1) | inr p ↦ inr (λ h. p.1 (ap code h)) ]

code_eqb : (d : Delimiter) → eqb (code d) (code d) ≡ true
code_eqb Parenthesis = refl
code_eqb Brace = refl
code_eqb Bracket = refl
code_eqb hidden = refl

-- a bracket that closes the innermost
pub right_close_at : (e d : Delimiter) (xs : List Piece) (held : List Delimiter) (r : Option (List Delimiter)) → e ≡ d → balance (closes e ∷ xs) (d ∷ held) ≡ r → balance xs held ≡ r
right_close_at e d xs held r same h =
    sym (ap (λ c. cond (eqb (code c) (code d)) (balance xs held) None) same ∙ ap (λ b. cond b (balance xs held) None) (code_eqb d)) ∙ h

mutual
  pub balance_tree : (t : Tok) (xs : List Piece) (held : List Delimiter) → balance (pieces t ++ xs) held ≡ balance xs held
  balance_tree (word x s) xs held = refl
  balance_tree (mark c j s) xs held = refl
  balance_tree (fixed l s) xs held = refl
  balance_tree (group Parenthesis ts s) xs held = ap (λ ys. balance ys (Parenthesis ∷ held)) (append_assoc (inner_pieces ts) (closes Parenthesis ∷ []) xs) ∙ balance_inner ts (closes Parenthesis ∷ xs) (Parenthesis ∷ held)
  balance_tree (group Brace ts s) xs held = ap (λ ys. balance ys (Brace ∷ held)) (append_assoc (inner_pieces ts) (closes Brace ∷ []) xs) ∙ balance_inner ts (closes Brace ∷ xs) (Brace ∷ held)
  balance_tree (group Bracket ts s) xs held = ap (λ ys. balance ys (Bracket ∷ held)) (append_assoc (inner_pieces ts) (closes Bracket ∷ []) xs) ∙ balance_inner ts (closes Bracket ∷ xs) (Bracket ∷ held)
  balance_tree (group hidden ts s) xs held = balance_inner ts xs held

  pub balance_inner : (ts : Toks) (xs : List Piece) (held : List Delimiter) → balance (inner_pieces ts ++ xs) held ≡ balance xs held
  balance_inner no_toks xs held = refl
  balance_inner (tok t ts) xs held = ap (λ ys. balance ys held) (append_assoc (pieces t) (inner_pieces ts) xs) ∙ balance_tree t (inner_pieces ts ++ xs) held ∙ balance_inner ts xs held

pub balance_trees : (ts : List Tok) (xs : List Piece) (held : List Delimiter) → balance (pieces_of ts ++ xs) held ≡ balance xs held
balance_trees [] xs held = refl
balance_trees (t ∷ ts) xs held = ap (λ ys. balance ys held) (append_assoc (pieces t) (pieces_of ts) xs) ∙ balance_tree t (pieces_of ts ++ xs) held ∙ balance_trees ts xs held

pub balance_opened : (ls : List Level) (xs : List Piece) (held : List Delimiter) → balance (opened ls ++ xs) held ≡ balance xs (brackets ls held)
balance_opened [] xs held = refl
balance_opened (l ∷ ls) xs held =
    ap (λ ys. balance ys held) (append_assoc (pieces_of l.before) (opens l.delimiter ∷ opened ls) xs)
    ∙ balance_trees l.before (opens l.delimiter ∷ (opened ls ++ xs)) held ∙ balance_opened ls xs (l.delimiter ∷ held)

-- the brackets of open groups have a first, that of the innermost
pub record Top (l : Level) (ls : List Level) (held : List Delimiter) : Type 0 where
  pub top : Delimiter
  pub below : List Delimiter
  pub whole : brackets (l ∷ ls) held ≡ top ∷ below
  pub inner : innermost (l ∷ ls) ≡ Some top

pub brackets_some : (l : Level) (ls : List Level) (held : List Delimiter) → Top l ls held
brackets_some l [] held = record { top = l.delimiter; below = held; whole = refl; inner = refl }
brackets_some l (m ∷ ls) held =
    let t = brackets_some m ls (l.delimiter ∷ held) in
    record { top = t.top; below = t.below; whole = t.whole; inner = t.inner }

pub brackets_top : (ls : List Level) (d : Delimiter) (outer : List Delimiter) → brackets ls [] ≡ d ∷ outer → innermost ls ≡ Some d
brackets_top [] d outer h = absurd (cc)
brackets_top (l ∷ ls) d outer h =
    let t = brackets_some l ls [] in
    let same : t.top ∷ t.below ≡ d ∷ outer = sym t.whole ∙ h in
    t.inner ∙ ap Some (cc)
