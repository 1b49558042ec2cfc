-- Faulty places of short texts, by computation.
use Rattle.std.proofs.Common.{◌≡◌, ◌≢◌, ℕ, List, [], ◌∷◌, Some, None, refl}
use Rattle.std.specs.Prelude.{codes}
use lib.Utf8.{encode}
use Rattle.unicode_ident.proofs.Computing.{unicode_ident}
use Rattle.token_trees.specs.declared.token.Delimiter.TheVariants.{Parenthesis, Bracket}
use Rattle.token_trees.specs.Text.{name, opens, closes}
use Rattle.rust_tokens.specs.Faults.{Seen, Sees, open_after, no_token, unopened, unclosed, IsFaulty, IsFirstFault}
use Rattle.rust_tokens.specs.Groups.{AreClosed, FaultLeft}
use Rattle.rust_tokens.proofs.Exact.{no_fault_before}
use Rattle.rust_tokens.proofs.Firsts.{first_fault}

-- `(a(b)` leaves the first bracket open, and `([)]` too
one_is_left : open_after (Some (opens Parenthesis) ∷ Some (name (97 ∷ [])) ∷ Some (opens Parenthesis) ∷ Some (name (98 ∷ [])) ∷ Some (closes Parenthesis) ∷ []) [] ≡ Parenthesis ∷ []
one_is_left = refl

wrong_is_passed : open_after (Some (opens Parenthesis) ∷ Some (opens Bracket) ∷ Some (closes Parenthesis) ∷ Some (closes Bracket) ∷ []) [] ≡ Parenthesis ∷ []
wrong_is_passed = refl

-- a character that begins no token is passed, and then the bracket is closed
control_is_passed : open_after (Some (opens Parenthesis) ∷ None ∷ Some (closes Parenthesis) ∷ []) [] ≡ []
control_is_passed = refl

-- `(` U+0001 `)` is seen so
control_inside : Sees (40 ∷ 1 ∷ 41 ∷ []) (Some (opens Parenthesis) ∷ None ∷ Some (closes Parenthesis) ∷ []) []
unfolding unicode_ident encode
control_inside = (λ e. cc, refl, (λ e. cc, refl, (λ e. cc, refl, refl)))

-- and its place 1 is faulty
control_is_faulty : IsFaulty (40 ∷ 1 ∷ 41 ∷ []) 1
unfolding unicode_ident encode
control_is_faulty = record {
  before = Some (opens Parenthesis) ∷ [];
  rest = 1 ∷ 41 ∷ [];
  sees = (λ e. cc, refl, refl);
  wrong = no_token (λ e. cc) refl;
  place_is = refl;
}

-- in `( ] )` place 2 is faulty
wrong_closing : IsFaulty (codes "( ] )") 2
unfolding unicode_ident encode
wrong_closing = record {
  before = Some (opens Parenthesis) ∷ [];
  rest = codes "] )";
  sees = (λ e. cc, refl, refl);
  wrong = unopened Bracket 1 refl (λ outer e. cc);
  place_is = refl;
}

-- in `a)` place 1
single_closing : IsFaulty (codes "a)") 1
unfolding unicode_ident encode
single_closing = record {
  before = Some (name (97 ∷ [])) ∷ [];
  rest = codes ")";
  sees = (λ e. cc, refl, refl);
  wrong = unopened Parenthesis 1 refl (λ outer e. cc);
  place_is = refl;
}

nothing_follows : (xs : List Seen) (after : List ℕ) → Sees [] xs after → open_after xs (Parenthesis ∷ []) ≢ []
nothing_follows [] after s e = cc
nothing_follows (x ∷ xs) after s e = s.0 refl

-- in `((` place 1 (and so is place 0)
second_unclosed : IsFaulty (codes "((") 1
unfolding unicode_ident encode
second_unclosed = record {
  before = Some (opens Parenthesis) ∷ [];
  rest = codes "(";
  sees = (λ e. cc, refl, refl);
  wrong = unclosed Parenthesis 1 refl nothing_follows;
  place_is = refl;
}

-- in `(` U+0001 `)` place 1 is the first: the bracket before it is closed
control_is_first : IsFirstFault (40 ∷ 1 ∷ 41 ∷ []) 1
unfolding unicode_ident encode
control_is_first =
    let all : AreClosed (Parenthesis ∷ []) (1 ∷ 41 ∷ []) =
    record { passed = None ∷ Some (closes Parenthesis) ∷ []; after = []; sees = (λ e. cc, refl, (λ e. cc, refl, refl)); none_open = refl } in
    let h : FaultLeft (40 ∷ 1 ∷ 41 ∷ []) 2 = record {
      before = Some (opens Parenthesis) ∷ [];
      rest = 1 ∷ 41 ∷ [];
      sees = (λ e. cc, refl, refl);
      wrong = no_token (λ e. cc) refl;
      length_is = refl;
      least = no_fault_before (40 ∷ 1 ∷ 41 ∷ []) (opens Parenthesis ∷ []) (1 ∷ 41 ∷ []) (Parenthesis ∷ []) (1, refl, refl) refl all;
    } in
    first_fault (40 ∷ 1 ∷ 41 ∷ []) 2 1 h refl
