-- Byte places in a text.
use Rattle.std.proofs.Common.{◌≡◌, ◌≤◌, ◌+◌, ◌-◌, ℕ, suc, Bool, true, false, List, [], ◌∷◌, cond, take, drop, length, inl, inr, encode_utf8_all, refl, ap, sym, ◌∙◌, arith, length-append}
use Rattle.std.proofs.lemmas.List.{drop-drop, length-drop, take-append-drop}
use Rattle.std.proofs.lemmas.Bool.{cases_lt}
use Rattle.std.proofs.Math.ListN.{drop_of_length-le}
use Rattle.std.proofs.lemmas.Str.{encodes-append}
use Rattle.std.specs.Char.{is_whitespace}
use Rattle.std.specs.Str.{skip_leading_whitespace}

-- a text's bytes are those before a place and those after it
pub encoded_split : (k : ℕ) (cs : List ℕ) → length (encode_utf8_all (take k cs)) + length (encode_utf8_all (drop k cs)) ≡ length (encode_utf8_all cs)
encoded_split k cs =
    sym (length-append (encode_utf8_all (take k cs)) (encode_utf8_all (drop k cs)))
    ∙ ap length (sym (encodes-append (take k cs) (drop k cs))) ∙ ap (λ l. length (encode_utf8_all l)) (take-append-drop k cs)

pub encoded_end : (k : ℕ) (cs : List ℕ) → length (encode_utf8_all (drop k cs)) ≤ length (encode_utf8_all cs)
encoded_end k cs = omega (arith, encoded_split k cs)

-- rest is what follows so many characters
pub record Follows (cs rest : List ℕ) : Type 0 where
  pub skipped : ℕ
  pub is : rest ≡ drop skipped cs

past_case : (c : ℕ) (cs : List ℕ) (b : Bool) → Follows cs (skip_leading_whitespace cs) → Follows (c ∷ cs) (cond b (skip_leading_whitespace cs) (c ∷ cs))
past_case c cs true h = record { skipped = suc h.skipped; is = h.is }
past_case c cs false h = record { skipped = 0; is = refl }

pub past_follows : (cs : List ℕ) → Follows cs (skip_leading_whitespace cs)
past_follows [] = record { skipped = 0; is = refl }
past_follows (c ∷ cs) = past_case c cs (is_whitespace c) (past_follows cs)

pub follows_on : (cs mid rest : List ℕ) → Follows cs mid → Follows mid rest → Follows cs rest
follows_on cs mid rest h k =
    record { skipped = h.skipped + k.skipped; is = k.is ∙ ap (drop k.skipped) h.is ∙ drop-drop k.skipped h.skipped cs }

-- and so it is found by its length
pub follows_left : (cs rest : List ℕ) → Follows cs rest → (length rest ≤ length cs) × (rest ≡ drop (length cs - length rest) cs)
follows_left cs rest h =
    let len : length rest ≡ length cs - h.skipped = ap length h.is ∙ length-drop h.skipped cs in (
      omega arith,
      elim (cases_lt (length cs) h.skipped) [
        | inl beyond ↦
            let none : length cs - length rest ≡ length cs = omega arith in
            h.is ∙ drop_of_length-le cs (omega arith) ∙ sym (drop_of_length-le cs {i = length cs} (omega arith)) ∙ ap (λ k. drop k cs) (sym none)
        | inr within ↦
            let back : h.skipped ≡ length cs - length rest = omega arith in
            h.is ∙ ap (λ k. drop k cs) back
      ],
    )
