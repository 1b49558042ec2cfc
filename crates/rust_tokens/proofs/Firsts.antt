-- The first fault, by characters and by bytes.
use Rattle.std.proofs.Common.{◌≡◌, ◌≤◌, ◌-◌, ◌+◌, ℕ, List, drop, length, encode_utf8_all, ap, sym, ◌∙◌, arith}
use Rattle.std.proofs.lemmas.List.{drop-drop}
use Rattle.rust_tokens.specs.Faults.{IsFaulty, IsFirstFault}
use Rattle.rust_tokens.specs.Groups.{FaultLeft}
use Rattle.rust_tokens.proofs.Places.{Follows, follows_left, encoded_end}
use Rattle.rust_tokens.proofs.Sights.{sees_follows}

-- of two ends of a text the shorter one has no more bytes
shorter_end : (cs left right : List ℕ) → Follows cs left → Follows cs right → length right ≤ length left → length (encode_utf8_all right) ≤ length (encode_utf8_all left)
shorter_end cs left right f g l =
    let a = follows_left cs left f in
    let b = follows_left cs right g in
    let more = length left - length right in
    let there : length cs - length left + more ≡ length cs - length right = omega (arith, a.0, b.0) in
    let inside : right ≡ drop more left =
    b.1 ∙ ap (λ n. drop n cs) (sym there) ∙ sym (drop-drop more (length cs - length left) cs) ∙ ap (drop more) (sym a.1) in
    omega (arith, encoded_end more left, ap (λ ds. length (encode_utf8_all ds)) inside)

no_later : (cs : List ℕ) (left place : ℕ) (h : FaultLeft cs left) → place + length (encode_utf8_all h.rest) ≡ length (encode_utf8_all cs) → (other : ℕ) → IsFaulty cs other → place ≤ other
no_later cs left place h e other f =
    let short : length f.rest ≤ length h.rest = omega (arith, h.least f.before f.rest f.sees f.wrong, h.length_is) in
    let bytes = shorter_end cs h.rest f.rest (sees_follows cs h.before h.rest h.sees) (sees_follows cs f.before f.rest f.sees) short in
    let there = f.place_is in
    omega arith

pub first_fault : (cs : List ℕ) (left place : ℕ) (h : FaultLeft cs left) → place + length (encode_utf8_all h.rest) ≡ length (encode_utf8_all cs) → IsFirstFault cs place
first_fault cs left place h e = record {
  faulty = record { before = h.before; rest = h.rest; sees = h.sees; wrong = h.wrong; place_is = e };
  least = no_later cs left place h e;
}
