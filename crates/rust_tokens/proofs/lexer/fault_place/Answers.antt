use Rattle.std.proofs.Common.{◌≡◌, ◌≤◌, ◌-◌, ◌+◌, ap, sym, subst, ◌∙◌, length, drop, encode_utf8_all, ℕ}
use Rattle.rust_tokens.proofs.Places.{follows_left}
use Rattle.rust_tokens.proofs.Sights.{sees_follows}
use Rattle.rust_tokens.proofs.Firsts.{first_fault}
use Rattle.rust_tokens.proofs.lexer.fault_place.Goals as goal

pub bytes_before-requires-clause-left : goal.bytes_before-requires-clause-left
bytes_before-requires-clause-left c =
    let h = c.requires.fault in
    let P : ℕ → Type 0 = λ n. n ≤ length c.args.chars.now in
    subst P h.length_is (follows_left c.args.chars.now h.rest (sees_follows c.args.chars.now h.before h.rest h.sees)).0

pub returns : goal.returns
returns c =
    let h = c.requires.fault in
    let cs = c.args.chars.now in
    let e : h.rest ≡ drop (length cs - c.args.left) cs =
    (follows_left cs h.rest (sees_follows cs h.before h.rest h.sees)).1 ∙ ap (λ n. drop (length cs - n) cs) h.length_is in
    first_fault cs c.args.left c.bytes_before.result h (ap (λ l. c.bytes_before.result + length (encode_utf8_all l)) e ∙ c.bytes_before.ensures ∙ sym c.requires.len)
