use Rattle.std.proofs.Common.{◌≡◌, Bool, true, false, ap, sym, ◌∙◌, refl}
use Rattle.std.specs.Prelude.{option_map}
use Rattle.std.specs.Bool.{OnTrue, OnFalse}
use Rattle.rust_tokens.specs.Lexeme.{piece}
use Rattle.rust_tokens.proofs.lexer.read_token.Goals as goal

on_true : (b : Bool) (P : Type 0) → OnTrue b P → b ≡ true → P
on_true true P h e = h
on_true false P h e = absurd (cc)

on_false : (b : Bool) (P : Type 0) → OnFalse b P → b ≡ false → P
on_false false P h e = h
on_false true P h e = absurd (cc)

pub returns-then-branch-clause-read : goal.returns-then-branch-clause-read
returns-then-branch-clause-read c =
    let begins = sym c.in_ok-front.ensures.value ∙ ap (option_map (λ p. (piece p.0, p.1))) c.in-Some.is in
    λ cs h. on_true _ _ c.in_ok-place_token-in-Some.ensures.placed c.if-branch.true c.args.rest.now c.in-Some.n refl begins cs h

pub returns-else-branch-clause-stuck : goal.returns-else-branch-clause-stuck
returns-else-branch-clause-stuck c =
    let begins = sym c.in_ok-front.ensures.value ∙ ap (option_map (λ p. (piece p.0, p.1))) c.in-Some.is in
    on_false _ _ c.in_ok-place_token-in-Some.ensures.stuck c.if-branch.false c.args.rest.now c.in-Some.n begins
