use Rattle.std.proofs.Common.{◌≡◌, get_or, true, rules}
use Rattle.std.specs.Char.{is_ascii_digit}
use Rattle.value_types.proofs.Numbers.{large_ends}
use Rattle.value_types.proofs.number.number_from.Goals as goal

pub returns-in-None-clause-none : goal.returns-in-None-clause-none
returns-in-None-clause-none c =
    let bs = c.args.bytes.now in
    let i = c.loop-byte.byte-index in
    let digit : is_ascii_digit (get_or bs i 0) ≡ true = search rules in
    large_ends bs i c.loop-byte.number c.loop-byte-test.true c.loop-byte.invariant digit c.in-None.ensures.none
