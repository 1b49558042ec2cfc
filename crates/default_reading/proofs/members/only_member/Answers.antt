use Rattle.std.proofs.Common.{◌≡◌, length, arith}
use Rattle.default_reading.proofs.Names.{not_only}
use Rattle.default_reading.proofs.members.only_member.Goals as goal

pub returns-then-len-ne1 : goal.returns-then-len-ne1
returns-then-len-ne1 c =
    let n : c.len.result ≡ length c.args.members.now.entries = c.len.ensures.len in
    not_only c.args.members.now.entries (λ e. absurd (omega (arith, e, n, c.if-len-ne1.true)))
