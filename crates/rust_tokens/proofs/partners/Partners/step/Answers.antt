use Rattle.std.proofs.Common.{sym}
use Rattle.rust_tokens.proofs.Quotes.{barren_quote, failed_quote}
use Rattle.rust_tokens.proofs.Sights.{beyond_none}
use Rattle.rust_tokens.proofs.partners.Partners.step.Goals as goal

pub returns-then-after-self-clause-passed : goal.returns-then-after-self-clause-passed
returns-then-after-self-clause-passed c =
    sym (beyond_none c.args.rest.now (barren_quote c.args.rest.now c.first-item.result c.args.self.now.barren c.requires.some c.first-item.is c.if-first-eq34.true c.requires.barren c.if-after-self.true))

pub note_barren-requires : goal.note_barren-requires
note_barren-requires c =
    failed_quote c.args.rest.now c.first-item.result c.requires.some c.first-item.is c.if-first-eq34-2.true (let h = rw c.in-None.is at c.in_ok-token.ensures.value in sym h)
