use Rattle.rust_tokens.proofs.Quotes.{barren_after}
use Rattle.rust_tokens.proofs.partners.Partners.note_barren.Goals as goal

pub returns-clause-barren : goal.returns-clause-barren
returns-clause-barren c = barren_after c.args.after.now c.body_len.result c.body_len.ensures.within c.body_len.ensures.barren c.requires
