use Rattle.std.proofs.Common.{◌∙◌, sym}
use Rattle.std.proofs.lemmas.Bool.{false≢true}
use Rattle.listed_reading.proofs.Ruled.{some_given}
use Rattle.listed_reading.proofs.rules.has_one_of.Goals as goal

pub returns-clause-answer : goal.returns-clause-answer
returns-clause-answer g c =
    some_given (λ p. (g.T.Texts.relations c.args.texts.now).matches p c.args.text.now) c.args.patterns.now.entries c.in_ok-found.found (λ e. false≢true (sym c.if-is_empty.false ∙ c.is_empty.ensures.1 e))
    c.in_ok-found.ensures.answer
