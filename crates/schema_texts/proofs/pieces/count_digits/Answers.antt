use Rattle.std.proofs.Common.{rules}
use Rattle.schema_texts.proofs.Cuts.{digits_before, digits_alone}
use Rattle.schema_texts.proofs.pieces.count_digits.Goals as goal

pub returns-in-Some-clause-count : goal.returns-in-Some-clause-count
returns-in-Some-clause-count c = digits_before c.args.text.now c.in-Some.place c.in-Some.ensures.place

pub returns-in-None-clause-count : goal.returns-in-None-clause-count
returns-in-None-clause-count c = search (rules, digits_alone c.args.text.now c.in-None.ensures.place)
