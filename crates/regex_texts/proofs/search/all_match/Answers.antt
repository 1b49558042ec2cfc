use Rattle.std.proofs.Common.{◌∙◌, sym}
use Rattle.regex_texts.proofs.Beside.{next_match, no_match, same_set}
use Rattle.regex_texts.proofs.search.all_match.Goals as goal

pub returns-then-not-is_match-clause-found : goal.returns-then-not-is_match-clause-found
returns-then-not-is_match-clause-found c =
    no_match c.args.text.now c.loop-one.beside c.args.beside.now c.loop-one.one-index c.one-item.result c.loop-one-test.true c.loop-one.invariant.0
    (sym c.is_match.ensures.found ∙ c.if-not-is_match.true) c.loop-one.invariant.1

pub returns-then-not-is_match-clause-same : goal.returns-then-not-is_match-clause-same
returns-then-not-is_match-clause-same c =
    same_set c.loop-one.beside c.args.beside.now c.loop-one.one-index c.one-item.result c.is_match.new.self c.loop-one.invariant.0 c.is_match.ensures.same

pub loop-one-preserved : goal.loop-one-preserved
loop-one-preserved c = (
  same_set c.loop-one.beside c.args.beside.now c.loop-one.one-index c.one-item.result c.is_match.new.self c.loop-one.invariant.0 c.is_match.ensures.same,
  next_match c.args.text.now c.loop-one.beside c.args.beside.now c.loop-one.one-index c.one-item.result c.loop-one-test.true c.loop-one.invariant.0
      (sym c.is_match.ensures.found ∙ c.if-not-is_match.false) c.loop-one.invariant.1,
)
