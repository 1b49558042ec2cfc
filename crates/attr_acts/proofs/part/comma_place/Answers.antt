use Rattle.std.proofs.Common.{ap, sym, ◌∙◌, arith}
use Rattle.token_trees.specs.View.{tree, trees}
use Rattle.syntax_trees.proofs.Metas.{drop_past, comma_past}
use Rattle.attr_acts.proofs.part.comma_place.Goals as goal

pub loop-rest-preserved : goal.loop-rest-preserved
loop-rest-preserved c =
    let front = ap trees c.in-Some.ensures.cases.0 in
    let first = tree c.in-Some.field-0-0.now in
    let rest = trees c.in-Some.rest.now in
    let left = trees c.loop-rest.left.now in
    record {
      passed = drop_past c.loop-rest.passed (trees c.args.tokens.now) left first rest c.loop-rest.invariant.passed front;
      comma = c.loop-rest.invariant.comma ∙ comma_past left first rest front (sym c.is_sign_next.ensures ∙ c.if-is_sign_next.false);
      room = omega (arith, c.loop-rest.invariant.room, c.in-Some.ensures.cases.1);
    }
