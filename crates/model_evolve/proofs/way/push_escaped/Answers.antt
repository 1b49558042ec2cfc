use Rattle.std.proofs.Common.{arith}
use Rattle.std.proofs.lemmas.Grind.{common_steps}
use Rattle.locations.proofs.Escapes.{plain_step}
use Rattle.model_evolve.proofs.way.push_escaped.Goals as goal

pub loop-c-preserved : goal.loop-c-preserved
loop-c-preserved c =
    plain_step _ _ _ _ _ c.in-Some.c (grind (arith, common_steps)) (grind (arith, common_steps)) c.in-Some.ensures.steps.0 (grind (arith, common_steps)) c.loop-c.invariant
