use Rattle.std.proofs.Common.{arith, lit<}
use Rattle.std.proofs.lemmas.Grind.{common_steps}
use Rattle.schema_faults.proofs.References.{other_step}
use Rattle.schema_faults.proofs.reference.push_after_tilde.Goals as goal

pub returns-in_ok-push-in_default-2 : goal.returns-in_ok-push-in_default-2
returns-in_ok-push-in_default-2 c =
    other_step _ _ _ c.args.c (grind (arith, common_steps)) (grind (arith, common_steps)) (grind (arith, common_steps)) (c.in_ok-push-in_default.ensures.ascii (lit< tt)) c.in_ok-push-in_default.ensures.bytes c.in_ok-push-in_default-2.ensures.bytes
