use Rattle.schema_faults.proofs.References.{plain_step}
use Rattle.schema_faults.proofs.reference.push_plain.Goals as goal

pub returns : goal.returns
returns c = plain_step _ _ c.args.c c.if-c-eq126.false c.in_ok-push.ensures.bytes
