use Rattle.std.proofs.Common.{rules}
use Rattle.enum_defs.specs.Kinds.{kind_of_type}
use Rattle.enum_kinds.proofs.Sets.{one_more}
use Rattle.enum_kinds.proofs.set.kinds_of_names.Goals as goal

pub loop-name-preserved : goal.loop-name-preserved
loop-name-preserved c =
    one_more kind_of_type c.loop-name.kinds c.join-kinds.result c.kind_of_type.result c.in-Some.name.now c.in-Some.rest.now c.loop-name.left.now _ c.join-kinds.ensures c.kind_of_type.ensures (search rules) c.loop-name.invariant
