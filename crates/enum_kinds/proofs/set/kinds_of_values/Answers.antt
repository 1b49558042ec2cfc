use Rattle.std.proofs.Common.{rules}
use Rattle.json_value.specs.View.{kept_view}
use Rattle.enum_defs.specs.Kinds.{kind_of_value}
use Rattle.enum_kinds.proofs.Sets.{one_more_seen}
use Rattle.enum_kinds.proofs.set.kinds_of_values.Goals as goal

pub loop-value-preserved : goal.loop-value-preserved
loop-value-preserved c =
    one_more_seen kept_view kind_of_value c.loop-value.kinds c.join-kinds.result c.kind_of_value.result c.in-Some.value.now c.in-Some.rest.now c.loop-value.left.now _ c.join-kinds.ensures c.kind_of_value.ensures (search rules) c.loop-value.invariant
