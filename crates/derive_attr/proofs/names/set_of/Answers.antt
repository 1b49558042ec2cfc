use Rattle.std.proofs.Common.{map}
use Rattle.std.specs.BTreeSet.{keys}
use Rattle.attr_parts.specs.Names.{attr_name}
use Rattle.derive_attr.proofs.NameSets.{next_named}
use Rattle.derive_attr.proofs.names.set_of.Goals as goal

pub loop-name-preserved : goal.loop-name-preserved
loop-name-preserved c =
    next_named (map attr_name (keys c.loop-name.set)) (map attr_name (keys c.insert.new.set)) _ c.args.names.now c.loop-name.name-index c.name-item.result c.in_ok-try_clone.field-0 c.loop-name-test.true c.name-item.is c.in_ok-try_clone.ensures c.in_ok-insert.ensures.ok c.loop-name.invariant
