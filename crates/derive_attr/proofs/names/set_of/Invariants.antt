use Rattle.std.proofs.Common.{◌≡◌, map, drop, []}
use Rattle.std.specs.BTreeSet.{keys}
use Rattle.attr_parts.specs.Names.{attr_name}
use Rattle.attr_defs.specs.Members.{name_set}
use Rattle.derive_attr.proofs.names.set_of.Given as goal

abbrev pub invariant-loop-name : goal.invariant-loop-name
invariant-loop-name l = name_set (map attr_name (keys l.set)) (map attr_name (drop l.name-index l.names)) ≡ name_set [] (map attr_name l.names)
