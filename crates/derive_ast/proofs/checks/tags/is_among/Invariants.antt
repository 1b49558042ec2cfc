use Rattle.std.proofs.Common.{◌≡◌, map}
use Rattle.std.specs.BTreeSet.{keys}
use Rattle.std.specs.List.{list_any}
use Rattle.attr_parts.specs.Names.{attr_name}
use Rattle.container_defs.specs.Checks.{has_text}
use Rattle.derive_ast.proofs.checks.tags.is_among.Given as goal

abbrev pub invariant-loop-name : goal.invariant-loop-name
invariant-loop-name l = list_any (has_text l.text) (map attr_name (keys l.names)) ≡ list_any (has_text l.text) (map attr_name l.name-iterator)
