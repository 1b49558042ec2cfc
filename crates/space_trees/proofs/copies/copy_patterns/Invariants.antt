use Rattle.std.proofs.Common.{◌≡◌, ◌++◌, map, string_bytes}
use Rattle.schema_types.specs.View.{properties_view}
use Rattle.convert_defs.specs.Owners.{pattern_names}
use Rattle.space_trees.proofs.copies.copy_patterns.Given as goal

abbrev pub invariant-loop-name : goal.invariant-loop-name
invariant-loop-name l = pattern_names (properties_view l.patterns.entries) ≡ map string_bytes l.copies.items ++ pattern_names (properties_view l.name-iterator)
