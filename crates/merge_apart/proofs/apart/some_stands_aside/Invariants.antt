use Rattle.std.proofs.Common.{◌≡◌}
use Rattle.std.specs.List.{list_any}
use Rattle.schema_types.specs.View.{properties_view}
use Rattle.enum_defs.specs.Words.{names_of}
use Rattle.merge_apart.specs.Aside.{stands_aside}
use Rattle.merge_apart.specs.View.{aside_view}
use Rattle.merge_apart.proofs.apart.some_stands_aside.Given as goal

abbrev pub invariant-loop-name : goal.invariant-loop-name
invariant-loop-name l =
    list_any (stands_aside (aside_view l.aside)) (names_of (properties_view l.properties.entries)) ≡ list_any (stands_aside (aside_view l.aside)) (names_of (properties_view l.name-iterator))
