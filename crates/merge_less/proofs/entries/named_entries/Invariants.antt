use Rattle.std.proofs.Common.{◌≡◌, true, false, map, string_bytes}
use Rattle.schema_defs.specs.Schema.{Schema}
use Rattle.schema_types.specs.View.{properties_view}
use Rattle.merge_defs.specs.Outcome.{Outcome}
use Rattle.merge_members.specs.Plans.{entries_then}
use Rattle.merge_less.specs.Names.{names_left}
use Rattle.merge_less.proofs.entries.named_entries.Given as goal

abbrev pub invariant-loop-name : goal.invariant-loop-name
invariant-loop-name l =
    (less : Schema → Schema → Outcome Schema)
    → entries_then less true false l.entries.items (names_left less (properties_view l.first.properties.now.entries) (properties_view l.second.properties.now.entries) (map string_bytes l.first.required.now.keys) (map string_bytes l.second.required.now.keys) (map string_bytes l.name-iterator))
    ≡ names_left less (properties_view l.first.properties.now.entries) (properties_view l.second.properties.now.entries) (map string_bytes l.first.required.now.keys) (map string_bytes l.second.required.now.keys) (map string_bytes l.names.keys)
