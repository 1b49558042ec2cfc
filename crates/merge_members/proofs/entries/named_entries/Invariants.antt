use Rattle.std.proofs.Common.{◌≡◌, Bool, map, string_bytes}
use Rattle.schema_defs.specs.Schema.{Schema}
use Rattle.schema_types.specs.View.{maybe_view, properties_view}
use Rattle.merge_defs.specs.Outcome.{Outcome}
use Rattle.merge_defs.specs.Objects.{properties_of}
use Rattle.merge_members.specs.Plans.{entries_then}
use Rattle.merge_members.proofs.entries.named_entries.Given as goal

abbrev pub invariant-loop-name : goal.invariant-loop-name
invariant-loop-name l =
    (join : Schema → Schema → Outcome Schema) (object_type closed : Bool)
    → entries_then join object_type closed l.entries.items (properties_of join (properties_view l.first.properties.now.entries) (maybe_view l.first.rest.now) (properties_view l.second.properties.now.entries) (maybe_view l.second.rest.now) l.has_nulls object_type closed (map string_bytes l.needed.keys) (map string_bytes l.name-iterator))
    ≡ properties_of join (properties_view l.first.properties.now.entries) (maybe_view l.first.rest.now) (properties_view l.second.properties.now.entries) (maybe_view l.second.rest.now) l.has_nulls object_type closed (map string_bytes l.needed.keys) (map string_bytes l.names.keys)
