use Rattle.std.proofs.Common.{◌≡◌, drop, map, string_bytes}
use Rattle.std.specs.List.{list_all}
use Rattle.evolve_defs.specs.Steps.{has_field}
use Rattle.evolve_rows.specs.Found.{refs_view}
use Rattle.evolve_rows.proofs.fields.has_fields.Given as goal

abbrev pub invariant-loop-name : goal.invariant-loop-name
invariant-loop-name l = list_all (has_field (refs_view l.fields)) (map string_bytes l.names) ≡ list_all (has_field (refs_view l.fields)) (map string_bytes (drop l.name-index l.names))
