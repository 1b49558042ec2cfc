use Rattle.std.proofs.Common.{◌≡◌, drop}
use Rattle.evolve_defs.specs.Steps.{has_field}
use Rattle.evolve_rows.specs.Found.{refs_view}
use Rattle.evolve_rows.proofs.fields.has_field.Given as goal

abbrev pub invariant-loop-field : goal.invariant-loop-field
invariant-loop-field l = has_field (refs_view l.fields) l.name ≡ has_field (refs_view (drop l.field-index l.fields)) l.name
