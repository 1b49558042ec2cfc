use Rattle.std.proofs.Common.{◌≡◌, drop}
use Rattle.evolve_defs.specs.Steps.{names_within}
use Rattle.evolve_rows.specs.Found.{refs_view}
use Rattle.evolve_rows.proofs.fields.names_within.Given as goal

abbrev pub invariant-loop-field : goal.invariant-loop-field
invariant-loop-field l = names_within (refs_view l.old) (refs_view l.new) ≡ names_within (refs_view l.old) (refs_view (drop l.field-index l.new))
