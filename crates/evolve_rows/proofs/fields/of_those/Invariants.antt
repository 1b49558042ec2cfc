use Rattle.std.proofs.Common.{◌≡◌, ◌++◌, drop}
use Rattle.std.specs.Prelude.{filter}
use Rattle.evolve_rows.specs.Found.{passes, refs_view}
use Rattle.evolve_rows.proofs.fields.of_those.Given as goal

abbrev pub invariant-loop-field : goal.invariant-loop-field
invariant-loop-field l = refs_view l.picked.items ++ filter (passes l.pick) (refs_view (drop l.field-index l.fields)) ≡ filter (passes l.pick) (refs_view l.fields)
