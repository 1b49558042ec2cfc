use Rattle.std.proofs.Common.{◌≡◌, drop, not}
use Rattle.std.specs.List.{list_any}
use Rattle.evolve_rows.specs.Found.{refs_view}
use Rattle.evolve_rows.proofs.fields.is_written.Given as goal

abbrev pub invariant-loop-field : goal.invariant-loop-field
invariant-loop-field l = list_any (λ f. not f.skip) (refs_view l.fields) ≡ list_any (λ f. not f.skip) (refs_view (drop l.field-index l.fields))
