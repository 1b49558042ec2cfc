-- No `::` begins before the place.
use Rattle.schema_texts.proofs.Addresses.{Passed}
use Rattle.schema_texts.proofs.address.around_double.Given as goal

abbrev pub invariant-loop-place : goal.invariant-loop-place
invariant-loop-place l = Passed l.text l.place
