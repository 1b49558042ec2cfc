use Rattle.std.proofs.Common.{◌≡◌}
use Rattle.schema_cases.proofs.values.types.+types.Given as goal

abbrev pub invariant-first_formed-loop-form : goal.invariant-first_formed-loop-form
invariant-first_formed-loop-form l = l.form-iterator ≡ l.members.entries
