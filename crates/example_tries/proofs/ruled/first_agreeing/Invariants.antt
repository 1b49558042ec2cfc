use Rattle.std.proofs.Common.{◌≡◌, ◌≤◌}
use Rattle.example_tries.proofs.ruled.first_agreeing.Given as goal

abbrev pub invariant-loop-candidate : goal.invariant-loop-candidate
invariant-loop-candidate g l = record {
  keeps : g.T.Texts.relations l.texts ≡ g.T.Texts.relations l.initial.texts;
  counts : g.T.Texts.faults l.initial.texts ≤ g.T.Texts.faults l.texts;
}
