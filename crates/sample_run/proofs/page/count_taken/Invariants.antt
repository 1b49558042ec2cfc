use Rattle.std.proofs.Common.{◌≡◌, ◌≤◌, ◌+◌, map, drop}
use Rattle.derive_model.specs.VerdictView.{verdict_view}
use Rattle.sample_run.specs.Sampled.{taken_count}
use Rattle.sample_run.proofs.page.count_taken.Given as goal

abbrev pub invariant-loop-verdict : goal.invariant-loop-verdict
invariant-loop-verdict l = (l.count ≤ l.verdict-index) × (l.count + taken_count (map verdict_view (drop l.verdict-index l.verdicts)) ≡ taken_count (map verdict_view l.verdicts))
