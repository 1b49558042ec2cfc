use Rattle.std.proofs.Common.{◌≡◌, ◌-◌}
use Rattle.std.specs.BTreeSet.{contains_text}
use Rattle.free_names.specs.Free.{first_untaken}
use Rattle.free_names.proofs.free_name.Given as goal

abbrev pub invariant-loop-number : goal.invariant-loop-number
invariant-loop-number l = first_untaken l.prefix (contains_text l.names) (l.count - l.number) l.number ≡ first_untaken l.prefix (contains_text l.names) l.count 0
