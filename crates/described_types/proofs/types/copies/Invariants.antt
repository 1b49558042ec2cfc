use Rattle.std.proofs.Common.{◌≡◌}
use Rattle.json_value.specs.View.{kept_view}
use Rattle.describe_defs.specs.Written.{copies_of}
use Rattle.described_types.specs.Seen.{kept_items}
use Rattle.described_types.proofs.types.copies.Given as goal

abbrev pub invariant-loop : goal.invariant-loop
invariant-loop l = kept_items l.values.items ≡ copies_of l.counter (kept_view l.value)
