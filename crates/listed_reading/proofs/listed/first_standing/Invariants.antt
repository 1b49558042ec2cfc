use Rattle.std.proofs.Common.{◌≡◌, drop, map}
use Rattle.json_value.specs.View.{kept_view}
use Rattle.listed_reading.specs.Unread.{first_of, standing}
use Rattle.listed_reading.proofs.listed.first_standing.Given as goal

abbrev pub invariant-loop-value : goal.invariant-loop-value
invariant-loop-value l = first_of (standing l.less_nulls (map kept_view l.listed.items)) ≡ first_of (standing l.less_nulls (map kept_view (drop l.value-index l.listed.items)))
