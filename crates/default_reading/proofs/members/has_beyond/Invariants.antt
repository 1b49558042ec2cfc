use Rattle.std.proofs.Common.{◌≡◌}
use Rattle.serde_json.specs.View.{members_view}
use Rattle.json_value.specs.View.{members_of}
use Rattle.default_reading.specs.Steps.{has_beyond}
use Rattle.default_reading.proofs.members.has_beyond.Given as goal

abbrev pub invariant-loop-name : goal.invariant-loop-name
invariant-loop-name l = has_beyond l.one l.other (members_of (members_view l.members.entries)) ≡ has_beyond l.one l.other (members_of (members_view l.name-iterator))
