use Rattle.std.proofs.Common.{◌≡◌, Option, option_map}
use Rattle.serde_json.specs.View.{members_view}
use Rattle.json_value.specs.View.{members_of}
use Rattle.tree_types.specs.declared.tree.Tree.{Tree}
use Rattle.default_reading.specs.Seen.{listed}
use Rattle.default_reading.specs.Steps.{has_others}
use Rattle.default_reading.proofs.parts.has_others.Given as goal

abbrev pub invariant-loop-name : goal.invariant-loop-name
invariant-loop-name l =
    (o : Option Tree) → has_others (option_map (λ p. p.now) l.passed) (listed l.fields o) (members_of (members_view l.members.entries)) ≡ has_others (option_map (λ p. p.now) l.passed) (listed l.fields o) (members_of (members_view l.name-iterator))
