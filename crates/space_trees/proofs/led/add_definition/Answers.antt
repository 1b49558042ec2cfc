use Rattle.std.proofs.Common.{string_bytes}
use Rattle.space_trees.proofs.Steps.{added}
use Rattle.space_trees.proofs.led.add_definition.Goals as goal

pub returns : goal.returns
returns c =
    added c.args.definitions.now c.insert.new.self (string_bytes c.in_ok-key.key) c.args.key.now c.args.place c.contains_key.result c.contains_key.ensures c.if-contains_key.false c.in_ok-key.ensures.ok
    c.in_ok-insert.ensures.updates
