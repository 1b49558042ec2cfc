use Rattle.listed_reading.proofs.TargetSteps.{among_these}
use Rattle.listed_reading.proofs.led.led_to.Goals as goal

pub returns-then-is_same-clause-among : goal.returns-then-is_same-clause-among
returns-then-is_same-clause-among c =
    among_these c.deref-entry-items.result.now c.args.table.now.targets.items c.loop-entry.entry-index c.entry-item.result c.deref-entry-items.ensures.value c.loop-entry-test.true c.entry-item.is
