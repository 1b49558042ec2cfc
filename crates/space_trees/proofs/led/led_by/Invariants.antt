use Rattle.std.proofs.Common.{◌≡◌, map, drop}
use Rattle.entry_defs.specs.Entry.{Target}
use Rattle.tree_types.specs.View.{target_entry}
use Rattle.space_trees.specs.Filled.{led_from}
use Rattle.space_trees.specs.Leading.{found_led, or_led}
use Rattle.space_trees.proofs.led.led_by.Given as goal

abbrev pub invariant-loop-target : goal.invariant-loop-target
invariant-loop-target l =
    (q : Target) → or_led (found_led l.led q) (led_from l.place (map target_entry (drop l.target-index l.targets.items)) q) ≡ led_from 0 (map target_entry l.targets.items) q
