-- Where references lead, as the program has it.
use Rattle.std.specs.Prelude.{Option, Some, None, if◌then◌else◌}
use Rattle.std.specs.BTreeMap.{get_by_text}
use Rattle.entry_defs.specs.Entry.{Target, the_root, definition}
use Rattle.entry_defs.specs.Space.{Id}
use Rattle.entry_defs.specs.Table.{same_target}
use Rattle.space_trees.specs.Placed.{rest_or_first}
use Rattle.space_trees.specs.declared.led.Led.{Led}

abbrev pub found_led : Led → Target → Option Id
found_led l the_root = l.root
found_led l (definition k) = get_by_text l.definitions k

abbrev pub ids_of : Led → Target → Id
ids_of l q = rest_or_first (found_led l q)

-- the first, or else the second
abbrev pub or_led : Option Id → Option Id → Option Id
or_led None b = b
or_led (Some i) b = Some i

abbrev pub led_once : Target → Id → Target → Option Id
led_once t i q = if same_target q t then Some i else None
