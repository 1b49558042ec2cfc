-- What was emitted, as the definition has it.
use Rattle.std.specs.Prelude.{map}
use Rattle.syntax_trees.specs.Item.{item_view}
use Rattle.syntax_trees.specs.View.{ty}
use Rattle.schema_tree.specs.Conversions.{conversions_view}
use Rattle.emit_defs.specs.Emission as defs
use Rattle.emit_space.specs.declared.emitting.Emission.{Emission}

abbrev pub emission_view : Emission → defs.Emission
emission_view e = record { items = map item_view e.items.items; conversions = conversions_view e.conversions; root = ty e.root }
