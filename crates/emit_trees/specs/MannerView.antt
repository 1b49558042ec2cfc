-- The manners of fields that the program names.
use Rattle.emit_defs.specs.Models as defs
use Rattle.emit_defs.specs.Models.{Manner, Empty, empty_option, empty_vec, empty_set, empty_map}
use Rattle.emit_trees.specs.declared.manner.Manner as program
use Rattle.emit_trees.specs.declared.manner.Manner.TheVariants as manners
use Rattle.emit_trees.specs.declared.manner.Empty as program_empty
use Rattle.emit_trees.specs.declared.manner.Empty.TheVariants as empties

abbrev pub empty_view : program_empty.Empty → Empty
empty_view empties.Option = empty_option
empty_view empties.Vec = empty_vec
empty_view empties.Set = empty_set
empty_view empties.Map = empty_map

abbrev pub manner_view : program.Manner → Manner
manner_view manners.Plain = defs.plain
manner_view manners.Whole = defs.whole
manner_view manners.Defaulted = defs.defaulted
manner_view (manners.Skipped x) = defs.skipped (empty_view x)
manner_view manners.Held = defs.held
