-- The metas that the program's parts stand for.
use Rattle.token_trees.specs.View.{trees}
use Rattle.attr_defs.specs.Metas.{PartD, part, unread}
use Rattle.attr_acts.specs.declared.part.Part.{Part}
use Rattle.attr_acts.specs.declared.part.Part.TheVariants.{Meta, Unread}

abbrev pub part_view : Part → PartD
part_view (Meta path rest end) = part (trees path.now) (trees rest.now) end
part_view (Unread e) = unread e
