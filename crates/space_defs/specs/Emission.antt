-- What is emitted for a space of entries, with the type of one of them.
use Rattle.std.specs.Prelude.{Bool}
use Rattle.entry_defs.specs.Space.{Id, Space}
use Rattle.emit_defs.specs.Emission.{Emission}
use Rattle.space_defs.specs.Items.{items_at}
use Rattle.space_defs.specs.Uses.{boxes_at}
use Rattle.space_defs.specs.Leads.{leads_at}
use Rattle.space_defs.specs.Types.{none_boxed, ty_at}
use Rattle.space_defs.specs.Trees.{item_trees_at, conversions_at}

-- where it is known which uses are boxed, and which entries lead to an option
abbrev pub emission_by : Space → (Id → Id → Bool) → (Id → Bool) → Id → Emission
emission_by space boxed leads root = record { items = item_trees_at space boxed leads 0 (items_at space); conversions = conversions_at (items_at space); root = ty_at space none_boxed root }

abbrev pub emission_at : Space → Id → Emission
emission_at space root = emission_by space (boxes_at space) (leads_at space (boxes_at space)) root
