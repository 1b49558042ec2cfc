-- What is emitted for a document.
use Rattle.std.specs.Prelude.{ℕ, map}
use Rattle.syntax_trees.specs.Item.{item_view}
use Rattle.syntax_trees.specs.View.{ty}
use Rattle.schema_defs.specs.Texts.{Relations}
use Rattle.schema_defs.specs.Schema.{Document}
use Rattle.schema_tree.specs.Conversions.{conversions_view}
use Rattle.entry_defs.specs.Table.{root_of}
use Rattle.emit_defs.specs.Emission.{Emission, emission}
use Rattle.formed_plans.specs.Laws.{plan_of}
use Rattle.convert_document.specs.declared.conversion.Emitted.{Emitted}

abbrev pub emitted_view : Emitted → Emission
emitted_view e = record { items = map item_view e.items.items; conversions = conversions_view e.table; root = ty e.root }

-- of the table of the document, with names, and of its root
abbrev pub emission_of : Relations → Document → ℕ → ℕ → Emission
emission_of r d most n = emission (plan_of r d most n) (root_of (plan_of r d most n))
