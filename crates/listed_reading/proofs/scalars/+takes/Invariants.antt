use Rattle.std.proofs.Common.{◌≡◌, ◌≤◌, ◌+◌, ℕ, Bool, drop}
use Rattle.json_value.specs.View.{kept_view}
use Rattle.model_defs.specs.Model.{TagModel}
use Rattle.tree_types.specs.View.{table_view}
use Rattle.tree_types.proofs.Sizes.{tree_size, part_size, parts_size, cases_size}
use Rattle.listed_reading.proofs.Ranks.{rank}
use Rattle.listed_reading.proofs.Variants.{some_in}
use Rattle.listed_reading.proofs.scalars.+takes.Given as goal

abbrev pub invariant-some_takes-loop-variant : goal.invariant-some_takes-loop-variant
invariant-some_takes-loop-variant g l = record {
  rest : (m : ℕ) (tag : TagModel) (closed : Bool)
      → some_in (table_view l.table) l.left (g.T.Texts.relations l.initial.texts) (kept_view l.value) m tag closed l.variants.items ≡ some_in (table_view l.table) l.left (g.T.Texts.relations l.initial.texts) (kept_view l.value) m tag closed (drop l.variant-index l.variants.items);
  keeps : g.T.Texts.relations l.texts ≡ g.T.Texts.relations l.initial.texts;
  counts : g.T.Texts.faults l.initial.texts ≤ g.T.Texts.faults l.texts;
}

abbrev pub decreases-takes_scalar : goal.decreases-takes_scalar
decreases-takes_scalar g l = rank l.table.now l.left (tree_size l.tree.now)

abbrev pub decreases-some_takes : goal.decreases-some_takes
decreases-some_takes g l = rank l.table.now l.left (cases_size l.variants.now.items)

abbrev pub decreases-variant_takes : goal.decreases-variant_takes
decreases-variant_takes g l = rank l.table.now l.left (1 + parts_size l.parts.now.items)

abbrev pub decreases-front_takes : goal.decreases-front_takes
decreases-front_takes g l = rank l.table.now l.left (parts_size l.parts.now.items)

abbrev pub decreases-part_takes : goal.decreases-part_takes
decreases-part_takes g l = rank l.table.now l.left (part_size l.part.now)

abbrev pub decreases-follow : goal.decreases-follow
decreases-follow g l = rank l.table.now l.left 0
