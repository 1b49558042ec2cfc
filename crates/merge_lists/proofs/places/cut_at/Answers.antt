use Rattle.std.proofs.Common.{◌∙◌, sym, true, false}
use Rattle.schema_defs.specs.Schema.{schemas}
use Rattle.schema_types.specs.View.{maybe_view, schemas_view}
use Rattle.merge_lists.specs.Plans.{around_front}
use Rattle.merge_lists.proofs.Fronts.{cut_by}
use Rattle.merge_lists.proofs.places.cut_at.Goals as goal

pub returns-then-has_so_many : goal.returns-then-has_so_many
returns-then-has_so_many c =
    c.cut_off.ensures ∙ cut_by (around_front c.args.around) c.args.count (schemas (schemas_view c.args.items.items)) (maybe_view c.args.rest) true (sym c.if-has_so_many.true ∙ c.has_so_many.ensures)

pub returns-else-has_so_many : goal.returns-else-has_so_many
returns-else-has_so_many c =
    c.uncut.ensures ∙ cut_by (around_front c.args.around) c.args.count (schemas (schemas_view c.args.items.items)) (maybe_view c.args.rest) false (sym c.if-has_so_many.false ∙ c.has_so_many.ensures)
