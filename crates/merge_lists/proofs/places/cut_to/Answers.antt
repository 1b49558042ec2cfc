use Rattle.std.proofs.Common.{◌∙◌, ap, sym}
use Rattle.schema_defs.specs.Schema.{schemas}
use Rattle.schema_types.specs.View.{maybe_view, schemas_view}
use Rattle.merge_defs.specs.Arrays.{cut_to}
use Rattle.merge_lists.specs.Plans.{around_front}
use Rattle.merge_lists.proofs.places.cut_to.Goals as goal

pub returns-in-None : goal.returns-in-None
returns-in-None c = c.uncut.ensures ∙ ap (λ m. around_front c.args.around (cut_to m (schemas (schemas_view c.args.items.items)) (maybe_view c.args.rest))) (sym c.in-None.is)

pub returns-in-Some : goal.returns-in-Some
returns-in-Some c = c.cut_at.ensures ∙ ap (λ m. around_front c.args.around (cut_to m (schemas (schemas_view c.args.items.items)) (maybe_view c.args.rest))) (sym c.in-Some.is)
