use Rattle.std.proofs.Common.{[], option_map, subst, sym}
use Rattle.schema_defs.specs.Schema.{schemas}
use Rattle.schema_types.specs.View.{schema_view, schemas_view}
use Rattle.merge_parts.specs.View.{notes_view}
use Rattle.merge_parts.specs.Steps.{given}
use Rattle.merge_steps.specs.Ends.{Ends}
use Rattle.merge_lists.specs.declared.merged.End.{End}
use Rattle.merge_lists.specs.Plans.{end_view, ending_outcome, maybe_array}
use Rattle.merge_lists.proofs.front.ended.Goals as goal

pub returns-in-GoesOn : goal.returns-in-GoesOn
returns-in-GoesOn c = λ join.
    let P : End → Type 0 = λ e.
    Ends maybe_array (notes_view c.args.notes.now.items) (notes_view c.further.new.notes.items) (ending_outcome join c.args.around c.args.is_placed (given [] (option_map schema_view c.args.found)) (record { items = schemas (schemas_view c.args.merged.items.items); end = end_view e })) c.further.result in
    subst P (sym c.in-GoesOn.is) (c.further.ensures join)
