use Rattle.std.proofs.Common.{◌++◌, option_map, ap}
use Rattle.schema_types.specs.View.{schema_view, schemas_view}
use Rattle.merge_parts.specs.View.{notes_view}
use Rattle.merge_branches.specs.Kept.{fate_view}
use Rattle.merge_branches.proofs.Fates.{was_answer}
use Rattle.merge_branches.proofs.fate.fate.Goals as goal

pub returns-in_ok-fate-in-Some : goal.returns-in_ok-fate-in-Some
returns-in_ok-fate-in-Some c =
    was_answer (notes_view c.args.notes.now.items) (notes_view c.add_notes.new.notes.items) (notes_view c.fate_of_merge.new.notes.items) (notes_view c.args.told.now.items)
    (schema_view c.args.body.now) (schema_view c.args.member.now) (schemas_view c.args.before.now ++ schemas_view c.args.after.now) (option_map schema_view c.args.found)
    (schema_view c.in-Some.merge) c.has_way-is_wide.result (fate_view c.in_ok-fate-in-Some.fate)
    (ap (option_map schema_view) c.in-Some.is) c.in_ok-add_notes.ensures c.has_way-is_wide.ensures c.in_ok-fate-in-Some.ensures
