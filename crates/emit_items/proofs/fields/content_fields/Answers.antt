use Rattle.std.proofs.Common.{map, length}
use Rattle.syntax_trees.specs.View.{ty}
use Rattle.syntax_trees.specs.Item.{fields_view}
use Rattle.emit_types.specs.Asked.{space_view, same_part, leads_by}
use Rattle.emit_items.proofs.Contents.{tuple_held}
use Rattle.emit_items.proofs.fields.content_fields.Goals as goal

pub returns-in_ok-tuple_fields-in-Tuple-clause-tree : goal.returns-in_ok-tuple_fields-in-Tuple-clause-tree
returns-in_ok-tuple_fields-in-Tuple-clause-tree c =
    tuple_held (space_view c.args.entries.now) (same_part c.args.parts.now) (leads_by c.args.leads.now) c.args.owner (length c.args.defaults.now.items) c.args.content.now c.in-Tuple.ids c.deref.result.now
    (map ty c.in_ok-types-in-Tuple.types.items) (fields_view c.in_ok-tuple_fields-in-Tuple.field-0) c.in-Tuple.is c.deref.ensures.value c.in_ok-types-in-Tuple.ensures c.in_ok-tuple_fields-in-Tuple.ensures
