use Rattle.std.proofs.Common.{map}
use Rattle.syntax_trees.specs.View.{ty}
use Rattle.emit_types.specs.Asked.{space_view, boxed_in}
use Rattle.emit_types.proofs.Tuples.{tuple_written}
use Rattle.emit_types.proofs.types.+types.Goals as goal

pub type_of_form-returns-in_ok-types-in-Tuple : goal.type_of_form-returns-in_ok-types-in-Tuple
type_of_form-returns-in_ok-types-in-Tuple t c =
    tuple_written (space_view c.args.entries.now) c.args.depth (boxed_in c.args.parts.now c.args.owner) c.args.id.0 c.args.entry.now c.in-Tuple.ids c.deref.result.now
    (map ty c.in_ok-types-in-Tuple.types.items) (ty c.tuple_ty.result) c.in-Tuple.is c.deref.ensures.value c.in_ok-types-in-Tuple.ensures c.tuple_ty.ensures
