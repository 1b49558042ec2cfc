use Rattle.std.proofs.Common.{sym, rules}
use Rattle.schema_types.proofs.Lists.{other_length}
use Rattle.schema_types.proofs.Views.{last_decides}
use Rattle.schema_types.proofs.same.+same.Goals as goal
use Rattle.schema_types.proofs.same.+same.Goals.{equal_objects-then-equal_keywords, equal_objects-else-equal_keywords, equal_objects-then-equal_maybe_subschemas, equal_objects-else-equal_maybe_subschemas}

pub equal_lists-returns-then-len : goal.equal_lists-returns-then-len
equal_lists-returns-then-len t c = sym (other_length c.args.a.now.items c.args.b.now.items (search rules))

pub equal_objects-returns-then-equal_maybe_arrays : goal.equal_objects-returns-then-equal_maybe_arrays
equal_objects-returns-then-equal_maybe_arrays t c =
    elim c.if-equal_keywords.branch [ equal_objects-then-equal_keywords w ↦ (elim c.if-equal_maybe_subschemas.branch [ equal_objects-then-equal_maybe_subschemas v ↦ last_decides c.args.a.now c.args.b.now c.equal_keywords.result w.equal_maybe_subschemas.result v.equal_maybe_arrays.result c.equal_maybe_members.result c.equal_keywords.ensures w.equal_maybe_subschemas.ensures v.equal_maybe_arrays.ensures c.equal_maybe_members.ensures (cc) (cc) (cc) | equal_objects-else-equal_maybe_subschemas v ↦ cc ]) | equal_objects-else-equal_keywords w ↦ (elim c.if-equal_maybe_subschemas.branch [ equal_objects-then-equal_maybe_subschemas v ↦ cc | equal_objects-else-equal_maybe_subschemas v ↦ cc ]) ]
