use Rattle.std.proofs.Common.{sym, rules}
use Rattle.schema_sameness.specs.Looks.{look_of}
use Rattle.schema_sameness.proofs.Lists.{other_length}
use Rattle.schema_sameness.proofs.Views.{last_decides}
use Rattle.schema_sameness.proofs.look.+alike.Goals as goal
use Rattle.schema_sameness.proofs.look.+alike.Goals.{alike_objects-then-same_keywords, alike_objects-else-same_keywords, alike_objects-then-alike_maybe_subschemas, alike_objects-else-alike_maybe_subschemas}

pub alike_lists_of_schemas-returns-then-len : goal.alike_lists_of_schemas-returns-then-len
alike_lists_of_schemas-returns-then-len t c = sym (other_length (look_of c.args.look) c.args.a.now.items c.args.b.now.items (search rules))

pub alike_objects-returns-then-alike_maybe_arrays : goal.alike_objects-returns-then-alike_maybe_arrays
alike_objects-returns-then-alike_maybe_arrays t c =
    elim c.if-same_keywords.branch [ alike_objects-then-same_keywords w ↦ (elim c.if-alike_maybe_subschemas.branch [ alike_objects-then-alike_maybe_subschemas v ↦ last_decides (look_of c.args.look) c.args.a.now c.args.b.now c.same_keywords.result w.alike_maybe_subschemas.result v.alike_maybe_arrays.result c.alike_maybe_members.result c.same_keywords.ensures w.alike_maybe_subschemas.ensures v.alike_maybe_arrays.ensures c.alike_maybe_members.ensures (cc) (cc) (cc) | alike_objects-else-alike_maybe_subschemas v ↦ cc ]) | alike_objects-else-same_keywords w ↦ (elim c.if-alike_maybe_subschemas.branch [ alike_objects-then-alike_maybe_subschemas v ↦ cc | alike_objects-else-alike_maybe_subschemas v ↦ cc ]) ]
