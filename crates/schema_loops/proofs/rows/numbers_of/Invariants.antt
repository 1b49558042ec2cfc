use Rattle.std.proofs.Common.{◌≡◌, ◌++◌, map, drop}
use Rattle.schema_defs.specs.References.{same_references}
use Rattle.schema_types.specs.View.{schema_view}
use Rattle.schema_loops.specs.Named.{number_of_name, number_by}
use Rattle.schema_loops.proofs.rows.numbers_of.Given as goal

abbrev pub invariant-loop-reference : goal.invariant-loop-reference
invariant-loop-reference l =
    l.row.items ++ map (number_by (number_of_name l.numbers.by_name) l.numbers.count) (map (λ t. t.now) (drop l.reference-index l.reference-items))
    ≡ map (number_by (number_of_name l.numbers.by_name) l.numbers.count) (same_references (schema_view l.schema))
