use Rattle.std.proofs.Common.{◌≡◌, ◌++◌}
use Rattle.std.specs.Vec.Iter.{into_iter_items}
use Rattle.schema_defs.specs.Schema.{schemas, schema_list}
use Rattle.schema_types.specs.View.{schemas_view}
use Rattle.merge_walks.specs.Made.{settled_all}
use Rattle.merge_walked.proofs.Maps.{Follows, as_settled}
use Rattle.merge_walked.proofs.settle.+settle.Given as goal

abbrev pub invariant-settle_list-loop-schema : goal.invariant-settle_list-loop-schema
invariant-settle_list-loop-schema l =
    settled_all l.walk (schemas (schemas_view l.fn.list.items)) ≡ schemas (schemas_view l.settled.items ++ schema_list (settled_all l.walk (schemas (schemas_view (into_iter_items l.schema-iterator)))))

abbrev pub invariant-settle_properties-loop-name : goal.invariant-settle_properties-loop-name
invariant-settle_properties-loop-name l = Follows (as_settled l.walk) l.fn.properties.entries l.settled.entries l.name-iterator
