use Rattle.std.proofs.Common.{◌≡◌, ◌++◌}
use Rattle.std.specs.Vec.Iter.{into_iter_items}
use Rattle.schema_defs.specs.Mapped.{mapped_all}
use Rattle.schema_defs.specs.Schema.{schemas, schema_list}
use Rattle.schema_types.specs.View.{schemas_view}
use Rattle.merge_walks.specs.Told.{unmark}
use Rattle.merge_walked.proofs.Maps.{Follows}
use Rattle.schema_merge.proofs.Unmarking.{without_mark}
use Rattle.schema_merge.proofs.unmark.+unmark.Given as goal

abbrev pub invariant-unmark_list-loop-schema : goal.invariant-unmark_list-loop-schema
invariant-unmark_list-loop-schema l =
    mapped_all unmark (schemas (schemas_view l.fn.list.items)) ≡ schemas (schemas_view l.found.items ++ schema_list (mapped_all unmark (schemas (schemas_view (into_iter_items l.schema-iterator)))))

abbrev pub invariant-unmark_properties-loop-name : goal.invariant-unmark_properties-loop-name
invariant-unmark_properties-loop-name l = Follows without_mark l.fn.properties.entries l.found.entries l.name-iterator
