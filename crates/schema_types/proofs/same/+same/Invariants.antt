use Rattle.std.proofs.Common.{◌≡◌, drop}
use Rattle.schema_defs.specs.Schema.{schemas}
use Rattle.schema_types.specs.View.{schemas_view, properties_view}
use Rattle.schema_types.specs.Same.{same_all, same_properties}
use Rattle.schema_types.proofs.same.+same.Given as goal

abbrev pub invariant-equal_lists-loop-i : goal.invariant-equal_lists-loop-i
invariant-equal_lists-loop-i l =
    same_all (schemas (schemas_view l.a.items)) (schemas (schemas_view l.b.items)) ≡ same_all (schemas (schemas_view (drop l.i l.a.items))) (schemas (schemas_view (drop l.i l.b.items)))

abbrev pub invariant-equal_properties-loop-name : goal.invariant-equal_properties-loop-name
invariant-equal_properties-loop-name l =
    same_properties (properties_view l.a.entries) (properties_view l.b.entries) ≡ same_properties (properties_view l.name-iterator) (properties_view l.others)
