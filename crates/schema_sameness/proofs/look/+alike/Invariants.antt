use Rattle.std.proofs.Common.{◌≡◌, drop}
use Rattle.schema_defs.specs.Schema.{schemas}
use Rattle.schema_types.specs.View.{schemas_view, properties_view}
use Rattle.merge_defs.specs.Alike.{alike_all, alike_properties}
use Rattle.schema_sameness.specs.Looks.{look_of}
use Rattle.schema_sameness.proofs.look.+alike.Given as goal

abbrev pub invariant-alike_lists_of_schemas-loop-i : goal.invariant-alike_lists_of_schemas-loop-i
invariant-alike_lists_of_schemas-loop-i l =
    alike_all (look_of l.look) (schemas (schemas_view l.a.items)) (schemas (schemas_view l.b.items))
    ≡ alike_all (look_of l.look) (schemas (schemas_view (drop l.i l.a.items))) (schemas (schemas_view (drop l.i l.b.items)))

abbrev pub invariant-alike_maps-loop-name : goal.invariant-alike_maps-loop-name
invariant-alike_maps-loop-name l =
    alike_properties (look_of l.look) (properties_view l.a.entries) (properties_view l.b.entries) ≡ alike_properties (look_of l.look) (properties_view l.name-iterator) (properties_view l.others)
