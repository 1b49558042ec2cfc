use Rattle.std.proofs.Common.{◌≡◌, drop}
use Rattle.schema_types.specs.View.{schemas_view, properties_view}
use Rattle.schema_defs.specs.Schema.{schemas}
use Rattle.convert_defs.specs.RootReference.{root_in_all, root_in_properties}
use Rattle.root_references.proofs.roots.+roots.Given as goal

abbrev pub invariant-in_all-loop-schema : goal.invariant-in_all-loop-schema
invariant-in_all-loop-schema l = root_in_all (schemas (schemas_view l.schema-items)) ≡ root_in_all (schemas (schemas_view (drop l.schema-index l.schema-items)))

abbrev pub invariant-in_properties-loop-schema : goal.invariant-in_properties-loop-schema
invariant-in_properties-loop-schema l = root_in_properties (properties_view l.properties.entries) ≡ root_in_properties (properties_view l.schema-iterator)
