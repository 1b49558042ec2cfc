use Rattle.std.proofs.Common.{◌≡◌, ◌++◌, map, drop}
use Rattle.schema_types.specs.View.{schemas_view}
use Rattle.schema_defs.specs.Schema.{schemas}
use Rattle.schema_defs.specs.References.{references_of_all}
use Rattle.schema_guards.proofs.references.+references.Given as goal

abbrev pub invariant-push_of_all-loop-schema : goal.invariant-push_of_all-loop-schema
invariant-push_of_all-loop-schema l =
    map (λ t. t.now) l.texts.items ++ references_of_all (schemas (schemas_view (drop l.schema-index l.schema-items)))
    ≡ map (λ t. t.now) l.initial.texts.items ++ references_of_all (schemas (schemas_view l.schema-items))
