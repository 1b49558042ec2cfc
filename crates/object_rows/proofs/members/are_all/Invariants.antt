use Rattle.std.proofs.Common.{◌≡◌}
use Rattle.schema_types.specs.View.{schema_view, properties_view}
use Rattle.convert_defs.specs.Owners.{each_alike}
use Rattle.object_rows.proofs.members.are_all.Given as goal

abbrev pub invariant-loop-schema : goal.invariant-loop-schema
invariant-loop-schema l = each_alike (schema_view l.first) (properties_view l.fn.entries) ≡ each_alike (schema_view l.first) (properties_view l.schema-iterator)
