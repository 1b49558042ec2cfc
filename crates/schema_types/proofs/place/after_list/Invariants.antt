use Rattle.std.proofs.Common.{◌≡◌, drop}
use Rattle.schema_defs.specs.Schema.{schemas}
use Rattle.schema_defs.specs.Children.{schema_in}
use Rattle.schema_types.specs.View.{schemas_view}
use Rattle.schema_types.proofs.place.after_list.Given as goal

abbrev pub invariant-loop-i : goal.invariant-loop-i
invariant-loop-i l = schema_in l.fn.step 0 (schemas (schemas_view l.fn.list.items)) ≡ schema_in l.fn.step l.i (schemas (schemas_view (drop l.i l.fn.list.items)))
