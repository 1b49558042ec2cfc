use Rattle.std.proofs.Common.{◌≡◌}
use Rattle.schema_types.specs.DocumentView.{document_view}
use Rattle.schema_types.specs.View.{schema_view}
use Rattle.enum_defs.specs.Exclusive.{led}
use Rattle.enum_defs.proofs.Weights.{weight}
use Rattle.enum_kinds.proofs.alone.led.Given as goal

abbrev pub invariant-loop-target : goal.invariant-loop-target
invariant-loop-target l = led (document_view l.document) (schema_view l.at) ≡ led (document_view l.document) (schema_view l.schema)

abbrev pub decreases-loop-target : goal.decreases-loop-target
decreases-loop-target l = weight (document_view l.document) (schema_view l.at)
