use Rattle.std.proofs.Common.{◌≡◌, drop, map, string_bytes}
use Rattle.schema_defs.specs.Children.{along, at_document}
use Rattle.schema_types.specs.DocumentView.{document_view}
use Rattle.schema_types.specs.Place.{node_view}
use Rattle.schema_types.proofs.document.Document.schema_at.Given as goal

abbrev pub invariant-loop-step : goal.invariant-loop-step
invariant-loop-step l = along l.fn.at (at_document (document_view l.fn.self)) ≡ along (map string_bytes (drop l.step-index l.step-items)) (node_view l.node)
