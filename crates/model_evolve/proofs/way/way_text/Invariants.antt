use Rattle.std.proofs.Common.{◌≡◌, ◌++◌, drop, string_bytes}
use Rattle.evolve_ways.specs.Texts.{marks_text, way_text}
use Rattle.model_evolve.specs.WayView.{way_view}
use Rattle.model_evolve.proofs.way.way_text.Given as goal

abbrev pub invariant-loop-mark : goal.invariant-loop-mark
invariant-loop-mark l = string_bytes l.text ++ marks_text (way_view (drop l.mark-index l.way)) ≡ way_text (way_view l.way)
