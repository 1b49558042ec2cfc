-- Where the run had come to the first further line, it has come to that of this number.
use Rattle.std.proofs.Common.{◌≡◌, ◌≤◌, ℕ, List}
use Rattle.std.specs.Prelude.{Option}
use Rattle.line_reader.specs.State.{count_of, held}
use Rattle.typify_run.specs.Call.{Call}
use Rattle.model_lines.specs.Going.{IsGoing}
use Rattle.model_lines.proofs.values.run_values.Given as goal

abbrev pub invariant-loop-index : goal.invariant-loop-index
invariant-loop-index g l = record {
  goes : (c : Call) (left before : Option (List ℕ)) → c.texts ≡ g.T.Texts.relations l.initial.texts
      → IsGoing c left (g.S.Source.left l.initial.source) (held l.initial.reader) (count_of l.initial.reader) before (g.K.Sink.written l.initial.sink) l.report 0
      → IsGoing c left (g.S.Source.left l.source) (held l.reader) (count_of l.reader) before (g.K.Sink.written l.sink) l.report l.index;
  kept_source : g.S.Source.faults l.initial.source ≤ g.S.Source.faults l.source;
  kept_sink : g.K.Sink.faults l.initial.sink ≤ g.K.Sink.faults l.sink;
  keeps : g.T.Texts.relations l.texts ≡ g.T.Texts.relations l.initial.texts;
  counts : g.T.Texts.faults l.initial.texts ≤ g.T.Texts.faults l.texts;
}
