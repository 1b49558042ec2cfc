-- The answers on the values so far.
use Rattle.std.proofs.Common.{◌≡◌, ◌≤◌, map, take}
use Rattle.serde_json.specs.View.{view}
use Rattle.schema_tree.specs.Document.{view as document_seen}
use Rattle.admission_run.specs.Verdicts.{verdicts_of}
use Rattle.admission_run.proofs.judging.judge_all.Given as goal

abbrev pub invariant-loop-value : goal.invariant-loop-value
invariant-loop-value g l = record {
  answers : l.answers.items ≡ verdicts_of (g.T.Texts.relations l.initial.texts) (document_seen l.document) (map view (take l.value-index l.values));
  keeps : g.T.Texts.relations l.texts ≡ g.T.Texts.relations l.initial.texts;
  counts : g.T.Texts.faults l.initial.texts ≤ g.T.Texts.faults l.texts;
}
