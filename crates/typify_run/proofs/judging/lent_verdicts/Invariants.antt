use Rattle.std.proofs.Common.{◌≡◌, ◌≤◌, map, take}
use Rattle.serde_json.specs.View.{view}
use Rattle.syntax_trees.specs.View.{ty}
use Rattle.type_spellings.specs.Types.{type_of}
use Rattle.derive_model.specs.ModuleView.{models_in, conversions_in}
use Rattle.derive_model.specs.VerdictView.{verdict_view}
use Rattle.typify_run.specs.Verdicts.{AreVerdicts}
use Rattle.typify_run.proofs.judging.lent_verdicts.Given as goal

abbrev pub invariant-loop-value : goal.invariant-loop-value
invariant-loop-value g l = record {
  verdicts : AreVerdicts (models_in l.models) (conversions_in l.models) (g.T.Texts.relations l.initial.texts) (type_of (ty l.root)) (map view (take l.value-index l.values)) (map verdict_view l.verdicts.items);
  keeps : g.T.Texts.relations l.texts ≡ g.T.Texts.relations l.initial.texts;
  counts : g.T.Texts.faults l.initial.texts ≤ g.T.Texts.faults l.texts;
}
