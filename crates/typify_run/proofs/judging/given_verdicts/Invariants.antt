use Rattle.std.proofs.Common.{◌≡◌, ◌≤◌, ◌++◌, List, map, true}
use Rattle.std.specs.Vec.Iter.{into_iter_items}
use Rattle.serde_json.specs.View.{view}
use Rattle.syntax_trees.specs.View.{ty}
use Rattle.type_spellings.specs.Types.{type_of}
use Rattle.schema_tree.specs.Numbers.{are_i64}
use Rattle.derive_model.specs.ModuleView.{models_in, conversions_in}
use Rattle.derive_model.specs.VerdictView.{VerdictD, verdict_view}
use Rattle.typify_run.specs.Verdicts.{AreVerdicts}
use Rattle.typify_run.proofs.judging.given_verdicts.Given as goal

abbrev pub invariant-loop-value : goal.invariant-loop-value
invariant-loop-value g l = record {
  numbers : are_i64 (map view (into_iter_items l.value-iterator)) ≡ true;
  verdicts : (vs : List VerdictD) → AreVerdicts (models_in l.models) (conversions_in l.models) (g.T.Texts.relations l.initial.texts) (type_of (ty l.root)) (map view (into_iter_items l.value-iterator)) vs
      → AreVerdicts (models_in l.models) (conversions_in l.models) (g.T.Texts.relations l.initial.texts) (type_of (ty l.root)) (map view l.fn.values.items) (map verdict_view l.verdicts.items ++ vs);
  keeps : g.T.Texts.relations l.texts ≡ g.T.Texts.relations l.initial.texts;
  counts : g.T.Texts.faults l.initial.texts ≤ g.T.Texts.faults l.texts;
}
