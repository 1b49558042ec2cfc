use Rattle.std.proofs.Common.{map, sym, ◌∙◌}
use Rattle.std.specs.Vec.Iter.{into_iter_items}
use Rattle.serde_json.specs.View.{view}
use Rattle.syntax_trees.specs.View.{ty}
use Rattle.type_spellings.specs.Types.{type_of}
use Rattle.derive_model.specs.ModuleView.{models_in, conversions_in}
use Rattle.derive_model.specs.VerdictView.{verdict_view}
use Rattle.typify_run.proofs.Judged.{none_left}
use Rattle.typify_run.proofs.judging.given_verdicts.Goals as goal

pub returns-clause-verdicts : goal.returns-clause-verdicts
returns-clause-verdicts g c =
    let left = c.loop-value.value-iterator in
    none_left (models_in c.args.models.now) (conversions_in c.args.models.now) (g.T.Texts.relations c.args.texts.now) (type_of (ty c.args.root.now)) view verdict_view (map view c.args.values.items) c.loop-value.verdicts.items
    (into_iter_items left) (sym left.rest.ok.0 ∙ c.in-None.ensures.steps.0) c.loop-value.invariant.verdicts
