use Rattle.std.proofs.Common.{map, ap, sym, ◌∙◌}
use Rattle.std.specs.List.{list_all}
use Rattle.syntax_trees.specs.View.{ty}
use Rattle.syntax_trees.specs.Item.{item_view}
use Rattle.serde_json.specs.View.{view}
use Rattle.type_spellings.specs.Types.{type_of}
use Rattle.model_defs.specs.Model.{ConversionsD}
use Rattle.reading_defs.specs.Laws.{defaults_are_sound}
use Rattle.reading_defs.specs.Proper.{has_json_numbers}
use Rattle.schema_tree.specs.Conversions.{conversions_view}
use Rattle.derive_model.specs.ModuleView.{models_in, conversions_in}
use Rattle.derive_model.specs.VerdictView.{verdict_view}
use Rattle.typify_run.specs.Values.{seen}
use Rattle.typify_run.proofs.Judged.{verdicts_alike}
use Rattle.typify_run.proofs.examination.judged.Goals as goal

pub verdicts-requires-clause-sound : goal.verdicts-requires-clause-sound
verdicts-requires-clause-sound g c =
    let r = g.T.Texts.relations c.args.texts.now in
    record {
      numbers = c.in_ok-check_numbers-in-Ok.ensures.numbers;
      sound = (λ i. defaults_are_sound (c.in-Ok.ensures.models i) (c.in-Ok.ensures.conversions i) r) ∙ c.requires.sound;
    }

pub returns-in_ok-verdicts-in-Ok-clause-sound : goal.returns-in_ok-verdicts-in-Ok-clause-sound
returns-in_ok-verdicts-in-Ok-clause-sound g c = record {
  numbers = ap (λ (k : ConversionsD). list_all has_json_numbers k.defaults) (sym c.in-Ok.ensures.conversions) ∙ c.in_ok-check_numbers-in-Ok.ensures.numbers;
  sound = c.requires.sound;
}

pub returns-in_ok-verdicts-in-Ok-clause-verdicts : goal.returns-in_ok-verdicts-in-Ok-clause-verdicts
returns-in_ok-verdicts-in-Ok-clause-verdicts g c =
    let m = c.in-Ok.models in
    verdicts_alike (models_in m) _ (conversions_in m) (conversions_view c.args.conversions.now) (g.T.Texts.relations c.args.texts.now) (type_of (ty c.args.root.now)) (seen c.args.values) (map verdict_view c.in_ok-verdicts-in-Ok.verdicts.items)
    c.in-Ok.ensures.models c.in-Ok.ensures.conversions c.in_ok-verdicts-in-Ok.ensures.verdicts
