use Rattle.std.proofs.Common.{◌&&◌, sym, ◌∙◌}
use Rattle.json_value.specs.View.{kept_view}
use Rattle.schema_admission.proofs.Views.{plain-out}
use Rattle.schema_admission.proofs.text.plain_agrees.Goals as goal

pub returns-clause-answer : goal.returns-clause-answer
returns-clause-answer g c =
    c.all_of.ensures
    ∙ (λ i. c.types_agree-types.ensures i && c.is_listed-listed.ensures i && c.is_constant-constant.ensures i && c.in_ok-kind.ensures.answer i)
    ∙ sym (plain-out (g.T.Texts.relations c.args.texts.now) c.args.object.now (kept_view c.args.value.now))
