use Rattle.type_spellings.specs.Types.{type_of}
use Rattle.json_value.specs.View.{kept_view}
use Rattle.syntax_trees.specs.View.{ty as ty_view}
use Rattle.value_models.specs.TypedView.{typed_view}
use Rattle.derive_model.specs.ModuleView.{conversions_in, models_in}
use Rattle.derive_model.proofs.Judged.{is_read, is_stopped}
use Rattle.derive_model.proofs.module.Module.read.Goals as goal

pub returns-in-Ok-Taken-clause-read : goal.returns-in-Ok-Taken-clause-read
returns-in-Ok-Taken-clause-read g c =
    let m = c.args.self.now in
    let answer = rw c.in-Ok-Taken.field-0-is at c.in-Ok-Taken.ensures.answer in
    is_read (models_in m) (conversions_in m) (g.T.Texts.relations c.args.texts.now) (type_of (ty_view c.args.ty.now)) (kept_view c.args.value.now)
    m.fit c.requires.sound c.requires.numbers (typed_view c.in-Ok-Taken.typed) answer

pub returns-in-Ok-Refused-clause-unread : goal.returns-in-Ok-Refused-clause-unread
returns-in-Ok-Refused-clause-unread g c =
    let m = c.args.self.now in
    let answer = rw c.in-Ok-Refused.field-0-is at c.in-Ok-Refused.ensures.answer in
    is_stopped (models_in m) (conversions_in m) (g.T.Texts.relations c.args.texts.now) (type_of (ty_view c.args.ty.now)) (kept_view c.args.value.now)
    m.fit c.requires.sound c.requires.numbers c.in-Ok-Refused.path answer
