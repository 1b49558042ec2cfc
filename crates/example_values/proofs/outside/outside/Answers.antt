use Rattle.std.proofs.Common.{sym, ◌∙◌, subst}
use Rattle.example_parts.specs.SettingView.{conversions_of, models_of}
use Rattle.item_uses.specs.Reached.{AreCome}
use Rattle.value_models.specs.TypeView.{type_view}
use Rattle.example_values.specs.Causes.{IsCause}
use Rattle.example_values.proofs.Answered.{found_cause}
use Rattle.example_values.proofs.outside.outside.Goals as goal

pub returns : goal.returns
returns c =
    let ms = models_of c.args.setting.now in
    let cs = conversions_of c.args.setting.now in
    let t = type_view c.args.ty.now in
    subst (IsCause ms cs t) (sym c.cause_of.ensures)
    (found_cause ms cs t c.deref.result.now
    (subst (AreCome ms t) (sym c.deref.ensures.value) (subst (λ zs. AreCome zs t c.in_ok-flags.flags.items) c.requires.same c.in_ok-flags.ensures))
    c.in_ok-found.found (sym c.names_native.ensures ∙ c.if-names_native.false) c.in_ok-found.ensures)
