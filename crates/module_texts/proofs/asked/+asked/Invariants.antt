use Rattle.std.proofs.Common.{◌≡◌, drop}
use Rattle.model_defs.specs.Types.{types}
use Rattle.value_models.specs.TypeView.{types_view}
use Rattle.module_texts.specs.Asked.{any_has}
use Rattle.module_texts.proofs.asked.+asked.Given as goal

abbrev pub invariant-any_has-loop-part : goal.invariant-any_has-loop-part
invariant-any_has-loop-part l = any_has l.asked (types (types_view l.parts)) ≡ any_has l.asked (types (types_view (drop l.part-index l.parts)))
