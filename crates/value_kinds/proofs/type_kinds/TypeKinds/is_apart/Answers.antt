use Rattle.std.proofs.Common.{◌&&◌, not, ap, ◌∙◌}
use Rattle.writing_laws.specs.Kinds.{every_kind}
use Rattle.value_kinds.specs.Kinds.{has}
use Rattle.value_kinds.proofs.Splits.{none_meet}
use Rattle.value_kinds.proofs.type_kinds.TypeKinds.is_apart.Goals as goal

pub returns : goal.returns
returns c = ap not c.meets.ensures ∙ none_meet (λ k. has c.args.self k && has c.args.other k) every_kind
