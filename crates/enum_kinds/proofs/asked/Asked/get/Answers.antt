use Rattle.std.proofs.Common.{◌∙◌, sym, ap, string_bytes}
use Rattle.std.specs.BTreeMap.{get_by_text}
use Rattle.enum_kinds.specs.Kept.{kept_of}
use Rattle.enum_kinds.proofs.asked.Asked.get.Goals as goal

pub returns-in-Some : goal.returns-in-Some
returns-in-Some c =
    λ k e. c.args.self.now.right (string_bytes c.args.reference.now) k
    (ap (λ m. kept_of m (string_bytes c.args.reference.now)) c.in-Some.is ∙ ap (get_by_text c.in-Some.kept) (sym c.as_str.ensures.value) ∙ sym c.get.ensures.value ∙ sym c.copied.ensures ∙ e)
