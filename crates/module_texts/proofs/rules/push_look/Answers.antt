use Rattle.std.proofs.Common.{Bool, codes, ◌++◌, ◌∙◌, ap, sym, string_bytes, if◌then◌else◌}
use Rattle.module_texts.specs.Rules.{source_line}
use Rattle.module_texts.proofs.rules.push_look.Goals as goal

pub returns-then-look : goal.returns-then-look
returns-then-look c =
    let o = string_bytes c.args.out.now in
    let s = string_bytes c.args.look.now.source in
    c.in_ok-push_source.ensures
    ∙ (λ i. o ++ source_line (codes "lacks") (c.deref.ensures i))
    ∙ ap (λ (b : Bool). o ++ source_line (if b then codes "lacks" else codes "has") s) (sym c.if-look.true)
