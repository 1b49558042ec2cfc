use Rattle.std.proofs.Common.{◌≡◌, ap, sym, ◌∙◌, Some}
use Rattle.std.specs.List.{slice_get}
use Rattle.std.proofs.Common.{length, ◌-◌}
use Rattle.rust_tokens.specs.Groups.{levels, innermost}
use Rattle.rust_tokens.proofs.Levels.{innermost_end}
use Rattle.rust_tokens.proofs.groups.Groups.closes.Goals as goal

pub returns-in-Some : goal.returns-in-Some
returns-in-Some c =
    let xs = c.args.self.now.unclosed.items in
    let last : slice_get xs (length xs - 1) ≡ Some c.in-Some.group.now = ap (λ s. slice_get s (length s - 1)) (sym c.deref.ensures.value) ∙ sym c.in-Some.ensures.value in
    let e : innermost (levels c.args.self.now) ≡ Some c.in-Some.group.now.delimiter = innermost_end xs c.in-Some.group.now last in
    (λ t. e ∙ ap Some (c.is_same.ensures.0 t), λ t. c.is_same.ensures.1 (cc (e, t)))
