use Rattle.std.proofs.Common.{◌≡◌, List, reverse, false, refl, ap, sym, subst, ◌∙◌}
use Rattle.token_trees.specs.declared.token.Delimiter.{Delimiter}
use Rattle.rust_tokens.specs.Groups.{AreClosed, all_closed, one_unclosed}
use Rattle.rust_tokens.proofs.Levels.{brackets_reversed}
use Rattle.rust_tokens.proofs.groups.Groups.fault.Goals as goal

pub returns-then-branch : goal.returns-then-branch
returns-then-branch c =
    let P : List Delimiter → Type 0 = λ ds. AreClosed ds c.args.rest.now in
    let same = ap reverse c.in_ok-open_brackets.ensures ∙ brackets_reversed c.args.self.now.unclosed.items in
    all_closed (subst P same (c.in_ok-are_closed.ensures.0 c.if-branch.true)) refl

pub returns-else-branch : goal.returns-else-branch
returns-else-branch c =
    let P : List Delimiter → Type 0 = λ ds. AreClosed ds c.args.rest.now in
    let same = ap reverse c.in_ok-open_brackets.ensures ∙ brackets_reversed c.args.self.now.unclosed.items in
    one_unclosed (λ k. let yes = c.in_ok-are_closed.ensures.1 (subst P (sym same) k) in let no : c.in_ok-are_closed.field-0 ≡ false = c.if-branch.false in cc) refl
