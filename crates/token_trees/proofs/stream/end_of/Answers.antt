use Rattle.std.proofs.Common.{ap, sym, ◌∙◌}
use Rattle.token_trees.specs.declared.token.Span.{Span}
use Rattle.token_trees.specs.Token.{Tok, span_of}
use Rattle.token_trees.specs.View.{tree}
use Rattle.token_trees.proofs.Lists.{last_of_end}
use Rattle.token_trees.proofs.stream.end_of.Goals as goal

pub returns-in-Some : goal.returns-in-Some
returns-in-Some c =
    ap (λ (s : Span). s.hi) c.span-in-Some.ensures
    ∙ ap (λ (t : Tok). (span_of t).hi) (sym (last_of_end tree (tree c.args.first.now) c.args.rest.now c.in-Some.last.now (sym c.in-Some.ensures.value)))
