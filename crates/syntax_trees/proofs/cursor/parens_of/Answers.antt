use Rattle.std.proofs.Common.{ap, ◌∙◌, Some}
use Rattle.token_trees.specs.declared.token.Delimiter.{Delimiter}
use Rattle.token_trees.specs.Token.{group, toks_of}
use Rattle.token_trees.specs.View.{stream}
use Rattle.token_trees.proofs.Lists.{list_of_toks_of}
use Rattle.token_trees.proofs.Views.{group_out}
use Rattle.syntax_trees.specs.Metas.{in_parens}
use Rattle.syntax_trees.proofs.Metas.{no_parens}
use Rattle.syntax_trees.proofs.cursor.parens_of.Goals as goal

pub returns-in-Parenthesis-clause-some : goal.returns-in-Parenthesis-clause-some
returns-in-Parenthesis-clause-some c =
    let g = c.args.group.now in
    ap in_parens (group_out g)
    ∙ ap (λ (d : Delimiter). in_parens (group d (toks_of (stream g.stream)) g.span)) c.in-Parenthesis.is
    ∙ ap Some (list_of_toks_of (stream g.stream))

pub returns-in_default-clause-none : goal.returns-in_default-clause-none
returns-in_default-clause-none c =
    let g = c.args.group.now in
    ap in_parens (group_out g) ∙ no_parens g.delimiter (toks_of (stream g.stream)) g.span c.in_default.not-Parenthesis
