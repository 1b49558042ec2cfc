use Rattle.std.proofs.Common.{ap, sym, ◌∙◌}
use Rattle.std.proofs.lemmas.List.{take-map}
use Rattle.token_trees.specs.View.{tree, trees}
use Rattle.syntax_trees.proofs.Metas.{before_of}
use Rattle.attr_acts.proofs.part.split_at_comma.Goals as goal

pub returns-clause-front : goal.returns-clause-front
returns-clause-front c =
    let n = c.comma_place.result in
    let all = c.args.tokens.now in
    ap trees c.split_at.ensures.front ∙ sym (take-map tree n all) ∙ before_of n (trees all) c.comma_place.ensures.after
