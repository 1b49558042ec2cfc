use Rattle.std.proofs.Common.{[], ◌∷◌, ◌++◌, ap, ◌∙◌}
use Rattle.token_trees.specs.View.{stream}
use Rattle.token_trees.proofs.Views.{tree_made}
use Rattle.token_trees.proofs.copy.Level.closed.Goals as goal

pub returns : goal.returns
returns c =
    let s = c.args.self in
    c.in_ok-push.ensures.ok ∙ ap (λ t. stream s.copied ++ t ∷ []) (tree_made (record { delimiter = s.delimiter; stream = c.args.inner; span = s.span }))
