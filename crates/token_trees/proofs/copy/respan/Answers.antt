use Rattle.std.proofs.Common.{◌≡◌, IfOk, subst}
use Rattle.token_trees.specs.View.{stream}
use Rattle.token_trees.proofs.Copies.{some_marked}
use Rattle.token_trees.proofs.copy.respan.Goals as goal

pub returns : goal.returns
returns c = subst (λ ts. IfOk c.copy_stream.result (λ s. stream s ≡ ts)) (some_marked c.args.span (stream c.args.from.now)) c.copy_stream.ensures
