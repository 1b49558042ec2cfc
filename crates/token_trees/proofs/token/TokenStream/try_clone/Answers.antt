use Rattle.std.proofs.Common.{◌≡◌, IfOk, subst}
use Rattle.token_trees.specs.View.{stream}
use Rattle.token_trees.proofs.Copies.{none_marked}
use Rattle.token_trees.proofs.token.TokenStream.try_clone.Goals as goal

pub returns : goal.returns
returns c = subst (λ ts. IfOk c.copy_stream.result (λ s. stream s ≡ ts)) (none_marked (stream c.args.self.now)) c.copy_stream.ensures
