use Rattle.token_trees.specs.View.{trees}
use Rattle.token_trees.proofs.Weights.{weight_of}
use Rattle.token_trees.proofs.+tree.Given as goal

abbrev pub decreases-token::TokenStream::drop : goal.decreases-token::TokenStream::drop
decreases-token::TokenStream::drop l = goal.size-token::TokenStream::drop l

abbrev pub invariant-token::TokenStream::drop-loop-tree : goal.invariant-token::TokenStream::drop-loop-tree
invariant-token::TokenStream::drop-loop-tree l = goal.no_deeper-token::TokenStream::drop-loop-tree l

abbrev pub decreases-token::TokenStream::drop-loop-tree : goal.decreases-token::TokenStream::drop-loop-tree
decreases-token::TokenStream::drop-loop-tree l = weight_of (trees l.left.items)
