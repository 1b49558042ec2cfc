use Rattle.std.proofs.Common.{ap, ◌∙◌}
use Rattle.token_trees.specs.View.{tree, stream}
use Rattle.token_trees.proofs.Views.{tree_group, group_out}
use Rattle.token_trees.proofs.Weights.{pop_smaller, group_smaller}
use Rattle.token_trees.specs.declared.token.Group.{out-Group}
use Rattle.token_trees.proofs.+tree.Goals as goal

pub token::TokenStream::drop-loop-tree-smaller-in-Group : goal.token::TokenStream::drop-loop-tree-smaller-in-Group
token::TokenStream::drop-loop-tree-smaller-in-Group t c =
    let g = c.in-Group.group in
    group_smaller _ c.loop-tree.left.items c.pop.new.self.items c.append.new.self.items c.into_trees-inner.result.items c.in-Some.tree (out-Group g).delimiter (stream (out-Group g).stream) (out-Group g).span
    c.in-Some.ensures.items (ap tree c.in-Group.is ∙ tree_group g ∙ group_out g) c.into_trees-inner.ensures.trees c.append.ensures.items

pub token::TokenStream::drop-loop-tree-smaller-in_default-tree : goal.token::TokenStream::drop-loop-tree-smaller-in_default-tree
token::TokenStream::drop-loop-tree-smaller-in_default-tree t c = pop_smaller c.loop-tree.left.items c.pop.new.self.items c.in-Some.tree c.in-Some.ensures.items

pub token::TokenStream::drop-loop-tree-smaller-in_default-tree-2 : goal.token::TokenStream::drop-loop-tree-smaller-in_default-tree-2
token::TokenStream::drop-loop-tree-smaller-in_default-tree-2 t c = pop_smaller c.loop-tree.left.items c.pop.new.self.items c.in-Some.tree c.in-Some.ensures.items

pub token::TokenStream::drop-loop-tree-smaller-in_default-tree-3 : goal.token::TokenStream::drop-loop-tree-smaller-in_default-tree-3
token::TokenStream::drop-loop-tree-smaller-in_default-tree-3 t c = pop_smaller c.loop-tree.left.items c.pop.new.self.items c.in-Some.tree c.in-Some.ensures.items

pub token::TokenStream::drop-loop-tree-smaller : goal.token::TokenStream::drop-loop-tree-smaller
token::TokenStream::drop-loop-tree-smaller t c = pop_smaller c.loop-tree.left.items c.pop.new.self.items c.in-Some.tree c.in-Some.ensures.items
