-- A group's view.
use Rattle.std.proofs.Common.{◌≡◌, List, Some, ap, ◌∙◌}
use Rattle.token_trees.specs.Token.{Tok}
use Rattle.token_trees.specs.View.{tree, stream}
use Rattle.token_trees.specs.declared.token.Group.{Group, out-Group}
use Rattle.token_trees.specs.declared.token.TokenTree.TheVariants.{Group as in_group}
use Rattle.token_trees.proofs.Views.{tree_group, group_out}
use Rattle.token_trees.proofs.Lists.{list_of_toks_of}
use Rattle.syntax_parsers.specs.Fronts.{opened}

pub opened_group : (g : Group) → opened (tree (in_group g)) ≡ Some ((out-Group g).delimiter, stream (out-Group g).stream, (out-Group g).span)
opened_group g = ap opened (tree_group g ∙ group_out g) ∙ ap (λ (ts : List Tok). Some ((out-Group g).delimiter, ts, (out-Group g).span)) (list_of_toks_of (stream (out-Group g).stream))
