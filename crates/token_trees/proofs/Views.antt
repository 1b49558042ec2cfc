-- Views, level by level.
use Rattle.std.proofs.Common.{◌≡◌, List, string_bytes, rules, refl, ap, sym, subst, ◌∙◌}
use Rattle.token_trees.specs.Token.{Tok, word, mark, fixed, group, toks_of}
use Rattle.token_trees.specs.Marked.{IsToken}
use Rattle.token_trees.specs.View.{tree, trees, group_view, stream, fixed_view, tree_step, group_step, stream_step}
use Rattle.token_trees.specs.declared.token.Group.{Group, Group-F, out-Group, roll-Group, fold_out-Group, fold-roll-Group}
use Rattle.token_trees.specs.declared.token.TokenStream.{TokenStream, TokenStream-F, out-TokenStream, roll-TokenStream, fold_out-TokenStream, fold-roll-TokenStream}
use Rattle.token_trees.specs.declared.token.TokenTree.{TokenTree, out-TokenTree, roll-TokenTree, roll-out-TokenTree, fold-roll-TokenTree, the_lemmas}
use Rattle.token_trees.specs.declared.token.Ident.{Ident}
use Rattle.token_trees.specs.declared.token.Punct.{Punct}
use Rattle.token_trees.specs.declared.token.Literal.{Literal}
use Rattle.token_trees.specs.declared.token.TokenTree.TheOpen.{TokenTree-F}
use Rattle.token_trees.specs.declared.token.TokenTree.TheVariants.{Group as in_group}

pub stream_out : (s : TokenStream) → stream s ≡ trees (out-TokenStream s).trees.items
stream_out = fold_out-TokenStream Tok Tok (List Tok) tree_step group_step stream_step

pub stream_roll : (s : TokenStream-F TokenTree Group TokenStream) → stream (roll-TokenStream s) ≡ trees s.trees.items
stream_roll = fold-roll-TokenStream Tok Tok (List Tok) tree_step group_step stream_step

pub group_out : (g : Group) → group_view g ≡ group (out-Group g).delimiter (toks_of (stream (out-Group g).stream)) (out-Group g).span
group_out = fold_out-Group Tok Tok (List Tok) tree_step group_step stream_step

pub group_roll : (g : Group-F TokenTree Group TokenStream) → group_view (roll-Group g) ≡ group g.delimiter (toks_of (stream g.stream)) g.span
group_roll = fold-roll-Group Tok Tok (List Tok) tree_step group_step stream_step

tree_word : (i : Ident) → tree (roll-TokenTree (TokenTree-F.Ident i)) ≡ word (string_bytes i.text) i.span
tree_word i = fold-roll-TokenTree Tok Tok (List Tok) tree_step group_step stream_step (TokenTree-F.Ident i)

tree_mark : (p : Punct) → tree (roll-TokenTree (TokenTree-F.Punct p)) ≡ mark p.ch p.spacing p.span
tree_mark p = fold-roll-TokenTree Tok Tok (List Tok) tree_step group_step stream_step (TokenTree-F.Punct p)

tree_fixed : (l : Literal) → tree (roll-TokenTree (TokenTree-F.Literal l)) ≡ fixed (fixed_view l.lit) l.span
tree_fixed l = fold-roll-TokenTree Tok Tok (List Tok) tree_step group_step stream_step (TokenTree-F.Literal l)

group_rolled : (g : Group) → roll-TokenTree (TokenTree-F.Group g) ≡ in_group g
unfolding roll-TokenTree denote.Hole.Carrier.roll
group_rolled g = refl

pub tree_group : (g : Group) → tree (in_group g) ≡ group_view g
tree_group g = search (rules, the_lemmas)

pub tree_made : (g : Group-F TokenTree Group TokenStream) → tree (in_group (roll-Group g)) ≡ group g.delimiter (toks_of (stream g.stream)) g.span
tree_made g = tree_group (roll-Group g) ∙ group_roll g

token_open : (t : TokenTree) (f : TokenTree-F TokenTree Group TokenStream) → roll-TokenTree f ≡ t → ((g : Group) → t ≡ in_group g → ⊥) → IsToken (tree t)
token_open t (TokenTree-F.Ident i) e h = subst IsToken (sym (sym (ap tree e) ∙ tree_word i)) tt
token_open t (TokenTree-F.Punct p) e h = subst IsToken (sym (sym (ap tree e) ∙ tree_mark p)) tt
token_open t (TokenTree-F.Literal l) e h = subst IsToken (sym (sym (ap tree e) ∙ tree_fixed l)) tt
token_open t (TokenTree-F.Group g) e h = absurd (h g (sym e ∙ group_rolled g))

pub is_token : (t : TokenTree) → ((g : Group) → t ≡ in_group g → ⊥) → IsToken (tree t)
is_token t h = token_open t (out-TokenTree t) (roll-out-TokenTree t) h

-- a tree that is a group of those trees
pub group_of : (t : TokenTree) (g : Group) (inner : List TokenTree) → t ≡ in_group g → stream (out-Group g).stream ≡ trees inner → tree t ≡ group (out-Group g).delimiter (toks_of (trees inner)) (out-Group g).span
group_of t g inner e h = ap tree e ∙ tree_group g ∙ group_out g ∙ ap (λ ts. group (out-Group g).delimiter (toks_of ts) (out-Group g).span) h
