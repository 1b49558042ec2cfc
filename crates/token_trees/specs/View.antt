-- The token trees that values of the program stand for.
use Rattle.std.specs.Prelude.{List, map, string_bytes}
use Rattle.token_trees.specs.Token.{Fixed, text, digits, other, Name, Tok, word, mark, fixed, group, toks_of}
use Rattle.token_trees.specs.declared.token.Lit.{Lit}
use Rattle.token_trees.specs.declared.token.Lit.TheVariants.{Str, Int, Other}
use Rattle.token_trees.specs.declared.token.Ident.{Ident}
use Rattle.token_trees.specs.declared.token.TokenTree.{TokenTree, fold-TokenTree}
use Rattle.token_trees.specs.declared.token.TokenTree.TheOpen.{TokenTree-F, Group-F, TokenStream-F}
use Rattle.token_trees.specs.declared.token.TokenTree.TheFolds.{fold-Group, fold-TokenStream}
use Rattle.token_trees.specs.declared.token.Group.{Group}
use Rattle.token_trees.specs.declared.token.TokenStream.{TokenStream}

abbrev pub fixed_view : Lit → Fixed
fixed_view (Str value suffix) = text (string_bytes value) (string_bytes suffix)
fixed_view (Int d) = digits (string_bytes d)
fixed_view (Other t) = other (string_bytes t)

abbrev pub name_view : Ident → Name
name_view i = record { text = string_bytes i.text; span = i.span }

-- one level, with the trees inside already seen
abbrev pub tree_step : TokenTree-F Tok Tok (List Tok) → Tok
tree_step (TokenTree-F.Ident i) = word (string_bytes i.text) i.span
tree_step (TokenTree-F.Punct p) = mark p.ch p.spacing p.span
tree_step (TokenTree-F.Literal l) = fixed (fixed_view l.lit) l.span
tree_step (TokenTree-F.Group g) = g

abbrev pub group_step : Group-F Tok Tok (List Tok) → Tok
group_step g = group g.delimiter (toks_of g.stream) g.span

abbrev pub stream_step : TokenStream-F Tok Tok (List Tok) → List Tok
stream_step s = s.trees.items

abbrev pub tree : TokenTree → Tok
tree = fold-TokenTree Tok Tok (List Tok) tree_step group_step stream_step

abbrev pub group_view : Group → Tok
group_view = fold-Group Tok Tok (List Tok) tree_step group_step stream_step

abbrev pub stream : TokenStream → List Tok
stream = fold-TokenStream Tok Tok (List Tok) tree_step group_step stream_step

abbrev pub trees : List TokenTree → List Tok
trees ts = map tree ts
