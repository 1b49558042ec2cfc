-- Types, attributes and string literals as text.
use Rattle.std.specs.Prelude.{ℕ, List, [], ◌∷◌}
use Rattle.token_trees.specs.Token.{Tok, site}
use Rattle.token_trees.specs.Text.{text_of}
use Rattle.syntax_trees.specs.Syntax.{TyD}
use Rattle.syntax_trees.specs.Item.{MetaD}
use Rattle.syntax_printing.specs.Print.{print_ty, print_lit_str}
use Rattle.rust_syntax.specs.PrintItem.{print_attribute}
use Rattle.tidy_texts.specs.Tidy.{tidy}

abbrev pub tokens_text : List Tok → List ℕ
tokens_text ts = tidy (text_of ts)

abbrev pub type_text : TyD → List ℕ
type_text t = tidy (text_of (print_ty t))

abbrev pub attribute_text : MetaD → List ℕ
attribute_text m = tidy (text_of (print_attribute m))

-- a string literal of the text
abbrev pub literal : List ℕ → List ℕ
literal s = text_of (print_lit_str (record { text = s; suffix = []; span = site }) ∷ [])
