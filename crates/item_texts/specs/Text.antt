-- The text of an item.
use Rattle.std.specs.Prelude.{ℕ, List}
use Rattle.token_trees.specs.Text.{text_of}
use Rattle.syntax_trees.specs.Item.{ItemD}
use Rattle.rust_syntax.specs.PrintItem.{print_item}

-- the text of the tokens that the item is printed as, in UTF-8
abbrev pub item_text_of : ItemD → List ℕ
item_text_of d = text_of (print_item d)
