-- The tokens of an item in a module are those of its printing, less comments, derives, `pub`, and the comma behind the last of the fields that have no names.
use Rattle.std.specs.Prelude.{◌≡◌, ℕ, List, [], ◌++◌, Bool, true, false, ◌&&◌, codes, if◌then◌else◌}
use Rattle.std.specs.List.{AllByRecursion}
use Rattle.token_trees.specs.Text.{pieces_of}
use Rattle.syntax_trees.specs.Item.{ItemD}
use Rattle.rust_syntax.specs.PrintItem.{print_item}
use Rattle.tidy_texts.specs.Comment.{doc_comment}
use Rattle.module_texts.specs.Attributes.{attribute_lines}
use Rattle.module_texts.specs.Items.{keyword, body_text, derive_line, long_line, hash_where, holds, is_long, item_text}
use Rattle.tidy_laws.specs.Laws.{HasTokens, IsToken}
use Rattle.module_laws.specs.Shown.{shown_item}

-- ---- the parts of an item's text

-- less comments and derives
abbrev pub declared_text : ItemD → List ℕ
declared_text i = attribute_lines [] i.attrs ++ (codes "pub " ++ (keyword i.body ++ (i.name.text ++ body_text i.body)))

-- what stands before, and behind
abbrev pub text_before : Bool → List ℕ → ItemD → List ℕ
text_before hashed doc i = codes "\n" ++ ((if is_long i then long_line else []) ++ (doc_comment doc ++ derive_line hashed (holds i)))

abbrev pub text_behind : Bool → ItemD → List ℕ
text_behind hashed i = codes "\n" ++ hash_where (hashed && holds i) i.name.text

-- ---- the law

pub record IsBare (i : ItemD) : Type 0 where
  pub params : i.params ≡ []
  pub predicates : i.predicates ≡ []

pub record ItemsKeepTokens : Type 0 where
  pub parts : (hashed : Bool) (doc : List ℕ) (i : ItemD) → item_text hashed doc i ≡ text_before hashed doc i ++ (declared_text i ++ text_behind hashed i)
  -- where each token of its printing is such as some text has; punctuation may be joint where it wasn't
  pub tokens : (i : ItemD) → IsBare i → AllByRecursion IsToken (pieces_of (print_item i)) → HasTokens (declared_text i) (pieces_of (shown_item true false i))
  -- without `pub` and with the last comma they are those of the printing
  pub printing : (i : ItemD) → IsBare i → shown_item false true i ≡ print_item i
