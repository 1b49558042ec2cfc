-- Attributes, line by line. Each line is indented by the given spaces. Lines are broken as rustfmt does: the arguments of an attribute stand on its line where they have at most 70
-- characters; one argument alone stands there where the line has at most 99.
use Rattle.std.specs.Prelude.{ℕ, List, [], ◌∷◌, ◌++◌, length, Bool, false, ◌||◌, ◌==◌, nat_lt, chars, codes, if◌then◌else◌}
use Rattle.token_trees.specs.Token.{Tok, word, mark, fixed, group}
use Rattle.syntax_trees.specs.Syntax.{PathD}
use Rattle.syntax_trees.specs.Item.{MetaD, meta_path, meta_list, meta_value}
use Rattle.syntax_printing.specs.Print.{print_path}
use Rattle.module_texts.specs.Tokens.{tokens_text, attribute_text}

abbrev pub is_comma : Tok → Bool
is_comma (word x s) = false
is_comma (mark c j s) = c == 44
is_comma (fixed l s) = false
is_comma (group d ts s) = false

abbrev pub has_comma : List Tok → Bool
has_comma [] = false
has_comma (t ∷ ts) = is_comma t || has_comma ts

-- ---- an argument a line

abbrev pub argument_line : List ℕ → List Tok → List ℕ → List ℕ
argument_line indent ts end = indent ++ (codes "    " ++ (tokens_text ts ++ end))

-- `begun` are the tokens of the first argument that stand before the others
abbrev pub argument_lines : List ℕ → List Tok → List Tok → List ℕ
argument_lines indent begun [] = argument_line indent begun (codes "\n")
argument_lines indent begun (t ∷ ts) = if is_comma t then argument_line indent begun (codes ",\n") ++ argument_lines indent [] ts else argument_lines indent (begun ++ t ∷ []) ts

abbrev pub broken_lines : List ℕ → PathD → List Tok → List ℕ
broken_lines indent p ts = indent ++ (codes "#[" ++ (tokens_text (print_path p) ++ (codes "(\n" ++ (argument_lines indent [] ts ++ (indent ++ codes ")]\n")))))

-- ---- on one line, or broken

abbrev pub plain_line : List ℕ → MetaD → List ℕ
plain_line indent m = indent ++ (attribute_text m ++ codes "\n")

abbrev pub is_wide : List ℕ → MetaD → List Tok → Bool
is_wide indent m ts = if has_comma ts then nat_lt 70 (length (chars (tokens_text ts))) else nat_lt 99 (length (chars (indent ++ attribute_text m)))

abbrev pub list_lines : List ℕ → MetaD → PathD → List Tok → List ℕ
list_lines indent m p ts = if is_wide indent m ts then broken_lines indent p ts else plain_line indent m

abbrev pub attribute_line : List ℕ → MetaD → List ℕ
attribute_line indent (meta_path p) = plain_line indent (meta_path p)
attribute_line indent (meta_list p ts at) = list_lines indent (meta_list p ts at) p ts
attribute_line indent (meta_value p ts) = plain_line indent (meta_value p ts)

abbrev pub attribute_lines : List ℕ → List MetaD → List ℕ
attribute_lines indent [] = []
attribute_lines indent (m ∷ ms) = attribute_line indent m ++ attribute_lines indent ms
