-- What stands in front of the tokens of nested metas: a path, a value, a group, a comma.
use Rattle.std.specs.Prelude.{ℕ, ◌+◌, ◌&&◌, List, [], ◌∷◌, Bool, true, false, Option, Some, None, option_map, nat_eq, cond}
use Rattle.token_trees.specs.declared.token.Span.{Span}
use Rattle.token_trees.specs.declared.token.Spacing.{Spacing}
use Rattle.token_trees.specs.declared.token.Spacing.TheVariants.{Alone, Joint}
use Rattle.token_trees.specs.declared.token.Delimiter.TheVariants.{Parenthesis, Bracket, Brace, None as Bare}
use Rattle.syntax_trees.specs.declared.cursor.SyntaxKind.{SyntaxKind}
use Rattle.syntax_trees.specs.declared.cursor.SyntaxKind.TheVariants.{ExpectedEq, ExpectedValue}
use Rattle.syntax_trees.specs.declared.cursor.SyntaxError.{SyntaxError}
use Rattle.token_trees.specs.Token.{Tok, word, mark, fixed, group, list_of, span_of}

abbrev pub is_sign : ℕ → Tok → Bool
is_sign c (word x s) = false
is_sign c (mark d j s) = nat_eq c d
is_sign c (fixed l s) = false
is_sign c (group d us s) = false

abbrev pub sign_next : ℕ → List Tok → Bool
sign_next c [] = false
sign_next c (t ∷ ts) = is_sign c t

abbrev pub is_word : Tok → Bool
is_word (word x s) = true
is_word (mark d j s) = false
is_word (fixed l s) = false
is_word (group d us s) = false

abbrev pub is_joint : Spacing → Bool
is_joint Joint = true
is_joint Alone = false

abbrev pub is_joint_sign : ℕ → Tok → Bool
is_joint_sign c (word x s) = false
is_joint_sign c (mark d j s) = nat_eq c d && is_joint j
is_joint_sign c (fixed l s) = false
is_joint_sign c (group d us s) = false

-- whether `::` stands in front
abbrev pub colons_next : List Tok → Bool
colons_next [] = false
colons_next (t ∷ []) = false
colons_next (t ∷ u ∷ ts) = is_joint_sign 58 t && is_sign 58 u

abbrev pub rest_of : List Tok → List Tok
rest_of [] = []
rest_of (t ∷ ts) = ts

-- how many tokens in front are names with `::` between two; none where a name is missing
abbrev pub names_len : List Tok → Option ℕ
names_len [] = None
names_len (t ∷ []) = cond (is_word t) (Some 1) None
names_len (t ∷ u ∷ []) = cond (is_word t) (Some 1) None
names_len (t ∷ u ∷ v ∷ ts) = cond (is_word t) (cond (colons_next (u ∷ v ∷ ts)) (option_map (λ n. n + 3) (names_len ts)) (Some 1)) None

-- where a name is missing, the tokens from its place on
abbrev pub no_name : List Tok → List Tok
no_name [] = []
no_name (t ∷ []) = cond (is_word t) [] (t ∷ [])
no_name (t ∷ u ∷ []) = cond (is_word t) [] (t ∷ u ∷ [])
no_name (t ∷ u ∷ v ∷ ts) = cond (is_word t) (no_name ts) (t ∷ u ∷ v ∷ ts)

-- the same of a path: names with `::` between two, and maybe one `::` before the first
abbrev pub path_len : List Tok → Option ℕ
path_len ts = cond (colons_next ts) (option_map (λ n. n + 2) (names_len (rest_of (rest_of ts)))) (names_len ts)

abbrev pub no_path : List Tok → List Tok
no_path ts = cond (colons_next ts) (no_name (rest_of (rest_of ts))) (no_name ts)

-- up to the first comma, and from it on
abbrev pub before_comma : List Tok → List Tok
before_comma [] = []
before_comma (t ∷ ts) = cond (is_sign 44 t) [] (t ∷ before_comma ts)

abbrev pub from_comma : List Tok → List Tok
from_comma [] = []
from_comma (t ∷ ts) = cond (is_sign 44 t) (t ∷ ts) (from_comma ts)

-- whether a meta ends here: at a comma, or where the tokens end
abbrev pub ends_meta : List Tok → Bool
ends_meta [] = true
ends_meta (t ∷ ts) = is_sign 44 t

abbrev pub not_empty : List Tok → Option (List Tok)
not_empty [] = None
not_empty (t ∷ ts) = Some (t ∷ ts)

-- the tokens of the value after `=`, one at least
abbrev pub value_next : List Tok → Option (List Tok)
value_next ts = cond (sign_next 61 ts) (not_empty (before_comma (rest_of ts))) None

-- the tokens of a group in parentheses
abbrev pub in_parens : Tok → Option (List Tok)
in_parens (word x s) = None
in_parens (mark d j s) = None
in_parens (fixed l s) = None
in_parens (group Parenthesis us s) = Some (list_of us)
in_parens (group Bracket us s) = None
in_parens (group Brace us s) = None
in_parens (group Bare us s) = None

abbrev pub parens_next : List Tok → Option (List Tok)
parens_next [] = None
parens_next (t ∷ ts) = in_parens t

-- the place of what offends: the token that stands next, or the enclosing group where none does
abbrev pub place : Span → List Tok → Span
place at [] = at
place at (t ∷ ts) = span_of t

-- the error of syntax at that place
abbrev pub expected : SyntaxKind → Span → List Tok → SyntaxError
expected k at ts = record { kind = k; span = place at ts }

-- what is wrong where no value stands next
abbrev pub no_value : Span → List Tok → SyntaxError
no_value at ts = cond (sign_next 61 ts) (expected ExpectedValue at (rest_of ts)) (expected ExpectedEq at ts)
