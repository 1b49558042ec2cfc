-- The text that token trees print: their tokens in order, one space between any two, but none after a joint character.
use Rattle.std.specs.Prelude.{ℕ, List, [], ◌∷◌, ◌++◌, Bool, true, false, cond, ◌==◌, flat_map, encode_utf8}
use Rattle.std.specs.Str.{chars}
use Rattle.token_trees.specs.declared.token.Delimiter.{Delimiter}
use Rattle.token_trees.specs.declared.token.Delimiter.TheVariants.{Parenthesis, Brace, Bracket, None}
use Rattle.token_trees.specs.declared.token.Spacing.{Spacing}
use Rattle.token_trees.specs.declared.token.Spacing.TheVariants.{Alone, Joint}
use Rattle.token_trees.specs.Token.{Fixed, text, digits, other, Tok, word, mark, fixed, group, Toks, no_toks, tok}

-- One token as it stands in a text: a bracket is a token of its own.
pub data Piece : Type 0 where
  name : List ℕ → Piece
  sign : ℕ → Spacing → Piece
  constant : Fixed → Piece
  opens : Delimiter → Piece
  closes : Delimiter → Piece

-- the tokens of a group; one that no bracket shows is what it holds
abbrev pub enclosed : Delimiter → List Piece → List Piece
enclosed Parenthesis xs = opens Parenthesis ∷ (xs ++ closes Parenthesis ∷ [])
enclosed Brace xs = opens Brace ∷ (xs ++ closes Brace ∷ [])
enclosed Bracket xs = opens Bracket ∷ (xs ++ closes Bracket ∷ [])
enclosed None xs = xs

-- the tokens of trees, spans aside
abbrev mutual
  pub pieces : Tok → List Piece
  pieces (word x _) = name x ∷ []
  pieces (mark c j _) = sign c j ∷ []
  pieces (fixed l _) = constant l ∷ []
  pieces (group d ts _) = enclosed d (inner_pieces ts)

  pub inner_pieces : Toks → List Piece
  inner_pieces no_toks = []
  inner_pieces (tok t ts) = pieces t ++ inner_pieces ts

abbrev pub pieces_of : List Tok → List Piece
pieces_of [] = []
pieces_of (t ∷ ts) = pieces t ++ pieces_of ts

-- `\u{20` and the two last digits of a character's number, and `}`
abbrev pub numbered : ℕ → ℕ → List ℕ
numbered x y = 92 ∷ 117 ∷ 123 ∷ 50 ∷ 48 ∷ x ∷ y ∷ 125 ∷ []

-- A character in UTF-8, but that those which change the direction of what is shown (Unicode Standard Annex 9: U+202A to U+202E, U+2066 to U+2069)
-- are escaped: rustc denies them in a literal.
abbrev pub shown : ℕ → List ℕ
shown c =
    cond (c == 8234) (numbered 50 97)
    (cond (c == 8235) (numbered 50 98)
    (cond (c == 8236) (numbered 50 99)
    (cond (c == 8237) (numbered 50 100)
    (cond (c == 8238) (numbered 50 101)
    (cond (c == 8294) (numbered 54 54)
    (cond (c == 8295) (numbered 54 55)
    (cond (c == 8296) (numbered 54 56)
    (cond (c == 8297) (numbered 54 57) (encode_utf8 c)))))))))

-- a character of a string literal: newline, return, tab, the zero character, `\` and `"` are escaped, and what changes the direction
abbrev pub escaped : ℕ → List ℕ
escaped c =
    cond (c == 10) (92 ∷ 110 ∷ [])
    (cond (c == 13) (92 ∷ 114 ∷ [])
    (cond (c == 9) (92 ∷ 116 ∷ [])
    (cond (c == 0) (92 ∷ 48 ∷ [])
    (cond (c == 92) (92 ∷ 92 ∷ [])
    (cond (c == 34) (92 ∷ 34 ∷ []) (shown c))))))

abbrev pub fixed_spelling : Fixed → List ℕ
fixed_spelling (text value suffix) = 34 ∷ (flat_map escaped (chars value) ++ 34 ∷ suffix)
fixed_spelling (digits x) = x
fixed_spelling (other x) = x

abbrev pub opening : Delimiter → List ℕ
opening Parenthesis = 40 ∷ []
opening Brace = 123 ∷ []
opening Bracket = 91 ∷ []
opening None = []

abbrev pub closing : Delimiter → List ℕ
closing Parenthesis = 41 ∷ []
closing Brace = 125 ∷ []
closing Bracket = 93 ∷ []
closing None = []

-- the bytes of one token
abbrev pub spelling : Piece → List ℕ
spelling (name x) = x
spelling (sign c _) = encode_utf8 c
spelling (constant l) = fixed_spelling l
spelling (opens d) = opening d
spelling (closes d) = closing d

abbrev pub is_joint_spacing : Spacing → Bool
is_joint_spacing Alone = false
is_joint_spacing Joint = true

-- no space comes after a joint character
abbrev pub is_joint : Piece → Bool
is_joint (name _) = false
is_joint (sign _ spacing) = is_joint_spacing spacing
is_joint (constant _) = false
is_joint (opens _) = false
is_joint (closes _) = false

abbrev pub gap : Bool → List ℕ
gap true = []
gap false = 32 ∷ []

-- what tokens print after other text; `tight` says that no space comes first
abbrev pub spaced : Bool → List Piece → List ℕ
spaced tight [] = []
spaced tight (x ∷ xs) = gap tight ++ (spelling x ++ spaced (is_joint x) xs)

-- whether no space comes after those tokens
abbrev pub tight_after : Bool → List Piece → Bool
tight_after tight [] = tight
tight_after tight (x ∷ xs) = tight_after (is_joint x) xs

-- the text of token trees
abbrev pub text_of : List Tok → List ℕ
text_of ts = spaced true (pieces_of ts)
