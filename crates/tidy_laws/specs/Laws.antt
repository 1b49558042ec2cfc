-- A tidied text has the tokens that stood there. Only whether a punctuation character is joint may change, as spaces are gone.
use Rattle.std.specs.Prelude.{◌≡◌, ℕ, List, [], ◌∷◌, map, true, false, Some}
use Rattle.std.specs.List.{AllByRecursion}
use Rattle.std.specs.Char.{is_whitespace}
use Rattle.std.specs.Str.{chars, IsUtf8}
use Rattle.token_trees.specs.declared.token.Spacing.TheVariants.{Alone}
use Rattle.token_trees.specs.Text.{Piece, name, sign, constant, opens, closes, spaced}
use Rattle.rust_tokens.specs.Front.{front}
use Rattle.rust_tokens.specs.Reading.{Reads}
use Rattle.tidy_texts.specs.Tidy.{tidy}
use lib.Utf8.{scalars}

-- a token, the spacing of punctuation aside
abbrev pub bare : Piece → Piece
bare (name x) = name x
bare (sign c j) = sign c Alone
bare (constant l) = constant l
bare (opens d) = opens d
bare (closes d) = closes d

-- the text has those tokens, the spacing aside
pub record HasTokens (text : List ℕ) (xs : List Piece) : Type 0 where
  pub tokens : List Piece
  pub reads : Reads (chars text) tokens []
  pub same : map bare tokens ≡ map bare xs

-- some characters begin with the token, and not with white space
pub record IsToken (x : Piece) : Type 0 where
  pub first : ℕ
  pub others : List ℕ
  pub count : ℕ
  pub solid : is_whitespace first ≡ false
  pub scalar_values : scalars (first ∷ others) ≡ true
  pub found : front (first ∷ others) ≡ Some (x, count)

pub record TidyKeepsTokens : Type 0 where
  -- tokens as they are printed
  pub kept : (xs : List Piece) → AllByRecursion IsToken xs → HasTokens (tidy (spaced true xs)) xs
  -- those that a text has are such
  pub of_texts : (bytes : List ℕ) (xs : List Piece) → IsUtf8 bytes → Reads (chars bytes) xs [] → AllByRecursion IsToken xs
