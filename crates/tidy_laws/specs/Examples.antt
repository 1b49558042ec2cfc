-- Tokens, tidied and read again.
use Rattle.std.specs.Prelude.{◌≡◌, List, [], ◌∷◌, map, true, codes}
use Rattle.token_trees.specs.declared.token.Spacing.TheVariants.{Alone, Joint}
use Rattle.token_trees.specs.Text.{Piece, name, sign, spaced}
use Rattle.rust_tokens.specs.Reading.{Reads}
use Rattle.tidy_texts.specs.Tidy.{tidy}
use Rattle.tidy_laws.specs.Laws.{bare}

-- `< a > >`
abbrev pub spread : List Piece
spread = sign 60 Alone ∷ name (codes "a") ∷ sign 62 Alone ∷ sign 62 Alone ∷ []

abbrev pub joined : List Piece
joined = sign 60 Alone ∷ name (codes "a") ∷ sign 62 Joint ∷ sign 62 Alone ∷ []

-- two that stood apart stand side by side, so that the first is joint
pub record Tidied : Type 0 where
  pub text : tidy (spaced true spread) ≡ codes "<a>>"
  pub reads : Reads (codes "<a>>") joined []
  pub same : map bare joined ≡ map bare spread
