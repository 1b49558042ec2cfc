-- What the lexer's tokens are to contracts.
use Rattle.std.specs.Prelude.{string_bytes}
use Rattle.token_trees.specs.Text.{Piece, name, sign, constant, opens, closes}
use Rattle.token_trees.specs.View.{fixed_view}
use Rattle.rust_tokens.specs.declared.front.Token.{Token}
use Rattle.rust_tokens.specs.declared.front.Token.TheVariants.{Name, Sign, Constant, Open, Close}

abbrev pub piece : Token → Piece
piece (Name text) = name (string_bytes text)
piece (Sign ch spacing) = sign ch spacing
piece (Constant lit) = constant (fixed_view lit)
piece (Open d) = opens d
piece (Close d) = closes d
