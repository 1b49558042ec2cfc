-- What a string literal is read as: its text has tokens, each at the literal's place, and these are read as a tree.
use Rattle.std.specs.Prelude.{◌≡◌, ◌⊎◌, ℕ, List, Result, Err}
use Rattle.std.specs.Str.{chars}
use Rattle.token_trees.specs.declared.token.Span.{Span}
use Rattle.token_trees.specs.Token.{Tok}
use Rattle.rust_tokens.specs.Faults.{IsFirstFault}
use Rattle.rust_tokens.specs.Reading.{IsLexed}
use Rattle.syntax_trees.specs.Syntax.{LitStrD}
use Rattle.syntax_trees.specs.declared.cursor.SyntaxKind.TheVariants.{Lex}
use Rattle.syntax_trees.specs.declared.cursor.SyntaxError.{SyntaxError}
use Rattle.syntax_parsers.specs.declared.fault.ParseFault.{ParseFault}
use Rattle.syntax_parsers.specs.declared.fault.ParseFault.TheVariants.{Memory, Syntax}
use Rattle.syntax_parsers.specs.Answer.{error}

-- a reader of all tokens, which is given the place of what holds them
abbrev pub WholeReader : Type 0 → Type 0
WholeReader Y = Span → List Tok → Result Y SyntaxError

-- the tokens of the text are read as that
abbrev pub ReadsText : {Y : Type 0} → WholeReader Y → LitStrD → Result Y SyntaxError → Type 0
ReadsText read l answer = (ts : List Tok) × IsLexed (chars l.text) l.span ts × (read l.span ts ≡ answer)

-- no token begins somewhere in the text, or a bracket has no partner
abbrev pub HasNoTokens : LitStrD → Type 0
HasNoTokens l = (place : ℕ) × IsFirstFault (chars l.text) place

-- of a fault where the text has no tokens
abbrev pub IsLexFault : LitStrD → ParseFault → Type 0
IsLexFault l Memory = Unit {0}
IsLexFault l (Syntax e) = HasNoTokens l × (e ≡ error Lex l.span)

-- Of a fault: want of memory says nothing of the text; an error of syntax is the reader's, or `Lex` at the literal's place.
abbrev pub IsFaultOf : {Y : Type 0} → WholeReader Y → LitStrD → ParseFault → Type 0
IsFaultOf read l Memory = Unit {0}
IsFaultOf read l (Syntax e) = ReadsText read l (Err e) ⊎ (HasNoTokens l × (e ≡ error Lex l.span))
