-- What the values of metas are: string literals, and what their texts are read as.
use Rattle.std.specs.Prelude.{ℕ, List, [], ◌∷◌, Option, Some, None, Result, Ok, Err, cond, MatchOption, ◌⊎◌}
use Rattle.std.proofs.Common.{inl, inr}
use Rattle.std.specs.Str.{chars}
use Rattle.token_trees.specs.declared.token.Span.{Span}
use Rattle.token_trees.specs.declared.token.Delimiter.TheVariants.{Parenthesis, Brace, Bracket, None as Bare}
use Rattle.token_trees.specs.Token.{Tok, word, mark, fixed, group, Toks, no_toks, tok, text, digits, other, span_of_all}
use Rattle.rust_tokens.specs.Reading.{IsLexed}
use Rattle.rust_tokens.specs.Faults.{IsFirstFault}
use Rattle.rust_tokens.proofs.Every.{every_text}
use Rattle.syntax_trees.specs.declared.cursor.SyntaxKind.TheVariants.{Lex}
use Rattle.syntax_trees.specs.declared.cursor.SyntaxError.{SyntaxError}
use Rattle.syntax_trees.specs.Metas.{sign_next, rest_of, not_empty, no_value}
use Rattle.syntax_trees.specs.Syntax.{LitStrD}
use Rattle.syntax_trees.specs.Item.{PredicateD}
use Rattle.syntax_parsers.specs.Answer.{error}
use Rattle.syntax_parsers.specs.Whole.{predicates_of}
use Rattle.syntax_texts.specs.Texts.{WholeReader}
use Rattle.attr_parts.specs.Diagnostics.{KindD, syntax, bad_syntax, expected_string, bad_suffix}
use Rattle.attr_defs.specs.Acts.{ActD, tells}
use Rattle.attr_defs.specs.Steps.{Step, gives, does, notes, ends, ◌>>=◌}

-- the tokens of characters, each with the place; none where the characters have none
abbrev pub Lexing : Type 0
Lexing = List ℕ → Span → Option (List Tok)

-- those that the characters have
abbrev pub IsLexing : Lexing → Type 0
IsLexing lexing = (cs : List ℕ) (at : Span) → MatchOption (lexing cs at) ((place : ℕ) × IsFirstFault cs place) (λ ts. IsLexed cs at ts)

abbrev pub tokens_found : {cs : List ℕ} {at : Span} → ((ts : List Tok) × IsLexed cs at ts) ⊎ ((place : ℕ) × IsFirstFault cs place) → Option (List Tok)
tokens_found (inl found) = Some found.0
tokens_found (inr fault) = None

-- there is one such, since each text has tokens or a fault
unfoldable pub lexed : Lexing
lexed cs at = tokens_found (every_text cs at)

abbrev pub read_by : {A : Type 0} → WholeReader A → Span → Option (List Tok) → Result A SyntaxError
read_by read at None = Err (error Lex at)
read_by read at (Some ts) = read at ts

-- what a reader of tokens makes of a literal's text
abbrev pub read_text : {A : Type 0} → Lexing → WholeReader A → LitStrD → Result A SyntaxError
read_text lexing read l = read_by read l.span (lexing (chars l.text) l.span)

-- the string literal that tokens are, alone or within groups without delimiters
abbrev mutual
  pub string_of : Tok → Option LitStrD
  string_of (word x s) = None
  string_of (mark c j s) = None
  string_of (fixed (text v x) s) = Some (record { text = v; suffix = x; span = s })
  string_of (fixed (digits d) s) = None
  string_of (fixed (other o) s) = None
  string_of (group Parenthesis ts s) = None
  string_of (group Brace ts s) = None
  string_of (group Bracket ts s) = None
  string_of (group Bare ts s) = string_in ts

  pub string_in : Toks → Option LitStrD
  string_in no_toks = None
  string_in (tok t no_toks) = string_of t
  string_in (tok t (tok u us)) = None

abbrev pub string_alone : List Tok → Option LitStrD
string_alone [] = None
string_alone (t ∷ []) = string_of t
string_alone (t ∷ u ∷ ts) = None

-- the tokens behind `=`, where one at least stands there
abbrev pub value_by : Option (List Tok) → SyntaxError → Step (List Tok)
value_by None e = ends (syntax e)
value_by (Some ts) e = gives ts

abbrev pub value_in : List Tok → Option (List Tok)
value_in rest = cond (sign_next 61 rest) (not_empty (rest_of rest)) None

abbrev pub value_tokens : Span → List Tok → Step (List Tok)
value_tokens end rest = value_by (value_in rest) (no_value end rest)

-- letters right behind the closing quote
abbrev pub suffix_told : LitStrD → List ℕ → List ActD
suffix_told l [] = []
suffix_told l (c ∷ cs) = tells (record { kind = bad_suffix l.suffix; span = l.span }) ∷ []

abbrev pub string_by : List ℕ → List ℕ → List Tok → Option LitStrD → Step (Option LitStrD)
string_by attribute item ts None = notes (record { kind = expected_string attribute item; span = span_of_all ts }) None
string_by attribute item ts (Some l) = does (suffix_told l l.suffix) (Some l)

-- `= "text"`; another value than a string is told and has no effect, a suffix is told
abbrev pub string_step : List ℕ → List ℕ → Span → List Tok → Step (Option LitStrD)
string_step attribute item end rest = value_tokens end rest >>= λ ts. string_by attribute item ts (string_alone ts)

abbrev pub parsed_by : {A : Type 0} → KindD → Span → Result A SyntaxError → Step (Option A)
parsed_by bad at (Ok x) = gives (Some x)
parsed_by bad at (Err e) = notes (record { kind = bad; span = at }) None

abbrev pub parsed : {A : Type 0} → Lexing → WholeReader A → (LitStrD → KindD) → Option LitStrD → Step (Option A)
parsed lexing read bad None = gives None
parsed lexing read bad (Some l) = parsed_by (bad l) l.span (read_text lexing read l)

-- a string whose text is read as a tree; one that isn't is told, and has no effect
abbrev pub parsed_step : {A : Type 0} → Lexing → WholeReader A → (LitStrD → KindD) → List ℕ → Span → List Tok → Step (Option A)
parsed_step lexing read bad name end rest = string_step name name end rest >>= parsed lexing read bad

-- a text that isn't predicates is told at the literal, and stands for none of them
abbrev pub predicates_by : LitStrD → Result (List PredicateD) SyntaxError → Step (Option (List PredicateD))
predicates_by l (Ok ps) = gives (Some ps)
predicates_by l (Err e) = notes (record { kind = bad_syntax e.kind; span = l.span }) (Some [])

abbrev pub predicates_in : Lexing → Option LitStrD → Step (Option (List PredicateD))
predicates_in lexing None = gives (Some [])
predicates_in lexing (Some l) = predicates_by l (read_text lexing predicates_of l)

-- a string whose text is read as predicates; any other value is told, and stands for none of them
abbrev pub predicates_step : Lexing → List ℕ → List ℕ → Span → List Tok → Step (Option (List PredicateD))
predicates_step lexing attribute item end rest = string_step attribute item end rest >>= predicates_in lexing
