-- The tokens that a text is taken to have are its tokens.
use Rattle.std.proofs.Common.{◌≡◌, ◌⊎◌, ℕ, List, Some, None, inl, inr, refl, ap, ◌∙◌}
use Rattle.std.specs.Prelude.{MatchOption, Result, Err}
use Rattle.std.specs.Str.{chars}
use Rattle.token_trees.specs.declared.token.Span.{Span}
use Rattle.token_trees.specs.Token.{Tok}
use Rattle.rust_tokens.specs.Reading.{IsLexed}
use Rattle.rust_tokens.specs.Faults.{IsFirstFault}
use Rattle.rust_tokens.proofs.Every.{every_text}
use Rattle.rust_tokens.proofs.Exact.{lexed_has_no_fault}
use Rattle.rust_tokens.proofs.Unique.{trees_are_one}
use Rattle.syntax_trees.specs.Syntax.{LitStrD}
use Rattle.syntax_trees.specs.declared.cursor.SyntaxKind.TheVariants.{Lex}
use Rattle.syntax_trees.specs.declared.cursor.SyntaxError.{SyntaxError}
use Rattle.syntax_parsers.specs.Answer.{error}
use Rattle.syntax_texts.specs.Texts.{WholeReader, ReadsText, HasNoTokens}
use Rattle.attr_defs.specs.Texts.{tokens_found, lexed, read_by, read_text}

-- what is found of a text: its tokens, or a fault
abbrev Found : List ℕ → Span → Type 0
Found cs at = ((ts : List Tok) × IsLexed cs at ts) ⊎ ((place : ℕ) × IsFirstFault cs place)

pub found_are : (cs : List ℕ) (at : Span) (x : Found cs at) → MatchOption (tokens_found x) ((place : ℕ) × IsFirstFault cs place) (λ ts. IsLexed cs at ts)
found_are cs at (inl f) = f.1
found_are cs at (inr g) = g

found_some : (cs : List ℕ) (at : Span) (ts : List Tok) → IsLexed cs at ts → (x : Found cs at) → tokens_found x ≡ Some ts
found_some cs at ts h (inl f) = ap Some (trees_are_one cs at f.0 ts f.1 h)
found_some cs at ts h (inr g) = absurd (lexed_has_no_fault cs at ts g.0 h g.1.faulty)

found_none : (cs : List ℕ) (at : Span) → ((place : ℕ) × IsFirstFault cs place) → (x : Found cs at) → tokens_found x ≡ None
found_none cs at k (inl f) = absurd (lexed_has_no_fault cs at f.0 k.0 f.1 k.1.faulty)
found_none cs at k (inr g) = refl

pub lexed_some : (cs : List ℕ) (at : Span) (ts : List Tok) → IsLexed cs at ts → lexed cs at ≡ Some ts
unfolding lexed
lexed_some cs at ts h = found_some cs at ts h (every_text cs at)

pub lexed_none : (cs : List ℕ) (at : Span) → ((place : ℕ) × IsFirstFault cs place) → lexed cs at ≡ None
unfolding lexed
lexed_none cs at k = found_none cs at k (every_text cs at)

-- what a parser of texts answers is what the text is read as
pub read_same : {A : Type 0} → (read : WholeReader A) (l : LitStrD) (r : Result A SyntaxError) → ReadsText read l r → read_text lexed read l ≡ r
read_same read l r h = ap (read_by read l.span) (lexed_some (chars l.text) l.span h.0 h.1) ∙ h.2

pub read_none : {A : Type 0} → (read : WholeReader A) (l : LitStrD) → HasNoTokens l → read_text lexed read l ≡ Err (error Lex l.span)
read_none read l k = ap (read_by read l.span) (lexed_none (chars l.text) l.span k)
