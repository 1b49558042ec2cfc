-- Which kind of error is told, and where: `Lex` where the text has no tokens, another where it has some, and each at the literal.
use Rattle.std.specs.Prelude.{◌≡◌, ◌≢◌, ◌↔◌, List, Result, Err}
use Rattle.std.specs.Str.{chars}
use Rattle.token_trees.specs.Token.{Tok}
use Rattle.rust_tokens.specs.Reading.{IsLexed}
use Rattle.syntax_trees.specs.Syntax.{LitStrD}
use Rattle.syntax_trees.specs.View.{ty, path_view, expr_path_view}
use Rattle.syntax_trees.specs.declared.cursor.SyntaxKind.TheVariants.{Lex}
use Rattle.syntax_trees.specs.declared.cursor.SyntaxError.{SyntaxError}
use Rattle.syntax_parsers.specs.declared.fault.ParseFault.{ParseFault}
use Rattle.syntax_parsers.specs.declared.fault.ParseFault.TheVariants.{Syntax}
use Rattle.syntax_parsers.specs.Lifetimes.{lifetimes_of}
use Rattle.syntax_parsers.specs.Whole.{type_of, path_of, expr_path_of, predicates_of}
use Rattle.syntax_texts.specs.Texts.{WholeReader, HasNoTokens}
use Rattle.syntax_laws.specs.TextSpelling.{MayAnswer, predicate_views, lifetime_views}

abbrev pub HasTokens : LitStrD → Type 0
HasTokens l = (ts : List Tok) × IsLexed (chars l.text) l.span ts

-- of a parser of texts, by its clauses
abbrev pub KindTold : {X A : Type 0} → (X → A) → WholeReader A → Type 0
KindTold {X} {A} view read =
    (l : LitStrD) (r : Result X ParseFault) (e : SyntaxError) → MayAnswer view read l r → r ≡ Err (Syntax e)
    → ((e.kind ≡ Lex) ↔ HasNoTokens l) × ((e.kind ≢ Lex) ↔ HasTokens l)

-- of types, paths, paths of expressions, predicates and lifetimes
abbrev pub KindsTold : Type 0
KindsTold =
    KindTold ty type_of × KindTold path_view path_of × KindTold expr_path_view expr_path_of
    × KindTold predicate_views predicates_of × KindTold lifetime_views (λ _. lifetimes_of)

-- an error of syntax stands at the literal
abbrev pub PlaceTold : {X A : Type 0} → (X → A) → WholeReader A → Type 0
PlaceTold {X} {A} view read = (l : LitStrD) (r : Result X ParseFault) (e : SyntaxError) → MayAnswer view read l r → r ≡ Err (Syntax e) → e.span ≡ l.span

abbrev pub PlacesTold : Type 0
PlacesTold =
    PlaceTold ty type_of × PlaceTold path_view path_of × PlaceTold expr_path_view expr_path_of
    × PlaceTold predicate_views predicates_of × PlaceTold lifetime_views (λ _. lifetimes_of)
