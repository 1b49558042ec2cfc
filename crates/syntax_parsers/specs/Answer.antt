-- What a parser answers, beside what reading the tokens gives: the tree, or what offends and where.
use Rattle.std.specs.Prelude.{Result, Ok, Err, ◌≡◌, List, ◌++◌}
use Rattle.token_trees.specs.declared.token.Span.{Span}
use Rattle.syntax_trees.specs.declared.cursor.SyntaxKind.{SyntaxKind}
use Rattle.syntax_trees.specs.declared.cursor.SyntaxError.{SyntaxError}
use Rattle.syntax_parsers.specs.declared.fault.ParseFault.{ParseFault}
use Rattle.syntax_parsers.specs.declared.fault.ParseFault.TheVariants.{Memory, Syntax}

abbrev pub error : SyntaxKind → Span → SyntaxError
error kind at = record { kind = kind; span = at }

-- of an error: want of memory says nothing of the tokens
abbrev pub Refuses : {Y : Type 0} → ParseFault → Result Y SyntaxError → Type 0
Refuses Memory read = Unit {0}
Refuses (Syntax e) read = read ≡ Err e

abbrev pub Answers : {X Y : Type 0} → (X → Y) → Result X ParseFault → Result Y SyntaxError → Type 0
Answers view (Ok x) read = read ≡ Ok (view x)
Answers view (Err e) read = Refuses e read

infixl 10 ◌>>=◌
abbrev pub ◌>>=◌ : {A B : Type 0} → Result A SyntaxError → (A → Result B SyntaxError) → Result B SyntaxError
(Ok x) >>= f = f x
(Err e) >>= f = Err e

-- what was read before, in front
abbrev pub with_front : {A : Type 0} → List A → Result (List A) SyntaxError → Result (List A) SyntaxError
with_front xs (Ok ys) = Ok (xs ++ ys)
with_front xs (Err e) = Err e

abbrev pub with_first : {A B : Type 0} → List A → Result (List A × B) SyntaxError → Result (List A × B) SyntaxError
with_first xs (Ok (ys, y)) = Ok (xs ++ ys, y)
with_first xs (Err e) = Err e
