-- Which trees the text of a string literal spells, and that the parsers of texts answer those.
use Rattle.std.specs.Prelude.{◌≡◌, ◌≢◌, ◌↔◌, List, map, Result, Ok, Err, IfOk, IfErr}
use Rattle.std.specs.Str.{chars}
use Rattle.std.specs.declared.alloc.Global.{Global}
use Rattle.std.specs.declared.vec.Vec.{Vec}
use Rattle.token_trees.specs.Token.{Tok}
use Rattle.rust_tokens.specs.Reading.{IsLexed}
use Rattle.syntax_trees.specs.Syntax.{LitStrD, LifetimeD}
use Rattle.syntax_trees.specs.View.{ty, path_view, expr_path_view, lifetime_view}
use Rattle.syntax_trees.specs.Item.{PredicateD, predicate_view}
use Rattle.syntax_trees.specs.declared.item.WherePredicate.{WherePredicate}
use Rattle.syntax_trees.specs.declared.tree.Lifetime.{Lifetime}
use Rattle.syntax_trees.specs.declared.cursor.SyntaxKind.TheVariants.{Lex}
use Rattle.syntax_trees.specs.declared.cursor.SyntaxError.{SyntaxError}
use Rattle.syntax_parsers.specs.declared.fault.ParseFault.{ParseFault}
use Rattle.syntax_parsers.specs.declared.fault.ParseFault.TheVariants.{Memory, Syntax}
use Rattle.syntax_parsers.specs.Answer.{error}
use Rattle.syntax_parsers.specs.Lifetimes.{SpellsLifetimes, lifetimes_of}
use Rattle.syntax_parsers.specs.SpellingForm.{SpellsTy, SpellsPath, SpellsExprPath}
use Rattle.syntax_parsers.specs.Whole.{type_of, path_of, expr_path_of, predicates_of}
use Rattle.syntax_texts.specs.Texts.{WholeReader, ReadsText, HasNoTokens, IsFaultOf}
use Rattle.syntax_laws.specs.Predicates.{SpellsPredicates}

-- which tokens spell which trees of a kind
abbrev pub Spelling : Type 0 → Type 1
Spelling A = List Tok → A → Type 0

-- the text has tokens, each at the literal's place, that spell the tree
abbrev pub TextSpells : {A : Type 0} → Spelling A → LitStrD → A → Type 0
TextSpells Spells l x = (ts : List Tok) × IsLexed (chars l.text) l.span ts × Spells ts x

-- what the clauses of a parser of texts let it answer
abbrev pub MayAnswer : {X A : Type 0} → (X → A) → WholeReader A → LitStrD → Result X ParseFault → Type 0
MayAnswer view read l r = IfOk r (λ x. ReadsText read l (Ok (view x))) × IfErr r (IsFaultOf read l)

-- the answer is a value that stands for the tree
abbrev pub IsAnswered : {X A : Type 0} → (X → A) → Result X ParseFault → A → Type 0
IsAnswered {X} view r x = (y : X) × (r ≡ Ok y) × (view y ≡ x)

-- Where memory suffices, a tree is answered exactly where the text spells that tree, an error of syntax exactly where it spells
-- none, and `Lex` at the literal's place where the text has no tokens.
abbrev pub AnsweredExactly : {X A : Type 0} → (X → A) → WholeReader A → Spelling A → Type 0
AnsweredExactly {X} {A} view read Spells =
    (l : LitStrD) (r : Result X ParseFault) → MayAnswer view read l r → r ≢ Err Memory
    → ((x : A) → IsAnswered view r x ↔ TextSpells Spells l x)
    × (((e : SyntaxError) × (r ≡ Err (Syntax e))) ↔ ((x : A) → TextSpells Spells l x → ⊥))
    × (HasNoTokens l → r ≡ Err (Syntax (error Lex l.span)))

-- So an answer is a tree that the text spells, or an error where it spells none; want of memory says nothing.
abbrev pub AnswersText : {X A : Type 0} → (X → A) → Spelling A → LitStrD → Result X ParseFault → Type 0
AnswersText view Spells l (Ok y) = TextSpells Spells l (view y)
AnswersText view Spells l (Err Memory) = Unit {0}
AnswersText {X} {A} view Spells l (Err (Syntax e)) = ((x : A) → TextSpells Spells l x → ⊥) × (HasNoTokens l → e ≡ error Lex l.span)

-- a text spells at most one tree of a kind
abbrev pub TextSpelledOnce : {A : Type 0} → Spelling A → Type 0
TextSpelledOnce {A} Spells = (l : LitStrD) (x y : A) → TextSpells Spells l x → TextSpells Spells l y → x ≡ y

-- types
abbrev pub TypesAnsweredExactly : Type 0
TypesAnsweredExactly = AnsweredExactly ty type_of SpellsTy

-- paths
abbrev pub PathsAnsweredExactly : Type 0
PathsAnsweredExactly = AnsweredExactly path_view path_of SpellsPath

-- paths of expressions
abbrev pub ExprPathsAnsweredExactly : Type 0
ExprPathsAnsweredExactly = AnsweredExactly expr_path_view expr_path_of SpellsExprPath

-- predicates
abbrev pub predicate_views : Vec WherePredicate Global → List PredicateD
predicate_views v = map predicate_view v.items

abbrev pub PredicatesAnsweredExactly : Type 0
PredicatesAnsweredExactly = AnsweredExactly predicate_views predicates_of SpellsPredicates

-- lifetimes
abbrev pub lifetime_views : Vec Lifetime Global → List LifetimeD
lifetime_views v = map lifetime_view v.items

abbrev pub LifetimesAnsweredExactly : Type 0
LifetimesAnsweredExactly = AnsweredExactly lifetime_views (λ _. lifetimes_of) SpellsLifetimes

-- a text spells one tree at most, of each kind
abbrev pub TextsSpelledOnce : Type 0
TextsSpelledOnce = TextSpelledOnce SpellsTy × TextSpelledOnce SpellsPath × TextSpelledOnce SpellsExprPath × TextSpelledOnce SpellsPredicates × TextSpelledOnce SpellsLifetimes
