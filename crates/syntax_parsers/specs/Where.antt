-- How the predicates of a `where` clause are read.
use Rattle.std.specs.Prelude.{ℕ, zero, suc, List, [], ◌∷◌, Result, Ok}
use Rattle.token_trees.specs.declared.token.Span.{Span}
use Rattle.token_trees.specs.Token.{Tok}
use Rattle.syntax_trees.specs.Syntax.{LifetimeD}
use Rattle.syntax_trees.specs.Item.{PredicateD, predicate_ty, predicate_lifetime}
use Rattle.syntax_trees.specs.declared.cursor.SyntaxKind.TheVariants.{ExpectedComma, UnexpectedToken}
use Rattle.syntax_trees.specs.declared.cursor.SyntaxError.{SyntaxError}
use Rattle.syntax_parsers.specs.Answer.{◌>>=◌, with_front}
use Rattle.syntax_parsers.specs.Fronts.{sign_front, lifetime_front, colon_front}
use Rattle.syntax_parsers.specs.Grammar.{Readers, Reader, choose, missing, required}

-- lifetimes with a `+` between any two, and one more behind the last where you like
unfoldable pub lifetimes_body : (List Tok → List LifetimeD × List Tok) → List Tok → List LifetimeD × List Tok
lifetimes_body more ts =
    choose (lifetime_front ts)
    (λ l. choose (sign_front 43 l.1) (λ rest. let ls = more rest in (l.0 ∷ ls.0, ls.1)) (l.0 ∷ [], l.1))
    ([], ts)

-- the same, as far as so many lifetimes go
unfoldable pub some_lifetimes : ℕ → List Tok → List LifetimeD × List Tok
some_lifetimes zero ts = ([], ts)
some_lifetimes (suc n) ts = lifetimes_body (some_lifetimes n) ts

-- `'a: 'b + 'c`, or `T: A + 'a`
unfoldable pub lifetime_predicate : ℕ → LifetimeD → Reader PredicateD
lifetime_predicate n l at ts =
    required (colon_front ts) UnexpectedToken at ts >>= λ rest. let ls = some_lifetimes n rest in Ok (predicate_lifetime l ls.0, ls.1)

unfoldable pub type_predicate : Readers → Reader PredicateD
type_predicate r at ts =
    r.ty at ts >>= λ t. required (colon_front t.1) UnexpectedToken at t.1 >>= λ rest.
    r.bounds at rest >>= λ bs. Ok (predicate_ty t.0 bs.0, bs.1)

unfoldable pub predicate_body : ℕ → Readers → Reader PredicateD
predicate_body n r at ts = choose (lifetime_front ts) (λ l. lifetime_predicate n l.0 at l.1) (type_predicate r at ts)

-- behind a predicate: the end, or a comma and more
unfoldable pub behind_predicate : (List Tok → Result (List PredicateD) SyntaxError) → PredicateD → Span → List Tok → Result (List PredicateD) SyntaxError
behind_predicate more p at [] = Ok (p ∷ [])
behind_predicate more p at (t ∷ ts) = required (sign_front 44 (t ∷ ts)) ExpectedComma at (t ∷ ts) >>= λ rest. with_front (p ∷ []) (more rest)

unfoldable pub predicates_body : ℕ → Readers → (List Tok → Result (List PredicateD) SyntaxError) → Span → List Tok → Result (List PredicateD) SyntaxError
predicates_body n r more at [] = Ok []
predicates_body n r more at (t ∷ ts) = predicate_body n r at (t ∷ ts) >>= λ p. behind_predicate more p.0 at p.1

-- all tokens as predicates with a comma between any two, and one more behind the last where you like; so many predicates at most
unfoldable pub some_predicates : ℕ → ℕ → Readers → Span → List Tok → Result (List PredicateD) SyntaxError
some_predicates zero n r at ts = missing UnexpectedToken at ts
some_predicates (suc m) n r at ts = predicates_body n r (some_predicates m n r at) at ts
