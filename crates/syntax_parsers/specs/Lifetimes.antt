-- Lifetimes between `+`: which tokens spell them, and how they are read.
use Rattle.std.specs.Prelude.{◌≡◌, ◌⊎◌, ◌↔◌, ◌&&◌, ℕ, List, [], ◌∷◌, Result, Ok, Err, cond}
use Rattle.token_trees.specs.declared.token.Span.{Span}
use Rattle.token_trees.specs.declared.token.Spacing.{Spacing}
use Rattle.token_trees.specs.declared.token.Spacing.TheVariants.{Joint}
use Rattle.token_trees.specs.Token.{Tok, word, mark, fixed, group, Name, span_of}
use Rattle.syntax_trees.specs.Syntax.{LifetimeD}
use Rattle.syntax_trees.specs.Metas.{is_sign, is_joint_sign, is_word}
use Rattle.syntax_trees.specs.declared.cursor.SyntaxKind.TheVariants.{ExpectedLifetime, ExpectedPlus}
use Rattle.syntax_trees.specs.declared.cursor.SyntaxError.{SyntaxError}
use Rattle.syntax_parsers.specs.Answer.{error, ◌>>=◌, with_front}

-- one character, whatever its spacing and place
abbrev pub IsSign : ℕ → Tok → Type 0
IsSign c t = (j : Spacing) × (s : Span) × (t ≡ mark c j s)

-- the quote, which belongs to the name behind it, and the name
abbrev pub IsLifetime : LifetimeD → Tok → Tok → Type 0
IsLifetime l t u = (t ≡ mark 39 Joint l.span) × (u ≡ word l.name.text l.name.span)

-- with a `+` between any two, and one more behind the last where you like
abbrev mutual
  pub SpellsLifetimes : List Tok → List LifetimeD → Type 0
  SpellsLifetimes ts [] = ts ≡ []
  SpellsLifetimes ts (l ∷ ls) = (t u : Tok) × (rest : List Tok) × (ts ≡ t ∷ u ∷ rest) × IsLifetime l t u × SpellsBehind rest ls

  pub SpellsBehind : List Tok → List LifetimeD → Type 0
  SpellsBehind ts [] = (ts ≡ []) ⊎ ((t : Tok) × (ts ≡ t ∷ []) × IsSign 43 t)
  SpellsBehind ts (l ∷ ls) = (t u v : Tok) × (rest : List Tok) × (ts ≡ t ∷ u ∷ v ∷ rest) × IsSign 43 t × IsLifetime l u v × SpellsBehind rest ls

abbrev pub name_of : Tok → Name
name_of (word x s) = record { text = x; span = s }
name_of (mark c j s) = record { text = []; span = s }
name_of (fixed l s) = record { text = []; span = s }
name_of (group d us s) = record { text = []; span = s }

-- the lifetime that two tokens are
abbrev pub one_lifetime : Tok → Tok → Result LifetimeD SyntaxError
one_lifetime t u = cond (is_joint_sign 39 t && is_word u) (Ok (record { name = name_of u; span = span_of t })) (Err (error ExpectedLifetime (span_of t)))

-- The lifetimes, or the token where a lifetime or a `+` is missing.
abbrev pub lifetimes_of : List Tok → Result (List LifetimeD) SyntaxError
lifetimes_of [] = Ok []
lifetimes_of (t ∷ []) = Err (error ExpectedLifetime (span_of t))
lifetimes_of (t ∷ u ∷ []) = one_lifetime t u >>= λ l. Ok (l ∷ [])
lifetimes_of (t ∷ u ∷ v ∷ ts) = one_lifetime t u >>= λ l. cond (is_sign 43 v) (with_front (l ∷ []) (lifetimes_of ts)) (Err (error ExpectedPlus (span_of v)))

-- exactly those lifetimes are read that the tokens spell
abbrev pub ReadAsSpelled : Type 0
ReadAsSpelled = (ts : List Tok) (ls : List LifetimeD) → (lifetimes_of ts ≡ Ok ls) ↔ SpellsLifetimes ts ls

-- tokens spell at most one list of lifetimes
abbrev pub SpelledOnce : Type 0
SpelledOnce = (ts : List Tok) (ls ms : List LifetimeD) → SpellsLifetimes ts ls → SpellsLifetimes ts ms → ls ≡ ms
