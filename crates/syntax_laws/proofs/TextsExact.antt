-- Where a reader reads exactly what tokens spell, a parser of texts answers exactly what texts spell.
use Rattle.std.proofs.Common.{◌≡◌, ◌+◌, ◌*◌, ◌<◌, List, refl, ap, sym, ◌∙◌, subst, inl, inr, arith}
use Rattle.std.specs.Prelude.{◌↔◌, Result, Ok, Err}
use Rattle.std.specs.Str.{chars}
use Rattle.token_trees.specs.declared.token.Span.{Span}
use Rattle.token_trees.specs.Token.{Tok}
use Rattle.rust_tokens.specs.Reading.{IsLexed}
use Rattle.rust_tokens.proofs.Exact.{lexed_has_no_fault}
use Rattle.rust_tokens.proofs.Unique.{trees_are_one}
use Rattle.syntax_trees.specs.Syntax.{LitStrD}
use Rattle.syntax_trees.specs.declared.cursor.SyntaxKind.TheVariants.{Lex}
use Rattle.syntax_trees.specs.declared.cursor.SyntaxError.{SyntaxError}
use Rattle.syntax_parsers.specs.declared.fault.ParseFault.{ParseFault}
use Rattle.syntax_parsers.specs.declared.fault.ParseFault.TheVariants.{Memory, Syntax}
use Rattle.syntax_parsers.specs.Answer.{error}
use Rattle.syntax_parsers.specs.Fronts.{weight}
use Rattle.syntax_parsers.specs.Lifetimes.{SpellsLifetimes, lifetimes_of}
use Rattle.syntax_parsers.specs.SpellingForm.{SpellsTy, SpellsPath, SpellsExprPath}
use Rattle.syntax_parsers.specs.Whole.{type_of, path_of, expr_path_of}
use Rattle.syntax_parsers.proofs.Results.{got, ok_same}
use Rattle.syntax_parsers.proofs.Spelled.{read_spelled, spelled_read}
use Rattle.syntax_parsers.proofs.spelling.Exact.{ty_exact, path_exact, expr_path_exact}
use Rattle.syntax_texts.specs.Texts.{WholeReader, ReadsText, HasNoTokens}
use Rattle.syntax_laws.specs.TextSpelling.{Spelling, TextSpells, MayAnswer, AnsweredExactly, AnswersText, TextSpelledOnce}

-- a reader reads exactly what tokens spell
abbrev pub IsExact : {A : Type 0} → WholeReader A → Spelling A → Type 0
IsExact {A} read Spells = (at : Span) (ts : List Tok) (x : A) → (read at ts ≡ Ok x) ↔ Spells ts x

pub no_tokens : (l : LitStrD) (ts : List Tok) → IsLexed (chars l.text) l.span ts → HasNoTokens l → ⊥
no_tokens l ts h n = lexed_has_no_fault (chars l.text) l.span ts n.0 h n.1.faulty

reads_once : {A : Type 0} → (read : WholeReader A) (l : LitStrD) (x y : Result A SyntaxError) → ReadsText read l x → ReadsText read l y → x ≡ y
reads_once read l x y h k = sym h.2 ∙ ap (read l.span) (trees_are_one (chars l.text) l.span h.0 k.0 h.1 k.1) ∙ k.2

reads_spelled : {A : Type 0} → (read : WholeReader A) (Spells : Spelling A) → IsExact read Spells → (l : LitStrD) (x : A) → ReadsText read l (Ok x) ↔ TextSpells Spells l x
reads_spelled read Spells exact l x = (
  λ h. (h.0, h.1, (exact l.span h.0 x).0 h.2),
  λ h. (h.0, h.1, (exact l.span h.0 x).1 h.2),
)

pub ok_not_err : {A : Type 0} → (x : A) (e : SyntaxError) → Err e ≡ got x → ⊥
ok_not_err x e q = cc

abbrev answer : {X : Type 0} → X → Result X ParseFault
answer x = Ok x

abbrev pub fault : {X : Type 0} → ParseFault → Result X ParseFault
fault {X} e = Err e

answer_same : {X : Type 0} → (x y : X) → answer x ≡ answer y → x ≡ y
answer_same x y e = cc

fault_no_answer : {X : Type 0} → (e : ParseFault) (y : X) → fault e ≡ answer y → ⊥
fault_no_answer e y q = cc

pub answer_no_fault : {X : Type 0} → (x : X) (e : ParseFault) → answer x ≡ fault e → ⊥
answer_no_fault x e q = cc

pub answered : {X A : Type 0} → (view : X → A) (read : WholeReader A) (Spells : Spelling A) → IsExact read Spells → AnsweredExactly view read Spells
answered {X} {A} view read Spells exact l (Ok y) m n = (
  λ x. (
    λ h. subst (TextSpells Spells l) (ap view (answer_same y h.0 h.1) ∙ h.2) spelled,
    λ h. (y, refl, ok_same (view y) x (reads_once read l (Ok (view y)) (Ok x) m.0 ((reads_spelled read Spells exact l x).1 h))),
  ),
  (λ h. absurd (answer_no_fault y (Syntax h.0) h.1), λ h. absurd (h (view y) spelled)),
  λ h. absurd (no_tokens l m.0.0 m.0.1 h),
)
  where
    spelled : TextSpells Spells l (view y)
    spelled = (reads_spelled read Spells exact l (view y)).0 m.0
answered {X} {A} view read Spells exact l (Err Memory) m n = absurd (n refl)
answered {X} {A} view read Spells exact l (Err (Syntax e)) m n = (
  λ x. (λ h. absurd (fault_no_answer (Syntax e) h.0 h.1), λ h. absurd (unspelled x h)),
  (λ h. unspelled, λ h. (e, refl)),
  no_lex,
)
  where
    unspelled : (x : A) → TextSpells Spells l x → ⊥
    unspelled x h = elim m.1 [
      | inl k ↦ ok_not_err x e (reads_once read l (Err e) (Ok x) k ((reads_spelled read Spells exact l x).1 h))
      | inr k ↦ no_tokens l h.0 h.1 k.0
    ]

    no_lex : HasNoTokens l → fault {X = X} (Syntax e) ≡ Err (Syntax (error Lex l.span))
    no_lex h = elim m.1 [
      | inl k ↦ absurd (no_tokens l k.0 k.1 h)
      | inr k ↦ ap (λ z. fault (Syntax z)) k.1
    ]

pub no_memory : {X : Type 0} → (e : SyntaxError) → fault {X = X} (Syntax e) ≡ Err Memory → ⊥
no_memory e q = cc

pub syntax_same : {X : Type 0} → (e f : SyntaxError) → fault {X = X} (Syntax e) ≡ Err (Syntax f) → e ≡ f
syntax_same e f q = cc

pub answers_text : {X A : Type 0} → (view : X → A) (read : WholeReader A) (Spells : Spelling A) → IsExact read Spells
    → (l : LitStrD) (r : Result X ParseFault) → MayAnswer view read l r → AnswersText view Spells l r
answers_text view read Spells exact l (Ok y) m = (reads_spelled read Spells exact l (view y)).0 m.0
answers_text view read Spells exact l (Err Memory) m = tt
answers_text {X} {A} view read Spells exact l (Err (Syntax e)) m =
    let h = answered view read Spells exact l (Err (Syntax e)) m (no_memory {X = X} e) in
    (h.1.0 (e, refl), λ k. syntax_same {X = X} e (error Lex l.span) (h.2 k))

pub spelled_once : {A : Type 0} → (read : WholeReader A) (Spells : Spelling A) → IsExact read Spells → TextSpelledOnce Spells
spelled_once read Spells exact l x y h k = ok_same x y (reads_once read l (Ok x) (Ok y) ((reads_spelled read Spells exact l x).1 h) ((reads_spelled read Spells exact l y).1 k))

-- each reader is given room enough

pub types_exact : IsExact type_of SpellsTy
unfolding type_of
types_exact at ts t = let m : 3 * weight ts < 3 * weight ts + 3 = omega arith in ty_exact (3 * weight ts + 3) at ts t m

pub paths_exact : IsExact path_of SpellsPath
unfolding path_of
paths_exact at ts p = let m : 3 * weight ts < 3 * weight ts + 3 = omega arith in path_exact (3 * weight ts + 3) at ts p m

pub expr_paths_exact : IsExact expr_path_of SpellsExprPath
unfolding expr_path_of
expr_paths_exact at ts p = let m : 3 * weight ts < 3 * weight ts + 3 = omega arith in expr_path_exact (3 * weight ts + 3) at ts p m

pub lifetimes_exact : IsExact (λ _. lifetimes_of) SpellsLifetimes
lifetimes_exact at ts ls = (read_spelled ts ls, spelled_read ts ls)
