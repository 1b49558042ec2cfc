-- The text of a printed tree spells that tree, spans aside, and so a parser answers it.
use Rattle.std.proofs.Common.{List, map, sym, subst}
use Rattle.std.specs.Str.{chars}
use Rattle.token_trees.specs.Token.{Tok, placed}
use Rattle.rust_tokens.specs.Reading.{IsLexed}
use Rattle.syntax_parsers.specs.SpellingAside.{SameToks}
use Rattle.syntax_texts.specs.Texts.{WholeReader}
use Rattle.syntax_laws.specs.TextSpelling.{Spelling}
use Rattle.syntax_laws.specs.RoundTrip.{PrintedIsSpelledAgain, PrintedIsAnsweredAgain}
use Rattle.syntax_laws.proofs.Placing.{text_lexed, same_placed}
use Rattle.syntax_laws.proofs.TextsExact.{IsExact, answered}

-- what a printing is spelled by, and that spans are passed over
abbrev pub IsSpelledAside : {A : Type 0} → (A → Type 0) → (A → List Tok) → Spelling A → (A → A → Type 0) → Type 0
IsSpelledAside {A} IsParsed print Spells Same = (x : A) (us : List Tok) → IsParsed x → SameToks (print x) us → (y : A) × Spells us y × Same x y

pub spelled_again : {A : Type 0} → (IsParsed : A → Type 0) (print : A → List Tok) (Spells : Spelling A) (Same : A → A → Type 0)
    → IsSpelledAside IsParsed print Spells Same → PrintedIsSpelledAgain IsParsed print Spells Same
spelled_again IsParsed print Spells Same aside x l p w e =
    let ts = map (placed l.span) (print x) in
    let y = aside x ts p (same_placed l.span (print x)) in
    (y.0, (ts, subst (λ z. IsLexed (chars z) l.span ts) (sym e) (text_lexed (print x) l.span w), y.1), y.2)

pub answered_again : {X A : Type 0} → (view : X → A) (read : WholeReader A) (Spells : Spelling A) → IsExact read Spells
    → (IsParsed : A → Type 0) (print : A → List Tok) (Same : A → A → Type 0)
    → IsSpelledAside IsParsed print Spells Same → PrintedIsAnsweredAgain view read IsParsed print Same
answered_again view read Spells exact IsParsed print Same aside x l r p w e m n =
    let y = spelled_again IsParsed print Spells Same aside x l p w e in
    (y.0, ((answered view read Spells exact l r m n).0 y.0).1 y.1, y.2)
