-- From the law for trees whose whole printing some text has, the law for trees whose parts are such.
use Rattle.std.proofs.Common.{List}
use Rattle.token_trees.specs.Token.{Tok}
use Rattle.syntax_texts.specs.Texts.{WholeReader}
use Rattle.syntax_laws.specs.RoundTrip.{AreOfText, PrintedIsSpelledAgain, PrintedIsAnsweredAgain}
use Rattle.syntax_laws.specs.TextSpelling.{Spelling}
use Rattle.printing_laws.specs.FromParts.{IsSpelledAgain, IsAnsweredAgain}

pub spelled_whole : {A : Type 0} → (IsParsed HasParts : A → Type 0) (print : A → List Tok) (Spells : Spelling A) (Same : A → A → Type 0)
    → ((x : A) → HasParts x → AreOfText (print x)) → PrintedIsSpelledAgain IsParsed print Spells Same → IsSpelledAgain (λ x. IsParsed x × HasParts x) print Spells Same
spelled_whole IsParsed HasParts print Spells Same texts again x l h e = again x l h.0 (texts x h.1) e

pub answered_whole : {X A : Type 0} → (view : X → A) (read : WholeReader A) (IsParsed HasParts : A → Type 0) (print : A → List Tok) (Same : A → A → Type 0)
    → ((x : A) → HasParts x → AreOfText (print x)) → PrintedIsAnsweredAgain view read IsParsed print Same → IsAnsweredAgain view read (λ x. IsParsed x × HasParts x) print Same
answered_whole view read IsParsed HasParts print Same texts again x l r h e m n = again x l r h.0 (texts x h.1) e m n
