-- Examples of texts, by their tokens and what these are read as.
use Rattle.std.proofs.Common.{◌≡◌, ℕ, List, [], ap, sym, ◌∙◌, subst}
use Rattle.std.specs.Prelude.{Result, Ok, Err}
use Rattle.std.specs.Str.{chars}
use Rattle.token_trees.specs.Token.{Tok, toks_of, site}
use Rattle.token_trees.specs.Text.{pieces_of}
use Rattle.rust_tokens.specs.Reading.{Reads, AreWritten, IsLexed}
use Rattle.rust_tokens.proofs.Unique.{trees_are_one}
use Rattle.syntax_trees.specs.declared.cursor.SyntaxError.{SyntaxError}
use Rattle.syntax_parsers.proofs.Results.{got}
use Rattle.syntax_texts.specs.Texts.{WholeReader}
use Rattle.syntax_laws.specs.TextSpelling.{Spelling, TextSpells}
use Rattle.syntax_laws.specs.TextExamples.{literal}
use Rattle.syntax_laws.proofs.TextsExact.{IsExact}

-- the text has those tokens
abbrev pub Has : List ℕ → List Tok → Type 0
Has x ts = (chars x ≡ x) × Reads x (pieces_of ts) [] × AreWritten site (toks_of ts)

pub has_tokens : (x : List ℕ) (ts : List Tok) → Has x ts → IsLexed (chars x) site ts
has_tokens x ts h = subst (λ cs. IsLexed cs site ts) (sym h.0) (record { read = h.1; written = h.2 })

pub text_spelled : {A : Type 0} → (read : WholeReader A) (Spells : Spelling A) → IsExact read Spells → (x : List ℕ) (ts : List Tok) (t : A) → Has x ts → read site ts ≡ Ok t → TextSpells Spells (literal x) t
text_spelled read Spells exact x ts t h e = (ts, has_tokens x ts h, (exact site ts t).0 e)

err_not_ok : {A : Type 0} → (v : Result A SyntaxError) (e : SyntaxError) (t : A) → v ≡ Err e → v ≡ got t → ⊥
err_not_ok v e t h k = cc

pub text_unspelled : {A : Type 0} → (read : WholeReader A) (Spells : Spelling A) → IsExact read Spells → (x : List ℕ) (ts : List Tok) (e : SyntaxError) → Has x ts → read site ts ≡ Err e → (t : A) → TextSpells Spells (literal x) t → ⊥
text_unspelled read Spells exact x ts e h k t s =
    let same = trees_are_one (chars x) site ts s.0 (has_tokens x ts h) s.1 in
    err_not_ok (read site ts) e t k (ap (read site) same ∙ (exact site s.0 t).1 s.2)
