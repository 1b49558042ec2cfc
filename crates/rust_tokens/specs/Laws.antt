-- What is said of every text.
use Rattle.std.specs.Prelude.{◌≡◌, ◌⊎◌, ℕ, List, map}
use Rattle.std.specs.Str.{chars, IsUtf8}
use Rattle.token_trees.specs.declared.token.Span.{Span}
use Rattle.token_trees.specs.Token.{Tok, placed}
use Rattle.token_trees.specs.Text.{text_of}
use Rattle.rust_tokens.specs.Reading.{IsLexed}
use Rattle.rust_tokens.specs.Faults.{IsFaulty, IsFirstFault}

-- a text that has trees has no faulty place, so that a fault is told exactly where there are no trees
abbrev pub LexedHasNoFault : Type 0
LexedHasNoFault = (cs : List ℕ) (s : Span) (ts : List Tok) (place : ℕ) → IsLexed cs s ts → IsFaulty cs place → ⊥

-- the trees that a text has are one
abbrev pub TreesAreOne : Type 0
TreesAreOne = (cs : List ℕ) (s : Span) (ts us : List Tok) → IsLexed cs s ts → IsLexed cs s us → ts ≡ us

-- and so is its first fault
abbrev pub FirstFaultIsOne : Type 0
FirstFaultIsOne = (cs : List ℕ) (place other : ℕ) → IsFirstFault cs place → IsFirstFault cs other → place ≡ other

-- each text has trees or a first fault
abbrev pub EveryTextIsTold : Type 0
EveryTextIsTold = (cs : List ℕ) (s : Span) → ((ts : List Tok) × IsLexed cs s ts) ⊎ ((place : ℕ) × IsFirstFault cs place)

-- the text of trees that a text has, spans aside, has those trees
abbrev pub PrintedIsReadAgain : Type 0
PrintedIsReadAgain = (bytes : List ℕ) (s : Span) (ts : List Tok) → IsUtf8 bytes
    → IsLexed (chars bytes) s (map (placed s) ts) → IsLexed (chars (text_of ts)) s (map (placed s) ts)
