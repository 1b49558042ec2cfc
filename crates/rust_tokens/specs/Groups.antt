-- What has been read of a text, while some of its groups are still open.
use Rattle.std.specs.Prelude.{◌≡◌, ◌≢◌, ◌≤◌, ℕ, List, [], ◌∷◌, ◌++◌, Option, Some, None, map, length, drop}
use Rattle.std.specs.Str.{skip_leading_whitespace}
use Rattle.token_trees.specs.declared.token.Span.{Span}
use Rattle.token_trees.specs.declared.token.Delimiter.{Delimiter}
use Rattle.token_trees.specs.declared.token.Delimiter.TheVariants.{None as hidden}
use Rattle.token_trees.specs.Token.{Tok, group, toks_of}
use Rattle.token_trees.specs.View.{stream}
use Rattle.token_trees.specs.Text.{Piece, opens, closes, pieces_of}
use Rattle.rust_tokens.specs.declared.groups.OpenGroup.{OpenGroup}
use Rattle.rust_tokens.specs.declared.groups.Groups.{Groups}
use Rattle.rust_tokens.specs.Front.{front}
use Rattle.rust_tokens.specs.Reading.{Reads, AreWritten}
use Rattle.rust_tokens.specs.Faults.{Seen, Sees, open_after, IsWrong}

-- a group that is open: its bracket, and the trees before that
pub record Level : Type 0 where
  pub delimiter : Delimiter
  pub before : List Tok

abbrev pub level : OpenGroup → Level
level g = record { delimiter = g.delimiter; before = stream g.before }

-- the open groups, the outermost first
abbrev pub levels : Groups → List Level
levels g = map level g.unclosed.items

-- the trees of the innermost one so far
abbrev pub inner_trees : Groups → List Tok
inner_trees g = stream g.trees

-- the tokens up to the last opening bracket
abbrev pub opened : List Level → List Piece
opened [] = []
opened (l ∷ ls) = pieces_of l.before ++ opens l.delimiter ∷ opened ls

-- the bracket of the innermost open group
abbrev pub innermost : List Level → Option Delimiter
innermost [] = None
innermost (l ∷ []) = Some l.delimiter
innermost (l ∷ m ∷ ls) = innermost (m ∷ ls)

-- the brackets of all, the innermost first, before those that were open already
abbrev pub brackets : List Level → List Delimiter → List Delimiter
brackets [] held = held
brackets (l ∷ ls) held = brackets ls (l.delimiter ∷ held)

-- how many characters are left at the outermost opening bracket, once another is open
abbrev pub first_left : List Level → ℕ → ℕ → ℕ
first_left [] first left = left
first_left (l ∷ ls) first left = first

abbrev pub AreOpen : Span → List Level → Type 0
AreOpen s [] = Unit {0}
AreOpen s (l ∷ ls) = (l.delimiter ≢ hidden) × AreWritten s (toks_of l.before) × AreOpen s ls

abbrev pub IsFirst : List ℕ → List Level → ℕ → Type 0
IsFirst cs [] n = Unit {0}
IsFirst cs (l ∷ ls) n = (rest : List ℕ) × Reads cs (pieces_of l.before) rest × (length rest ≡ n)

-- of the characters cs those before `rest` were read, to those open groups and trees
pub record HasRead (cs : List ℕ) (s : Span) (ls : List Level) (ts : List Tok) (first : ℕ) (rest : List ℕ) : Type 0 where
  pub read : Reads cs (opened ls ++ pieces_of ts) rest
  pub open_groups : AreOpen s ls
  pub written : AreWritten s (toks_of ts)
  pub outermost : IsFirst cs ls first

-- wherever that token stands at the front, `left` characters before the end, reading it leads from the groups to the new ones
abbrev pub Advances : Piece → ℕ → Span → List Level → List Tok → ℕ → List Level → List Tok → ℕ → Type 0
Advances x left s ls ts first ms us next =
    (rest : List ℕ) (n : ℕ) → length rest ≡ left → front rest ≡ Some (x, n)
    → (cs : List ℕ) → HasRead cs s ls ts first rest → HasRead cs s ms us next (skip_leading_whitespace (drop n rest))

-- no token follows that can stand there
pub data IsStuck (ls : List Level) (rest : List ℕ) : Type 0 where
  no_front : front rest ≡ None → IsStuck ls rest
  wrong_bracket : (d : Delimiter) (n : ℕ) → front rest ≡ Some (closes d, n) → (innermost ls ≡ Some d → ⊥) → IsStuck ls rest

-- wherever that token stands at the front, it doesn't fit
abbrev pub Refuses : Piece → List Level → Type 0
Refuses x ls = (rest : List ℕ) (n : ℕ) → front rest ≡ Some (x, n) → IsStuck ls rest

-- the innermost group is closed and stands among the trees before it
pub record Closes (d : Delimiter) (s : Span) (old : List Level) (inner : List Tok) (new : List Level) (trees : List Tok) : Type 0 where
  pub before : List Tok
  pub was : old ≡ new ++ record { delimiter = d; before = before } ∷ []
  pub now : trees ≡ before ++ group d (toks_of inner) s ∷ []

-- all those brackets, the innermost first, are closed in what follows
pub record AreClosed (held : List Delimiter) (rest : List ℕ) : Type 0 where
  pub passed : List Seen
  pub after : List ℕ
  pub sees : Sees rest passed after
  pub none_open : open_after passed held ≡ []

-- So many characters are left from the first fault on, where those brackets are open, what stands at the front of rest
-- doesn't fit, and `first` are left at the outermost bracket: that bracket is the fault, unless all are closed later.
pub data IsLeftAtFault (held : List Delimiter) (rest : List ℕ) (first left : ℕ) : Type 0 where
  all_closed : AreClosed held rest → left ≡ length rest → IsLeftAtFault held rest first left
  one_unclosed : (AreClosed held rest → ⊥) → left ≡ first → IsLeftAtFault held rest first left

-- the first fault, by the number of characters from there on
pub record FaultLeft (cs : List ℕ) (left : ℕ) : Type 0 where
  pub before : List Seen
  pub rest : List ℕ
  pub sees : Sees cs before rest
  pub wrong : IsWrong (open_after before []) rest
  pub length_is : length rest ≡ left
  pub least : (xs : List Seen) (other : List ℕ) → Sees cs xs other → IsWrong (open_after xs []) other → length other ≤ left
