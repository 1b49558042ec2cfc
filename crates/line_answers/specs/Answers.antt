-- The answers to the lines of a stream: `line`, the line's number, and what is said of it.
use Rattle.std.specs.Prelude.{ℕ, suc, List, [], ◌∷◌, ◌++◌, codes, decimal}
use Rattle.json.specs.Print.{quoted}
use Rattle.serde_json.specs.Data.{Data}
use Rattle.serde_json.specs.Written.{compact_text}
use Rattle.schema_defs.specs.Location.{Location, location_text}

-- the line is too long; it isn't JSON; at that place it has a number that isn't an i64; it is taken, and written back as that value; or it is refused, where
-- reading stops
pub data AnswerD : Type 0 where
  long : AnswerD
  not_json : AnswerD
  wide : Location → AnswerD
  taken : Data → AnswerD
  refused : Location → AnswerD

-- a place as a JSON string
abbrev pub place_text : Location → List ℕ
place_text l = quoted (location_text l)

-- a value that is taken is written back as JSON without spaces, members in the order of their names
abbrev pub said_of : AnswerD → List ℕ
said_of long = codes " long"
said_of not_json = codes " not-json"
said_of (wide l) = codes " number " ++ place_text l
said_of (taken d) = codes " taken " ++ compact_text d
said_of (refused l) = codes " refused " ++ place_text l

abbrev pub answer_line : ℕ → AnswerD → List ℕ
answer_line i a = codes "line " ++ decimal i ++ said_of a ++ 10 ∷ []

-- lines are counted from i
abbrev pub answer_lines : ℕ → List AnswerD → List ℕ
answer_lines i [] = []
answer_lines i (a ∷ rest) = answer_line i a ++ answer_lines (suc i) rest
