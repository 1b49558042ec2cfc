-- What stands in the document at the place of a fault, or where a reference leads.
use Rattle.std.specs.Prelude.{ℕ, List, [], ◌++◌, codes, Option, Some, None, Bool, unwrap_or, option_and_then, if◌then◌else◌}
use Rattle.serde_json.specs.Data.{Data, null, boolean, number, string, array, object}
use Rattle.serde_json.specs.Find.{get, pointer}
use Rattle.schema_defs.specs.Location.{Location, location_text}
use Rattle.schema_defs.specs.Admits.{without_prefix}
use Rattle.fault_texts.specs.Explained.{line, whole_line}

-- ---- places

-- what a text leads to that is `#` and a JSON pointer (RFC 6901)
abbrev pub led_to : List ℕ → Data → Option Data
led_to t d = option_and_then (λ p. pointer p d) (without_prefix (codes "#") t)

abbrev pub placed : Location → Data → Option Data
placed l d = led_to (location_text l) d

-- what a keyword of a schema holds; of what is no object, or hasn't the keyword, itself
abbrev pub held : List ℕ → Data → Data
held k d = unwrap_or (get k d) d

-- ---- lines

abbrev pub kind_word : Data → List ℕ
kind_word null = codes "null"
kind_word (boolean b) = codes "a boolean"
kind_word (number n) = codes "a number"
kind_word (string s) = codes "a text"
kind_word (array ds) = codes "a list"
kind_word (object ms) = codes "an object"

-- its kind, and the value where all its numbers are whole
abbrev pub found_lines : Data → List ℕ
found_lines d = line (codes "found") (kind_word d) ++ whole_line (codes "value") d

abbrev pub lines_of : (Data → List ℕ) → Option Data → List ℕ
lines_of lines None = []
lines_of lines (Some d) = lines d

-- of what is no schema's keyword as it should be
abbrev pub held_lines : List ℕ → Option Data → List ℕ
held_lines k o = lines_of (λ d. found_lines (held k d)) o

-- the type that a schema states
abbrev pub type_lines : Option Data → List ℕ
type_lines o = lines_of (λ d. lines_of (whole_line (codes "type")) (get (codes "type") d)) o

abbrev pub reference_lines : Bool → List ℕ
reference_lines leads = line (codes "found") (if leads then codes "a value there, which is no definition of the root" else codes "nothing there")
