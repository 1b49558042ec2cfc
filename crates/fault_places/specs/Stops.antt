-- Where reading stops of patterns that aren't plain.
use Rattle.std.specs.Prelude.{ℕ, List, [], ◌++◌, ◌==◌, length, codes, decimal, Option, Some, None, if◌then◌else◌}
use Rattle.json.specs.Print.{quoted}
use Rattle.serde_json.specs.Data.{Data, string, object, Members, no_members, member}
use Rattle.serde_json.specs.Find.{get}
use Rattle.fault_texts.specs.Explained.{line, quoted_line}
use Rattle.fault_places.specs.Found.{lines_of}
use Rattle.plain_patterns.specs.Ends.{stop_of}

-- how many characters were read, and what stands next
abbrev pub before_next : ℕ → List ℕ → List ℕ
before_next n next = codes "stops at character " ++ decimal n ++ codes ", before " ++ quoted next

abbrev pub stop_said : ℕ → List ℕ → List ℕ
stop_said n next = if length next == 0 then codes "stops at the end, where a group is open" else before_next n next

abbrev pub lines_by : List ℕ → Option (ℕ × List ℕ) → List ℕ
lines_by p None = []
lines_by p (Some s) = quoted_line (codes "pattern") p ++ line (codes "reading") (stop_said s.0 s.1)

-- the pattern, and where reading it stops; nothing of one that is plain
abbrev pub pattern_lines : List ℕ → List ℕ
pattern_lines p = lines_by p (stop_of p)

-- of a text
abbrev pub text_lines : Data → List ℕ
text_lines (string p) = pattern_lines p
text_lines _ = []

-- of each name
abbrev pub names_lines : Members → List ℕ
names_lines no_members = []
names_lines (member k v ms) = pattern_lines k ++ names_lines ms

-- of each name of an object
abbrev pub object_lines : Data → List ℕ
object_lines (object ms) = names_lines ms
object_lines _ = []

-- of a schema: its `pattern`, and the names in its `patternProperties`
abbrev pub schema_lines : Data → List ℕ
schema_lines d = lines_of text_lines (get (codes "pattern") d) ++ lines_of object_lines (get (codes "patternProperties") d)
