-- The lines that explain a fault: the line that `check` prints, what it carries, the rule, and what to change.
use Rattle.std.specs.Prelude.{ℕ, List, [], ◌++◌, codes, decimal, string_bytes, if◌then◌else◌}
use Rattle.std.specs.List.{flat_map}
use Rattle.json.specs.Print.{quoted}
use Rattle.serde_json.specs.Data.{Data}
use Rattle.serde_json.specs.View.{view}
use Rattle.serde_json.specs.Written.{compact_text}
use Rattle.json_value.specs.Value.{is_whole}
use Rattle.json_value.specs.View.{value_of}
use Rattle.schema_defs.specs.Location.{Location, location_text}
use Rattle.schema_tree.specs.Fault.{fault_line, fault_view}
use Rattle.schema_tree.specs.declared.fault.Fault.{Fault}
use Rattle.schema_tree.specs.declared.fault.Fault.TheVariants as variant
use Rattle.fault_texts.specs.Sentences.{invalid_word, unsupported_word, rule_of, change_of}

-- a word, what is said with it, and a line feed
abbrev pub line : List ℕ → List ℕ → List ℕ
line word said = word ++ codes " " ++ said ++ codes "\n"

-- a text as a JSON string
abbrev pub quoted_line : List ℕ → List ℕ → List ℕ
quoted_line word t = line word (quoted t)

abbrev pub place_line : List ℕ → Location → List ℕ
place_line word l = quoted_line word (location_text l)

abbrev pub step_lines : List Location → List ℕ
step_lines ls = flat_map (place_line (codes "step")) ls

-- a value as JSON without spaces, where all its numbers are whole
abbrev pub whole_line : List ℕ → Data → List ℕ
whole_line word d = if is_whole (value_of d) then line word (compact_text d) else []

-- what a fault carries beside its place: the keyword, the reference, the steps of the walk, the value, the number of places, or the kind
abbrev pub carried : Fault → List ℕ
carried variant.Memory = []
carried (variant.Malformed path keyword) = quoted_line (codes "keyword") (string_bytes keyword)
carried (variant.MissingRef path name) = quoted_line (codes "reference") (string_bytes name)
carried (variant.ExternalRef path name) = quoted_line (codes "reference") (string_bytes name)
carried (variant.Unguarded walk) = step_lines walk
carried (variant.Depth walk) = step_lines walk
carried (variant.Places path n) = line (codes "places") (decimal n)
carried (variant.Float path) = []
carried (variant.ValueNumber index path) = []
carried (variant.InvalidValue path v) = whole_line (codes "value") (view v)
carried (variant.BadValue path v) = whole_line (codes "value") (view v)
carried (variant.InvalidSchema path kind) = line (codes "kind") (invalid_word kind)
carried (variant.Unsupported path kind) = line (codes "kind") (unsupported_word kind)
carried (variant.Texts path) = []

abbrev pub fault_explained : Fault → List ℕ
fault_explained f = fault_line (fault_view f) ++ carried f ++ line (codes "rule") (rule_of (fault_view f)) ++ line (codes "change") (change_of (fault_view f))
