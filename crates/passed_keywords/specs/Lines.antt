-- The lines of some schemas of a document, seen from a place in it.
use Rattle.std.specs.Prelude.{ℕ, List, [], ◌++◌, map, Bool, if◌then◌else◌}
use Rattle.std.specs.Borrow.{Bor}
use Rattle.std.specs.List.{flat_map}
use Rattle.schema_defs.specs.Location.{Location}
use Rattle.json_value.specs.Value.{Members}
use Rattle.schema_faults.specs.declared.keyword.Holds.{Holds}
use Rattle.schema_faults.specs.Schemas.{Node, held_members, nodes_of}
use Rattle.schema_faults.specs.Table.{row_of}
use Rattle.schema_faults.specs.Faults.{Place, told_among}
use Rattle.passed_keywords.specs.Passed.{has_name, passed_at, passed_line}

-- a place behind that one
abbrev pub behind : Location → Place → Place
behind l p = (l ++ p.0, p.1)

abbrev pub lines_of : Location → List Node → List ℕ
lines_of l ns = flat_map passed_line (map (behind l) (told_among passed_at ns))

-- the line of a name, where the members have it
abbrev pub name_lines : Members → Location → List ℕ → List ℕ
name_lines ms l n = if has_name ms n then passed_line (l, n) else []

-- the lines of what a row of the table holds
abbrev pub row_lines : Location → Bool → Members → (Bor (List ℕ) × Holds) → List ℕ
row_lines l at_root ms r = lines_of l (nodes_of at_root (held_members ms) (row_of r))
