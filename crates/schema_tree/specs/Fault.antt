-- What a fault tells, and the line that is printed for it.
use Rattle.std.specs.Prelude.{ℕ, List, [], ◌∷◌, ◌++◌, codes, decimal, string_bytes}
use Rattle.json.specs.Print.{quoted}
use Rattle.serde_json.specs.View.{view}
use Rattle.json_value.specs.Value.{Value}
use Rattle.json_value.specs.View.{value_of}
use Rattle.schema_defs.specs.Location.{Location, location_text}
use Rattle.locations.specs.Walk.{first_of_walk, last_of_walk}
use Rattle.schema_tree.specs.declared.fault.InvalidKind.{InvalidKind}
use Rattle.schema_tree.specs.declared.fault.UnsupportedKind.{UnsupportedKind}
use Rattle.schema_tree.specs.declared.fault.Fault.{Fault}
use Rattle.schema_tree.specs.declared.fault.Fault.TheVariants as variant

pub data FaultD : Type 0 where
  memory : FaultD
  malformed : Location → List ℕ → FaultD
  missing_ref : Location → List ℕ → FaultD
  external_ref : Location → List ℕ → FaultD
  unguarded : List Location → FaultD
  depth : List Location → FaultD
  places : Location → ℕ → FaultD
  float : Location → FaultD
  value_number : ℕ → Location → FaultD
  invalid_value : Location → Value → FaultD
  bad_value : Location → Value → FaultD
  invalid_schema : Location → InvalidKind → FaultD
  unsupported : Location → UnsupportedKind → FaultD
  texts : Location → FaultD

abbrev pub fault_view : Fault → FaultD
fault_view variant.Memory = memory
fault_view (variant.Malformed path keyword) = malformed path (string_bytes keyword)
fault_view (variant.MissingRef path name) = missing_ref path (string_bytes name)
fault_view (variant.ExternalRef path name) = external_ref path (string_bytes name)
fault_view (variant.Unguarded walk) = unguarded walk
fault_view (variant.Depth walk) = depth walk
fault_view (variant.Places path n) = places path n
fault_view (variant.Float path) = float path
fault_view (variant.ValueNumber index path) = value_number index path
fault_view (variant.InvalidValue path v) = invalid_value path (value_of (view v))
fault_view (variant.BadValue path v) = bad_value path (value_of (view v))
fault_view (variant.InvalidSchema path kind) = invalid_schema path kind
fault_view (variant.Unsupported path kind) = unsupported path kind
fault_view (variant.Texts path) = texts path

-- `fault`, the fault's name, and the place as a JSON string, with a line feed
abbrev pub line_at : List ℕ → Location → List ℕ
line_at name path = codes "fault " ++ (name ++ (32 ∷ (quoted (location_text path) ++ (10 ∷ []))))

-- want of memory has no line of its own
abbrev pub fault_line : FaultD → List ℕ
fault_line memory = []
fault_line (malformed path keyword) = line_at (codes "Malformed") path
fault_line (missing_ref path name) = line_at (codes "MissingRef") path
fault_line (external_ref path name) = line_at (codes "ExternalRef") path
fault_line (unguarded walk) = line_at (codes "Unguarded") (first_of_walk walk)
fault_line (depth walk) = line_at (codes "Depth") (last_of_walk walk)
fault_line (places path n) = line_at (codes "Places") path
fault_line (float path) = line_at (codes "Float") path
fault_line (value_number i path) = line_at (codes "ValueNumber " ++ decimal i) path
fault_line (invalid_value path v) = line_at (codes "InvalidValue") path
fault_line (bad_value path v) = line_at (codes "BadValue") path
fault_line (invalid_schema path kind) = line_at (codes "InvalidSchema") path
fault_line (unsupported path kind) = line_at (codes "Unsupported") path
fault_line (texts path) = line_at (codes "Texts") path
