-- What is said of a fault by what stands in the document.
use Rattle.std.specs.Prelude.{List, ℕ, [], Option, is_some, string_bytes}
use Rattle.serde_json.specs.Data.{Data}
use Rattle.schema_tree.specs.declared.fault.InvalidKind.{InvalidKind}
use Rattle.schema_tree.specs.declared.fault.InvalidKind.TheVariants.{Array, Pattern}
use Rattle.schema_tree.specs.declared.fault.Fault.{Fault}
use Rattle.schema_tree.specs.declared.fault.Fault.TheVariants as variant
use Rattle.fault_places.specs.Found.{placed, led_to, lines_of, held_lines, type_lines, reference_lines}
use Rattle.fault_places.specs.Stops.{schema_lines}

abbrev pub kind_lines : InvalidKind → Option Data → List ℕ
kind_lines Array o = []
kind_lines Pattern o = lines_of schema_lines o

-- what a malformed keyword holds, what a reference leads to, the type that doesn't read a value, and where reading a pattern stops
abbrev pub place_lines : Data → Fault → List ℕ
place_lines d (variant.Malformed path keyword) = held_lines (string_bytes keyword) (placed path d)
place_lines d (variant.MissingRef path name) = reference_lines (is_some (led_to (string_bytes name) d))
place_lines d (variant.InvalidValue path v) = type_lines (placed path d)
place_lines d (variant.BadValue path v) = type_lines (placed path d)
place_lines d (variant.InvalidSchema path kind) = kind_lines kind (placed path d)
place_lines d _ = []
