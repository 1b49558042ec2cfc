-- A line of the table: its finding, where it fits.
use Rattle.std.specs.Prelude.{Bool, Option, Some, None, List, [], ◌∷◌, if◌then◌else◌}
use Rattle.std.specs.declared.alloc.Global.{Global}
use Rattle.std.specs.declared.boxed.Box.{Box}
use Rattle.schema_defs.specs.declared.InstanceType.{InstanceType}
use Rattle.schema_defs.specs.Schema.{Plain, Lists, Named}
use Rattle.schema_defs.specs.Texts.{Relations}
use Rattle.convert_defs.specs.Row.{Finding, VariantRow}
use Rattle.convert_defs.specs.Table.{Line, type_among, type_variant}
use Rattle.row_findings.specs.View.{finding_view}
use Rattle.row_findings.specs.declared.finding.Finding as findings

abbrev pub line : Bool → Finding → Option Finding
line fits finding = if fits then Some finding else None

abbrev pub sooner : Option Finding → Option Finding → Option Finding
sooner None o = o
sooner (Some f) o = Some f

-- what the first of the lines that fits finds
abbrev pub first_found : List Line → Option Finding
first_found [] = None
first_found (l ∷ []) = line l.fits l.finding
first_found (l ∷ m ∷ ls) = sooner (line l.fits l.finding) (first_found (m ∷ ls))

-- the variant of a type, where it is among the types
abbrev pub variant_if : Plain → Lists → Named → InstanceType → List VariantRow
variant_if p ls ns k = if type_among k p.types then type_variant p ls ns k ∷ [] else []

-- what a line hands on
abbrev pub held_view : Relations → Box findings.Finding Global → Finding
held_view r b = finding_view r b.value
