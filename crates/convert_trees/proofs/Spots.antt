-- The schema of a part.
use Rattle.std.proofs.Common.{◌≡◌, refl}
use Rattle.schema_defs.specs.Location.{Location}
use Rattle.schema_defs.specs.Schema.{Schema}
use Rattle.convert_walks.specs.Spot.{part_schema}
use Rattle.row_findings.specs.declared.part.Part.{Part as CodePart}
use Rattle.row_findings.specs.declared.part.PartKind.{PartKind}
use Rattle.row_findings.specs.declared.part.PartKind.TheVariants as kinds
use Rattle.row_findings.specs.Given.{source_view}
use Rattle.row_findings.specs.View.{part_by, part_view, steps_view}

by_kind : (k : PartKind) (l : Location) (s : Schema) → part_schema (part_by k l s) ≡ s
by_kind kinds.Child l s = refl
by_kind kinds.OfBranch l s = refl
by_kind kinds.Lone l s = refl
by_kind kinds.Made l s = refl

pub schema_of_part : (p : CodePart) → part_schema (part_view p) ≡ source_view p.source
schema_of_part p = by_kind p.kind (steps_view p.steps) (source_view p.source)
