-- Members of lists of schemas.
use Rattle.std.specs.Prelude.{List, [], ◌∷◌, map, filter, not, Bool, false, Option, Some, None}
use Rattle.schema_defs.specs.Location.{place}
use Rattle.schema_types.specs.View.{schema_view}
use Rattle.enum_defs.specs.Shapes.{external_shape, is_null_schema, ObjectShape}
use Rattle.convert_defs.specs.Row.{VariantRow, Note, narrowed, widened, open_branch_note, string_note}
use Rattle.convert_defs.specs.Table.{has_text_keywords}
use Rattle.convert_defs.specs.Shapes as shapes
use Rattle.convert_defs.specs.Shapes.{case_rows}
use Rattle.row_findings.specs.View.{keyword_view}
use Rattle.member_rows.specs.declared.members.Member.{Member}

abbrev pub member_view : Member → shapes.Member
member_view m = (keyword_view m.keyword ∷ place m.index ∷ [], schema_view m.schema.now)

-- the variants of a member by itself
abbrev pub own_rows : shapes.Member → List VariantRow
own_rows m = case_rows m.0 (external_shape (m.1 ∷ []))

abbrev pub open_note : shapes.Member → Note
open_note m = record { way = narrowed; kind = open_branch_note; place = m.0 }

abbrev pub ruled_note : shapes.Member → Note
ruled_note m = record { way = widened; kind = string_note; place = m.0 }

abbrev pub is_closed_shape : Option ObjectShape → Bool
is_closed_shape None = false
is_closed_shape (Some o) = o.closed

-- a note for each member with keywords of texts
abbrev pub ruled_branches : List shapes.Member → List Note
ruled_branches ms = map ruled_note (filter (λ m. has_text_keywords m.1) ms)

-- no null schema
abbrev pub is_other : shapes.Member → Bool
is_other m = not (is_null_schema m.1)
