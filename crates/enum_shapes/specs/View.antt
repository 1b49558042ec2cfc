-- What the shapes of the program stand for.
use Rattle.std.specs.Prelude.{List, map, Option, option_map}
use Rattle.enum_defs.specs.Shapes as defs
use Rattle.schema_types.specs.View.{schema_view, members_view, named_of}
use Rattle.enum_shapes.specs.declared.cases.Case.{Case}
use Rattle.enum_shapes.specs.declared.object.ObjectShape.{ObjectShape}
use Rattle.enum_shapes.specs.declared.internal.InternalCase.{InternalCase}
use Rattle.enum_shapes.specs.declared.internal.InternalShape.{InternalShape}
use Rattle.enum_shapes.specs.declared.adjacent.AdjacentShape.{AdjacentShape}

abbrev pub case_view : Case → defs.Case
case_view c = record { name = c.name.now; content = option_map (λ s. schema_view s.now) c.content; closed = c.closed }

abbrev pub shape_view : ObjectShape → defs.ObjectShape
shape_view o = record { object = named_of (option_map (λ m. members_view m.now) o.object); closed = o.closed }

abbrev pub internal_case_view : InternalCase → defs.InternalCase
internal_case_view c = record { name = c.name.now; object = members_view c.object.now; closed = c.closed }

abbrev pub internal_view : InternalShape → defs.InternalShape
internal_view s = record { tag = s.tag.now; cases = map internal_case_view s.cases.items }

abbrev pub adjacent_view : AdjacentShape → defs.AdjacentShape
adjacent_view s = record { tag = s.tag.now; content = s.content.now; cases = map case_view s.cases.items }
