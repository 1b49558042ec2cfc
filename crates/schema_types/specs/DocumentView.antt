-- The document that a document of the program stands for.
use Rattle.std.specs.Prelude.{List, map, Bool, String, string_bytes}
use Rattle.std.specs.declared.alloc.Global.{Global}
use Rattle.schema_defs.specs.Schema as defs
use Rattle.schema_defs.specs.Schema.{Schema}
use Rattle.schema_types.specs.View.{schema_view}
use Rattle.schema_types.specs.declared.document.Definition.{Definition}
use Rattle.schema_types.specs.declared.document.Document.{Document}

abbrev pub definition_view : String Global × Definition → defs.Definition
definition_view e = record { name = string_bytes e.0; under_defs = e.1.under_defs; body = schema_view e.1.schema }

abbrev pub definitions_view : List (String Global × Definition) → List defs.Definition
definitions_view es = map definition_view es

abbrev pub document_view : Document → defs.Document
document_view d = record { setting = d.setting; root = schema_view d.root; definitions = definitions_view d.definitions.entries }

-- the keyword that a definition stands under, and its schema
abbrev pub Placed : Type 0
Placed = Bool × Schema

abbrev pub placed_view : Definition → Placed
placed_view d = (d.under_defs, schema_view d.schema)

abbrev pub placed_of : defs.Definition → Placed
placed_of e = (e.under_defs, e.body)
