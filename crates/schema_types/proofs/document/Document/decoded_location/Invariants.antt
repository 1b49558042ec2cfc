use Rattle.std.proofs.Common.{◌≡◌, map, string_bytes}
use Rattle.schema_defs.specs.Location.{unescaped}
use Rattle.schema_defs.specs.Admits.{defined}
use Rattle.schema_types.specs.DocumentView.{definitions_view}
use Rattle.schema_types.proofs.document.Document.decoded_location.Given as goal

abbrev pub invariant-loop-name : goal.invariant-loop-name
invariant-loop-name l =
    defined (unescaped l.fn.escaped) (definitions_view l.fn.self.definitions.entries) ≡ defined (unescaped l.fn.escaped) (definitions_view l.name-iterator)
