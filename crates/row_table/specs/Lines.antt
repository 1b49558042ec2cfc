-- The lines of the table of conversion by their names.
use Rattle.std.specs.Prelude.{ℕ, List, [], ◌∷◌, map, get_or, false, Option}
use Rattle.schema_defs.specs.Texts.{Relations}
use Rattle.schema_defs.specs.Schema.{Document}
use Rattle.convert_defs.specs.Row.{Finding, plainly, refused_row, mix}
use Rattle.convert_defs.specs.Table as table
use Rattle.convert_defs.specs.Table.{◌⇒◌, first_line, lines}
use Rattle.row_findings.specs.declared.given.Keywords.{Keywords}
use Rattle.row_findings.specs.Given.{plain_view, same_view, lists_view, named_view}
use Rattle.type_rows.specs.Line.{line}
use Rattle.row_table.specs.declared.line.Line.{Line}
use Rattle.row_table.specs.declared.line.Line.TheVariants.{Conditional, BesideNull, Text, UntypedText, Enumerated, ConstantText, Integer, Boolean, Object, UntypedObject, Array, UntypedArray, Any, Null, Reference, ReferenceOfType, ReferenceWithOthers, Allowed, Listed, Subschema, Several, Constant, EveryType, OnlyType, OneOfTypes}

abbrev pub names : List Line
names =
    Conditional
    ∷ BesideNull
    ∷ Text
    ∷ UntypedText
    ∷ Enumerated
    ∷ ConstantText
    ∷ Integer
    ∷ Boolean
    ∷ Object
    ∷ UntypedObject
    ∷ Array
    ∷ UntypedArray
    ∷ Any
    ∷ Null
    ∷ Reference
    ∷ ReferenceOfType
    ∷ ReferenceWithOthers
    ∷ Allowed
    ∷ Listed
    ∷ Subschema
    ∷ Several
    ∷ Constant
    ∷ EveryType
    ∷ OnlyType
    ∷ OneOfTypes
    ∷ []

module _ (r : Relations) (d : Document) (k : Keywords) where
  -- the line at that place of the table
  abbrev line_at : ℕ → table.Line
  line_at i = get_or (lines r d (plain_view k) (same_view k) (lists_view k) (named_view k)) i (false ⇒ plainly (refused_row mix))

  abbrev pub line_of : Line → table.Line
  line_of Conditional = line_at 0
  line_of BesideNull = line_at 1
  line_of Text = line_at 2
  line_of UntypedText = line_at 3
  line_of Enumerated = line_at 4
  line_of ConstantText = line_at 5
  line_of Integer = line_at 6
  line_of Boolean = line_at 7
  line_of Object = line_at 8
  line_of UntypedObject = line_at 9
  line_of Array = line_at 10
  line_of UntypedArray = line_at 11
  line_of Any = line_at 12
  line_of Null = line_at 13
  line_of Reference = line_at 14
  line_of ReferenceOfType = line_at 15
  line_of ReferenceWithOthers = line_at 16
  line_of Allowed = line_at 17
  line_of Listed = line_at 18
  line_of Subschema = line_at 19
  line_of Several = line_at 20
  line_of Constant = line_at 21
  line_of EveryType = line_at 22
  line_of OnlyType = line_at 23
  line_of OneOfTypes = line_at 24

  -- what a line finds, where it fits
  abbrev pub found_by : Line → Option Finding
  found_by n = line (line_of n).fits (line_of n).finding

  -- what the first of some lines that fits finds
  abbrev pub first_of : List Line → Finding
  first_of ns = first_line (map line_of ns)
