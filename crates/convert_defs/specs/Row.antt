-- What the first row that fits makes of one schema. A part is a schema that the row converts: a child, by the steps to it; a child of a branch;
-- a lone member, which stands in the place of the schema; or a schema made in its place.
use Rattle.std.specs.Prelude.{ℕ, zero, suc, List, [], ◌∷◌, ◌++◌, Bool, Option, Some, None}
use Rattle.schema_defs.specs.Location.{Location}
use Rattle.schema_defs.specs.Schema.{Schema}
use Rattle.model_defs.specs.Model.{TagModel, RuleD}
use Rattle.entry_defs.specs.Entry.{Entry, State}

pub data Way : Type 0 where
  narrowed : Way
  widened : Way

pub data NoteKind : Type 0 where
  untyped_note : NoteKind
  null_note : NoteKind
  const_note : NoteKind
  integer_note : NoteKind
  string_note : NoteKind
  array_note : NoteKind
  open_branch_note : NoteKind
  mixed_branches_note : NoteKind
  tag_alone_note : NoteKind
  boolean_note : NoteKind
  type_note : NoteKind
  overlap_note : NoteKind
  counts_note : NoteKind
  names_note : NoteKind
  not_note : NoteKind

-- `place` is the steps from the schema to where the note stands
pub record Note : Type 0 where
  pub way : Way
  pub kind : NoteKind
  pub place : Location

-- why a schema is not converted
pub data Cause : Type 0 where
  conditional : Cause
  mix : Cause
  mixed_enum : Cause
  nested_enum : Cause
  bad_not : Cause
  names : Cause
  places : Cause
  bad_value : Cause
  bad_array : Cause
  bad_pattern : Cause
  too_deep : Cause

pub data Part : Type 0 where
  child : Location → Schema → Part
  of_branch : Location → Schema → Part
  lone : Location → Schema → Part
  made : Schema → Part

-- `nullable` says that null may stand for the member's absence
pub record FieldRow : Type 0 where
  pub name : List ℕ
  pub part : Part
  pub state : State
  pub nullable : Bool

-- The members of an object that `properties` does not name: the names among them that `required` lists, the one part that they are converted to,
-- and whether a field keeps the rest of them.
pub record OutsideRow : Type 0 where
  pub names : List (List ℕ)
  pub part : Part
  pub keeps_rest : Bool

pub data VariantBody : Type 0 where
  unit_body : VariantBody
  part_body : Part → VariantBody
  fields_body : List FieldRow → VariantBody

pub record VariantRow : Type 0 where
  pub name : List ℕ
  pub body : VariantBody

-- whether an enum is closed: by its shape, or where a struct in it is closed
pub data Closing : Type 0 where
  by_shape : Bool → Closing
  by_contents : Closing

pub data Row : Type 0 where
  leaf_row : Entry → Row
  as_it_is_row : Part → Row
  option_row : Part → Row
  ruled_row : Part → RuleD → Row
  vec_row : Part → Row
  set_row : Part → Row
  array_row : Part → ℕ → Row
  -- the places that are listed, and then so many of the one part
  tuple_row : List Part → ℕ → Part → Row
  map_row : Part → Part → Row
  pattern_map_row : List (List ℕ) → Part → Row
  struct_row : Bool → List FieldRow → Option OutsideRow → Row
  enum_row : TagModel → Closing → List VariantRow → Row
  merged_row : List Part → Row
  refused_row : Cause → Row

-- a row, with the notes of the schema that it converts, the patterns that are asked first, the members that are branches, and the number of places
-- of a list that is shorter than its sizes, or 0
pub record Finding : Type 0 where
  pub row : Row
  pub notes : List Note
  pub patterns : List (List ℕ)
  pub branches : List (Location × Schema)
  pub places : ℕ

abbrev pub noted : List Note → Row → Finding
noted ns w = record { row = w; notes = ns; patterns = []; branches = []; places = 0 }

abbrev pub plainly : Row → Finding
plainly w = noted [] w

abbrev pub add_notes : List Note → Finding → Finding
add_notes ns f = record f { notes = ns ++ f.notes }

abbrev pub asking : List (List ℕ) → Finding → Finding
asking qs f = record f { patterns = qs }

abbrev pub branching : List (Location × Schema) → Finding → Finding
branching ms f = record f { branches = ms }

abbrev pub filling : ℕ → Finding → Finding
filling n f = record f { places = n }

abbrev pub here : Way → NoteKind → Note
here w k = record { way = w; kind = k; place = [] }

-- ---- the parts that a row converts, in the order of conversion

abbrev pub field_parts : List FieldRow → List Part
field_parts [] = []
field_parts (f ∷ fs) = f.part ∷ field_parts fs

abbrev pub outside_parts : Option OutsideRow → List Part
outside_parts None = []
outside_parts (Some o) = o.part ∷ []

-- one part, where there is a place of it
abbrev pub further_parts : ℕ → Part → List Part
further_parts zero p = []
further_parts (suc n) p = p ∷ []

abbrev pub body_parts : VariantBody → List Part
body_parts unit_body = []
body_parts (part_body p) = p ∷ []
body_parts (fields_body fs) = field_parts fs

abbrev pub variants_parts : List VariantRow → List Part
variants_parts [] = []
variants_parts (w ∷ ws) = body_parts w.body ++ variants_parts ws

abbrev pub row_parts : Row → List Part
row_parts (leaf_row e) = []
row_parts (as_it_is_row p) = p ∷ []
row_parts (option_row p) = p ∷ []
row_parts (ruled_row p rule) = p ∷ []
row_parts (vec_row p) = p ∷ []
row_parts (set_row p) = p ∷ []
row_parts (array_row p n) = p ∷ []
row_parts (tuple_row ps n p) = ps ++ further_parts n p
row_parts (map_row k p) = k ∷ p ∷ []
row_parts (pattern_map_row qs p) = p ∷ []
row_parts (struct_row closed fs o) = field_parts fs ++ outside_parts o
row_parts (enum_row tag closing ws) = variants_parts ws
row_parts (merged_row ps) = []
row_parts (refused_row c) = []
