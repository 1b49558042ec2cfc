-- What holds of documents that were read, and of the places that are told of values.
use Rattle.std.specs.Prelude.{◌≡◌, ◌↔◌, ℕ, List, [], ◌∷◌, ◌++◌, Bool, Some, None, IsSome, Contains, codes}
use Rattle.json_value.specs.Value.{Value, text, IsSmall}
use Rattle.schema_defs.specs.declared.Setting.{Setting}
use Rattle.schema_defs.specs.Location.{Location}
use Rattle.schema_defs.specs.Schema.{Schema, Document}
use Rattle.schema_defs.specs.Read.{reading, document_of}
use Rattle.schema_defs.specs.Admits.{target}
use Rattle.schema_defs.specs.Children.{reference_of, schema_at}
use Rattle.schema_faults.specs.Schemas.{Node, schemas_of}
use Rattle.schema_faults.specs.Faults.{Place, Told, told_of, reference_places, bad_references}
use Rattle.distinct_names.specs.Names.{NamesDiffer}
use Rattle.schema_laws.specs.ValueAt.{value_at}

-- each reference of the document leads to the root or to a definition
abbrev pub EachReferenceLeads : Document → Type 0
EachReferenceLeads d = (l : Location) (s : Schema) (q : List ℕ) → schema_at d l ≡ Some s → reference_of s ≡ Some q → IsSome (target d q)

-- whatever the setting: where a value has no bad reference, each reference of the document that it is read as has a target there
abbrev pub ReferencesAreResolved : Type 0
ReferencesAreResolved = (setting : Setting) (v : Value) (d : Document) → document_of setting v ≡ Some d → bad_references v ≡ [] → EachReferenceLeads d

-- each schema of a value stands where its steps lead
abbrev pub SchemasStand : Type 0
SchemasStand = (v : Value) → NamesDiffer v → (n : Node) → Contains (schemas_of v) n → value_at n.steps v ≡ Some n.value

-- the text is told of the value that stands at the place, held by some keyword
abbrev pub IsToldThere : Told → Value → Place → Type 0
IsToldThere f v p = (w : Value) × (value_at p.0 v ≡ Some w) × ((at_root : Bool) × (k : List ℕ) × Contains (f at_root k w) p.1)

-- malformed places, bad references, floats and whatever else is told of the schemas of a value: each is told of what stands there
abbrev pub ToldPlacesStand : Type 0
ToldPlacesStand = (f : Told) (v : Value) → NamesDiffer v → (p : Place) → Contains (told_of f v) p → IsToldThere f v p

-- at the place of a reference its text stands, be it a bad one or not
abbrev pub HasReference : Value → Place → Type 0
HasReference v p = value_at (p.0 ++ codes "$ref" ∷ []) v ≡ Some (text p.1)

pub record ReferencesStand : Type 0 where
  pub all : (v : Value) → NamesDiffer v → (p : Place) → Contains (reference_places v) p → HasReference v p
  pub bad : (v : Value) → NamesDiffer v → (p : Place) → Contains (bad_references v) p → HasReference v p

-- the names of a small value differ
abbrev pub SmallNamesDiffer : Type 0
SmallNamesDiffer = (v : Value) → IsSmall v → NamesDiffer v

-- ---- the document that is read

-- at the steps of the schema the document has it, as it is read
abbrev pub IsReadThere : Document → Node → Type 0
IsReadThere d n = (s : Schema) × (schema_at d n.steps ≡ Some s) × ((reading n.value).as_schema ≡ Some s)

-- each schema of a value stands at its steps in the document that the value is read as
abbrev pub SchemasAreRead : Type 0
SchemasAreRead = (setting : Setting) (v : Value) (d : Document) → document_of setting v ≡ Some d → NamesDiffer v → (n : Node) → Contains (schemas_of v) n → IsReadThere d n

-- and whatever schema stands at a location of the document is what the value there is read as
abbrev pub LocationsAreRead : Type 0
LocationsAreRead =
    (setting : Setting) (v : Value) (d : Document) → document_of setting v ≡ Some d → (l : Location) (s : Schema) → schema_at d l ≡ Some s
    → (w : Value) × (value_at l v ≡ Some w) × ((reading w).as_schema ≡ Some s)

-- the document has that reference there
abbrev pub RefersThere : Document → Place → Type 0
RefersThere d p = (s : Schema) × (schema_at d p.0 ≡ Some s) × (reference_of s ≡ Some p.1)

-- each reference that is told is one of the document, and those that are bad have no target
pub record ReferencesAreRead (v : Value) (d : Document) : Type 0 where
  pub all : (p : Place) → Contains (reference_places v) p → RefersThere d p
  pub bad : (p : Place) → Contains (bad_references v) p → RefersThere d p × (target d p.1 ≡ None)
  pub none_is_bad : (bad_references v ≡ []) ↔ EachReferenceLeads d

abbrev pub ToldReferencesAreRead : Type 0
ToldReferencesAreRead = (setting : Setting) (v : Value) (d : Document) → document_of setting v ≡ Some d → NamesDiffer v → ReferencesAreRead v d
