-- Completeness: plain documents are converted without a note and without a fault.
use Rattle.std.specs.Prelude.{◌≡◌, ℕ, ◌*◌, ◌≤◌, ◌&&◌, not, List, [], ◌∷◌, Bool, true, Option, Some, None, is_some}
use Rattle.std.specs.List.{list_any}
use Rattle.schema_defs.specs.Location.{Location}
use Rattle.schema_defs.specs.Texts.{Relations}
use Rattle.schema_defs.specs.declared.InstanceType.TheVariants.{Number}
use Rattle.schema_defs.specs.Schema.{Types, one_type, many_types, Schema, boolean, object, Document}
use Rattle.schema_defs.specs.Admits.{target, is_root_reference}
use Rattle.schema_defs.specs.Children.{schema_at}
use Rattle.enum_defs.specs.Words.{same_type}
use Rattle.schema_defs.specs.Counts.{nodes}
use Rattle.convert_walks.specs.Told.{Reason, by_levels, notes_of, faults_of}
use Rattle.plain_defs.specs.Rows.{rows_within, definition_row}
use Rattle.plain_defs.specs.Plain.{has_rows, IsPlain}
use Rattle.plain_laws.specs.Height.{document_height}

-- no fault but that there are too few levels, which the program answers as want of memory
abbrev pub AllByLevels : List (Location × Reason) → Type 0
AllByLevels [] = Unit {0}
AllByLevels (f ∷ fs) = (f.1 ≡ by_levels) × AllByLevels fs

-- whatever the judge of texts, where walks may have as many steps as the document is plain at, by so many levels as one likes
abbrev pub PlainIsUnnoted : Type 0
PlainIsUnnoted = (r : Relations) (d : Document) (depth most n : ℕ) → IsPlain d depth → depth ≤ most → notes_of r d most n ≡ []

abbrev pub PlainIsFaultless : Type 0
PlainIsFaultless = (r : Relations) (d : Document) (depth most n : ℕ) → IsPlain d depth → depth ≤ most → AllByLevels (faults_of r d most n)

-- ---- levels

-- what is plain by n levels is plain by more
pub record StaysPlain (d : Document) (n m : ℕ) (s : Schema) : Type 0 where
  pub row : (rows_within d n).row s ≡ true → (rows_within d m).row s ≡ true
  pub nullable : (rows_within d n).nullable s ≡ true → (rows_within d m).nullable s ≡ true
  pub object : (rows_within d n).object s ≡ true → (rows_within d m).object s ≡ true
  pub definition : definition_row d n s ≡ true → definition_row d m s ≡ true

abbrev pub RowsAreKept : Type 0
RowsAreKept = (d : Document) (n m : ℕ) (s : Schema) → n ≤ m → StaysPlain d n m s

abbrev pub PlainIsKept : Type 0
PlainIsKept = (d : Document) (n m : ℕ) → n ≤ m → IsPlain d n → IsPlain d m

-- the least of them is the number of its schemas
abbrev pub PlainAtNodes : Type 0
PlainAtNodes = (d : Document) (n : ℕ) → IsPlain d n → IsPlain d (nodes d)

-- as many levels as schemas stand in one another are enough
abbrev pub RowsByHeight : Type 0
RowsByHeight = (d : Document) (n m : ℕ) → document_height d ≤ m → has_rows d n ≡ true → has_rows d m ≡ true

-- where no more than `tall` schemas stand in one another, no walk has more steps, and twice as many levels are enough: then there is no fault at all
abbrev pub PlainIsConverted : Type 0
PlainIsConverted = (r : Relations) (d : Document) (depth tall most n : ℕ) → IsPlain d depth → document_height d ≤ tall → tall ≤ most → 2 * tall ≤ n → faults_of r d most n ≡ []

-- ---- what stands in a plain document

abbrev pub refers : Document → Option (List ℕ) → Bool
refers d None = true
refers d (Some q) = not (is_root_reference q) && is_some (target d q)

abbrev pub names_no_number : Option Types → Bool
names_no_number None = true
names_no_number (Some (one_type k)) = not (same_type Number k)
names_no_number (Some (many_types ks)) = not (list_any (same_type Number) ks)

-- its reference, where it has one, leads to a definition, and it has no type `number`
abbrev pub is_sound : Document → Schema → Bool
is_sound d (boolean b) = true
is_sound d (object p ss ls ns) = refers d p.reference && names_no_number p.types

-- so it is at each location: no reference is bad, and no type is a float
abbrev pub PlainIsSound : Type 0
PlainIsSound = (d : Document) (depth : ℕ) → IsPlain d depth → (l : Location) (s : Schema) → schema_at d l ≡ Some s → is_sound d s ≡ true
