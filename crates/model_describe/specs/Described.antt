-- Items that are described: as a table, with a stand-in for each of which something is told or that leaves the forms of the reader; what describes them, and why nothing does.
use Rattle.std.specs.Prelude.{◌≡◌, ℕ, List, [], ◌∷◌, map, Option, Some, None, if◌then◌else◌}
use Rattle.syntax_trees.specs.Item.{ItemD}
use Rattle.json_value.specs.Value.{Value, IsSmall}
use Rattle.attr_parts.specs.declared.derive.Derive.TheVariants.{Deserialize}
use Rattle.attr_parts.specs.Diagnostics.{DiagnosticD}
use Rattle.attr_defs.specs.Renames.{Meaning}
use Rattle.attr_defs.specs.Texts.{lexed}
use Rattle.container_defs.specs.Container.{ReadContainer}
use Rattle.container_defs.specs.Forms.{names_of, is_outside}
use Rattle.container_defs.specs.Reader.{reader_model, item_models}
use Rattle.derive_model.specs.Items.{private, read_of, told_of, all_told, first_outside}
use Rattle.schema_defs.specs.declared.Setting.TheVariants.{Strict}
use Rattle.schema_defs.specs.Texts.{Relations}
use Rattle.schema_defs.specs.Schema.{Document}
use Rattle.schema_defs.specs.Admits.{admits}
use Rattle.schema_defs.specs.Counts.{nodes}
use Rattle.schema_tree.specs.Document.{IsReadAs}
use Rattle.model_defs.specs.Types.{TypeModel}
use Rattle.model_defs.specs.Model.{ContainerModel, ConversionsD}
use Rattle.model_defs.specs.Reads.{reads}
use Rattle.plain_defs.specs.Plain.{IsPlain}
use Rattle.describe_defs.specs.Plain.{IsPlainTable}
use Rattle.describe_defs.specs.NotPlain.{outside_item, why_not_plain}
use Rattle.model_describe.specs.declared.errors.DescribeError.{DescribeError}
use Rattle.model_describe.specs.declared.errors.DescribeError.TheVariants.{Memory, NotPlain}

-- no rule changes a name
abbrev pub as_it_stands : Meaning
as_it_stands = λ r n. n

-- ---- items as a table

abbrev pub unless_told : List DiagnosticD → Option ReadContainer → Option ReadContainer
unless_told [] o = o
unless_told (d ∷ ds) o = None

-- what is read for Deserialize, where nothing is told of the item for either derive
abbrev pub untold : ItemD → Option ReadContainer
untold i = unless_told (told_of as_it_stands as_it_stands i) (read_of as_it_stands as_it_stands i)

module _ (names : List (List ℕ)) (conversions : ConversionsD) where
  abbrev pub inside_or : List ℕ → ReadContainer → ContainerModel
  inside_or n c = if is_outside names conversions c then outside_item n else reader_model c

  abbrev pub model_or : List ℕ → Option ReadContainer → ContainerModel
  model_or n None = outside_item n
  model_or n (Some c) = inside_or n c

  abbrev pub described_model : ItemD → ContainerModel
  described_model i = model_or i.name.text (untold i)

abbrev pub described_models : ConversionsD → List ItemD → List ContainerModel
described_models conversions is = map (described_model (names_of is) conversions) is

-- ---- plain items

-- what is read of items for Deserialize, unions left out
abbrev pub models_in : List ItemD → List ContainerModel
models_in is = item_models lexed as_it_stands as_it_stands private Deserialize is

-- nothing is told of the items for either derive, they are within the forms of the reader, and with the root they are a plain table
pub record IsPlainItems (conversions : ConversionsD) (is : List ItemD) (root : TypeModel) : Type 0 where
  pub told : all_told as_it_stands as_it_stands is ≡ []
  pub inside : first_outside as_it_stands as_it_stands conversions is ≡ None
  pub plain : IsPlainTable (models_in is) conversions root

-- ---- descriptions

-- The value is read under the strict setting as a document, which no fault keeps from being read and in which no walk returns to its start at one value. The document
-- is plain at its own count of schemas, and admits exactly the small values that the type reads by the items.
pub record IsDescription (conversions : ConversionsD) (is : List ItemD) (root : TypeModel) (v : Value) : Type 0 where
  pub document : Document
  pub read : IsReadAs Strict v document
  pub plain : IsPlain document (nodes document)
  pub exact : (relations : Relations) (w : Value) → IsSmall w → admits relations document w document.root ≡ reads (models_in is) conversions relations root w

-- want of memory, or what is told of the table
abbrev pub IsTold : Option (Option ℕ) → DescribeError → Type 0
IsTold why Memory = Unit {0}
IsTold why (NotPlain o) = why ≡ Some o

-- want of memory; or the items with the root aren't plain, and the first item at which they fail is told, or none where the root does
abbrev pub IsRefused : ConversionsD → List ItemD → TypeModel → DescribeError → Type 0
IsRefused conversions is root Memory = Unit {0}
IsRefused conversions is root (NotPlain o) = (why_not_plain (described_models conversions is) conversions root ≡ Some o) × (IsPlainItems conversions is root → ⊥)
