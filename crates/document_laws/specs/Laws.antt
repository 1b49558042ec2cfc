-- Documents that were read: what conversion asks of a document holds of each; and what a table with names is.
use Rattle.std.specs.Prelude.{◌≡◌, ℕ, ◌<◌, ◌^◌, true, Some}
use Rattle.std.specs.List.{AllByRecursion}
use Rattle.json_value.specs.Value.{Value}
use Rattle.schema_defs.specs.declared.Setting.{Setting}
use Rattle.schema_defs.specs.Schema.{ListRules, Document}
use Rattle.schema_tree.specs.Document.{IsReadAs}
use Rattle.distinct_names.specs.Names.{NamesDiffer}
use Rattle.entry_defs.specs.Table.{Table, items_of}
use Rattle.entry_defs.specs.Sound.{IsSound}
use Rattle.naming_defs.specs.Good.{is_good_name}
use Rattle.naming_defs.specs.Laws.{ShapeIsGood}
use Rattle.convert_defs.specs.Proper.{AllAreProper, IsProperDocument}

-- a document that a value is read as, no name standing twice in an object of the value
pub record WasRead (d : Document) : Type 0 where
  pub setting : Setting
  pub value : Value
  pub read : IsReadAs setting value d
  pub differ : NamesDiffer value

abbrev pub DocumentsAreProper : Type 0
DocumentsAreProper = (d : Document) → WasRead d → IsProperDocument d

-- fewer places than 2^32 are asked of a list
abbrev pub AsksForFew : ListRules → Type 0
AsksForFew rules = (n : ℕ) → rules.min_items ≡ Some n → n < 2 ^ 32

abbrev pub DocumentsAreSized : Type 0
DocumentsAreSized = (d : Document) → WasRead d → AllAreProper AsksForFew d

-- items' names differ, references lead to items, no item reaches itself at one value; and each name, of an item, a field or a variant, is good and none twice in a container
pub record IsPlan (t : Table) : Type 0 where
  pub sound : IsSound t
  pub named : AllByRecursion (λ i. (is_good_name i.name ≡ true) × ShapeIsGood is_good_name i.shape) (items_of t)
