-- The items that are emitted for a table keep their tokens in a module.
use Rattle.std.specs.Prelude.{◌≡◌, ℕ, List, map, true, false, ⊤}
use Rattle.std.specs.List.{AllByRecursion}
use Rattle.std.specs.Str.{IsUtf8}
use Rattle.token_trees.specs.Text.{pieces_of}
use Rattle.syntax_trees.specs.Item.{ItemD, item_view}
use Rattle.syntax_trees.specs.declared.item.DeriveInput.{DeriveInput}
use Rattle.rust_syntax.specs.PrintItem.{print_item}
use Rattle.tidy_laws.specs.Laws.{HasTokens}
use Rattle.model_defs.specs.Model.{TagModel, external_tag, internal_tag, adjacent_tag, untagged}
use Rattle.entry_defs.specs.Entry.{Entry, Contents, unit_contents, newtype_contents, tuple_contents, struct_contents, FieldEntry, VariantEntry, Shape, struct_shape, enum_shape, newtype_shape, fields_of, variants_of}
use Rattle.entry_defs.specs.Table.{Table, items_of}
use Rattle.emit_defs.specs.Emission.{emission}
use Rattle.emit_defs.specs.Formed.{IsEmittable}
use Rattle.module_laws.specs.Shown.{shown_item}
use Rattle.module_laws.specs.Laws.{declared_text}

-- ---- names that items have in JSON are in UTF-8

abbrev pub FieldsAreTexts : List FieldEntry → Type 0
FieldsAreTexts fs = AllByRecursion (λ f. IsUtf8 f.name) fs

abbrev pub ContentsAreTexts : Contents → Type 0
ContentsAreTexts unit_contents = ⊤
ContentsAreTexts (newtype_contents e) = ⊤
ContentsAreTexts (tuple_contents es) = ⊤
ContentsAreTexts (struct_contents fs) = FieldsAreTexts (fields_of fs)

abbrev pub VariantIsText : VariantEntry → Type 0
VariantIsText w = IsUtf8 w.name × ContentsAreTexts w.contents

abbrev pub TagIsText : TagModel → Type 0
TagIsText external_tag = ⊤
TagIsText (internal_tag t) = IsUtf8 t
TagIsText (adjacent_tag t c) = IsUtf8 t × IsUtf8 c
TagIsText untagged = ⊤

abbrev pub ShapeIsText : Shape → Type 0
ShapeIsText (struct_shape closed fs) = FieldsAreTexts (fields_of fs)
ShapeIsText (enum_shape closed tag ws) = TagIsText tag × AllByRecursion VariantIsText (variants_of ws)
ShapeIsText (newtype_shape e rule) = ⊤

-- ---- the law

-- the tokens of its declaration are those that it is shown as, and those are the printing's, but for `pub` and the last comma
pub record KeepsTokens (i : ItemD) : Type 0 where
  pub tokens : HasTokens (declared_text i) (pieces_of (shown_item true false i))
  pub printing : shown_item false true i ≡ print_item i

abbrev pub EmittedItemsKeepTokens : Type 0
EmittedItemsKeepTokens = (t : Table) → IsEmittable t → AllByRecursion (λ i. ShapeIsText i.shape) (items_of t) → (e : Entry) → AllByRecursion KeepsTokens (emission t e).items

-- items of a program, whose texts are in UTF-8: so of the table's names nothing is asked
abbrev pub ItemsOfProgramsKeepTokens : Type 0
ItemsOfProgramsKeepTokens = (t : Table) → IsEmittable t → (e : Entry) → (items : List DeriveInput) → map item_view items ≡ (emission t e).items → AllByRecursion KeepsTokens (map item_view items)
