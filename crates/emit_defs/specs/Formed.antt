-- Tables as conversion makes them: what emission asks of each item, beside that the table is sound and names are good.
use Rattle.std.specs.Prelude.{◌≡◌, ◌<◌, ◌^◌, ℕ, not, List, length, Bool, true, false, Option, Some, None, ⊤, bytes_eq}
use Rattle.std.specs.List.{list_all, AllByRecursion}
use Rattle.model_defs.specs.Model.{TagModel, external_tag, internal_tag, adjacent_tag, untagged, RuleD, text_rule, allow_rule, deny_rule}
use Rattle.entry_defs.specs.Entry.{Target, Entry, text_entry, option_entry, vec_entry, set_entry, map_entry, tuple_entry, array_entry, Entries, no_entries, entry_then, entry_again, Shape, struct_shape, enum_shape, newtype_shape, Fields, no_fields, field_then, field_again, rest_field, Rest, no_rest, rest, rest_of, Variants, no_variants, variant_then, Contents, unit_contents, newtype_contents, tuple_contents, struct_contents, entries_of, fields_of}
use Rattle.entry_defs.specs.Table.{Table, items_of}
use Rattle.entry_defs.specs.Sound.{Each, EachInShape, IsSound}
use Rattle.naming_defs.specs.Good.{is_good_name}
use Rattle.naming_defs.specs.Names.{named_table}
use Rattle.naming_defs.specs.Laws.{ShapeIsGood}

abbrev pub HasOne : Entries → Type 0
HasOne no_entries = ⊥
HasOne (entry_then e es) = ⊤
HasOne (entry_again es) = ⊤

abbrev pub HasTwo : Entries → Type 0
HasTwo no_entries = ⊥
HasTwo (entry_then e es) = HasOne es
HasTwo (entry_again es) = HasOne es

-- a tuple has a place, and the length of an array is a u64; an item that is inside is looked at by itself
abbrev mutual
  pub EntryIsFormed : Entry → Type 0
  EntryIsFormed (option_entry e) = EntryIsFormed e
  EntryIsFormed (vec_entry e) = EntryIsFormed e
  EntryIsFormed (set_entry e) = EntryIsFormed e
  EntryIsFormed (map_entry k e) = EntryIsFormed k × EntryIsFormed e
  EntryIsFormed (tuple_entry es) = HasOne es × EntriesAreFormed es
  EntryIsFormed (array_entry e n) = (n < 2 ^ 64) × EntryIsFormed e
  EntryIsFormed _ = ⊤

  pub EntriesAreFormed : Entries → Type 0
  EntriesAreFormed no_entries = ⊤
  EntriesAreFormed (entry_then e es) = EntryIsFormed e × EntriesAreFormed es
  EntriesAreFormed (entry_again es) = EntriesAreFormed es

abbrev pub FieldsAreFormed : Fields → Type 0
FieldsAreFormed no_fields = ⊤
FieldsAreFormed (field_then i n e s fs) = EntryIsFormed e × FieldsAreFormed fs
FieldsAreFormed (field_again i n fs) = FieldsAreFormed fs
FieldsAreFormed (rest_field i e) = EntryIsFormed e

-- no field has the name
abbrev pub Lacks : List ℕ → Fields → Type 0
Lacks n fs = list_all (λ f. not (bytes_eq f.name n)) (fields_of fs) ≡ true

-- a rest stands in an open struct, and no field has its name
abbrev pub RestFits : Bool → Fields → Rest → Type 0
RestFits closed fs no_rest = ⊤
RestFits closed fs (rest i e) = (closed ≡ false) × Lacks i fs

-- a tuple has two places or more, fewer than a u64 counts, and a struct no rest
abbrev pub ContentsAreFormed : Contents → Type 0
ContentsAreFormed unit_contents = ⊤
ContentsAreFormed (newtype_contents e) = EntryIsFormed e
ContentsAreFormed (tuple_contents es) = HasTwo es × (length (entries_of es) < 2 ^ 64) × EntriesAreFormed es
ContentsAreFormed (struct_contents fs) = (rest_of fs ≡ no_rest) × FieldsAreFormed fs

-- beside an internal tag stand fields of other names, or none
abbrev pub StandsBeside : List ℕ → Contents → Type 0
StandsBeside tag unit_contents = ⊤
StandsBeside tag (newtype_contents e) = ⊥
StandsBeside tag (tuple_contents es) = ⊥
StandsBeside tag (struct_contents fs) = Lacks tag fs

abbrev pub StandBeside : List ℕ → Variants → Type 0
StandBeside tag no_variants = ⊤
StandBeside tag (variant_then i n c ws) = StandsBeside tag c × StandBeside tag ws

abbrev pub TagFits : TagModel → Variants → Type 0
TagFits external_tag ws = ⊤
TagFits (internal_tag t) ws = StandBeside t ws
TagFits (adjacent_tag t c) ws = bytes_eq t c ≡ false
TagFits untagged ws = ⊤

abbrev pub VariantsAreFormed : Variants → Type 0
VariantsAreFormed no_variants = ⊤
VariantsAreFormed (variant_then i n c ws) = ContentsAreFormed c × VariantsAreFormed ws

-- a rule for texts stands at texts
abbrev pub RuleFits : Entry → Option RuleD → Type 0
RuleFits text_entry (Some (text_rule t)) = ⊤
RuleFits e (Some (text_rule t)) = ⊥
RuleFits e (Some (allow_rule vs)) = ⊤
RuleFits e (Some (deny_rule vs)) = ⊤
RuleFits e None = ⊤

abbrev pub ShapeIsFormed : Shape → Type 0
ShapeIsFormed (struct_shape closed fs) = RestFits closed fs (rest_of fs) × FieldsAreFormed fs
ShapeIsFormed (enum_shape closed tag ws) = TagFits tag ws × VariantsAreFormed ws
ShapeIsFormed (newtype_shape e rule) = RuleFits e rule × EntryIsFormed e

-- the same before names are given: of a rest's name nothing is asked
abbrev pub RestMay : Bool → Rest → Type 0
RestMay closed no_rest = ⊤
RestMay closed (rest i e) = closed ≡ false

abbrev pub ShapeIsShaped : Shape → Type 0
ShapeIsShaped (struct_shape closed fs) = RestMay closed (rest_of fs) × FieldsAreFormed fs
ShapeIsShaped (enum_shape closed tag ws) = TagFits tag ws × VariantsAreFormed ws
ShapeIsShaped (newtype_shape e rule) = RuleFits e rule × EntryIsFormed e

abbrev pub Shaped : List ℕ → Shape → Type 0
Shaped n h = ShapeIsShaped h

abbrev pub Anywhere : Target → Type 0
Anywhere q = ⊤

-- each item of a table, before names are given
pub record IsShaped (t : Table) : Type 0 where
  pub trees : AllByRecursion (λ e. EntryIsFormed e × Each Shaped Anywhere e) t.trees
  pub targets : AllByRecursion (λ x. ShapeIsShaped x.led_to.shape × EachInShape Shaped Anywhere x.led_to.shape) t.targets

-- and after
pub record IsFormed (t : Table) : Type 0 where
  pub trees : AllByRecursion EntryIsFormed t.trees
  pub items : AllByRecursion (λ i. ShapeIsFormed i.shape) (items_of t)

-- naming makes formed tables of shaped ones
abbrev pub NamedTablesAreFormed : Type 0
NamedTablesAreFormed = (is_good : List ℕ → Bool) (t : Table) → IsShaped t → IsFormed (named_table is_good t)

-- sound, with good names, and formed
pub record IsEmittable (t : Table) : Type 0 where
  pub sound : IsSound t
  pub named : AllByRecursion (λ i. (is_good_name i.name ≡ true) × ShapeIsGood is_good_name i.shape) (items_of t)
  pub formed : IsFormed t
