-- Names that are kept, and names that aren't.
use Rattle.std.specs.Prelude.{◌≡◌, ℕ, List, [], ◌∷◌, Bool, true, false, None, codes}
use Prim.Native.String.{String}
use Rattle.model_defs.specs.Model.{external_tag}
use Rattle.entry_defs.specs.Entry.{definition, required, Entry, boolean_entry, text_entry, item, Shape, struct_shape, enum_shape, newtype_shape, Fields, no_fields, field_then, Variants, no_variants, variant_then, newtype_contents, struct_contents}
use Rattle.entry_defs.specs.Table.{TargetEntry, Table}
use Rattle.naming_defs.specs.Derived.{is_derived, is_denied}
use Rattle.naming_defs.specs.Good.{is_good_name}
use Rattle.naming_defs.specs.Names.{named_table}

pub record GoodNames : Type 0 where
  pub a_letter : is_good_name (codes "A") ≡ true
  -- an o with two dots
  pub beyond_ascii : is_good_name (195 ∷ 182 ∷ []) ≡ true
  pub a_digit : is_good_name (codes "1") ≡ false
  pub a_blank : is_good_name (codes "a b") ≡ false
  pub a_keyword : is_good_name (codes "type") ≡ false
  pub a_primitive : is_good_name (codes "i64") ≡ false
  pub of_the_library : is_good_name (codes "String") ≡ true
  pub nothing : is_good_name [] ≡ false
  -- `A` in two bytes, which is no UTF-8
  pub overlong : is_good_name (193 ∷ 129 ∷ []) ≡ false
  pub cut_short : is_good_name (97 ∷ 195 ∷ []) ≡ false
  -- an o, and then two dots, which it composes with
  pub to_be_composed : is_good_name (111 ∷ 204 ∷ 136 ∷ []) ≡ false
  -- the sign for a unit of length, which composes to the letter
  pub another_letter : is_good_name (226 ∷ 132 ∷ 171 ∷ []) ≡ false

pub record DerivedNames : Type 0 where
  pub underscores : is_derived (codes "__A") ≡ true
  pub one_underscore : is_derived (codes "_A") ≡ false
  pub own_module : is_derived (codes "_serde") ≡ true
  pub more : is_derived (codes "_serde_json") ≡ true
  pub the_crate : is_derived (codes "serde") ≡ false
  pub first_helper : is_derived (codes "typify_present") ≡ true
  pub second_helper : is_derived (codes "typify_defaults") ≡ true
  pub longer : is_derived (codes "typify_presents") ≡ false
  pub a_value : is_derived (codes "v") ≡ false
  pub of_an_item : is_denied (codes "v") ≡ true
  pub capital : is_denied (codes "V") ≡ false

-- ---- tables in which every name is good

abbrev pub any : List ℕ → Bool
any n = true

abbrev pub given : String → String → Fields → Fields
given i n fs = field_then (codes i) (codes n) boolean_entry required fs

abbrev pub field : String → Fields → Fields
field n fs = given n n fs

abbrev pub variant : String → Fields → Variants → Variants
variant n fs ws = variant_then (codes n) (codes n) (struct_contents fs) ws

abbrev pub holding : String → Entry → Variants → Variants
holding n e ws = variant_then (codes n) (codes n) (newtype_contents e) ws

abbrev pub tree : Entry → Table
tree e = record { targets = []; trees = e ∷ [] }

abbrev pub choice : Variants → Entry
choice ws = item (codes "Root") (enum_shape false external_tag ws)

-- one definition, and a choice with one variant of one field
abbrev pub beside : List TargetEntry → Fields → Table
beside xs fs = record { targets = xs; trees = choice (variant "V" fs no_variants) ∷ [] }

abbrev pub defined : String → Shape → List TargetEntry
defined n h = record { target = definition (codes n); led_to = record { name = codes n; shape = h } } ∷ []

abbrev pub held : Shape
held = newtype_shape text_entry None

abbrev pub the : String → Entry
the n = item (codes n) held

abbrev pub Gives : Table → Table → Type 0
Gives t u = named_table any t ≡ u

pub record NamesInVariants : Type 0 where
  pub of_newtype : Gives (beside (defined "a" held) (field "a" no_fields)) (beside (defined "a" held) (given "field0" "a" no_fields))
  pub of_struct : Gives (beside (defined "a" (struct_shape false (field "b" no_fields))) (field "a" no_fields)) (beside (defined "a" (struct_shape false (field "b" no_fields))) (field "a" no_fields))
  pub of_struct_without_fields : Gives (beside (defined "a" (struct_shape false no_fields)) (field "a" no_fields)) (beside (defined "a" (struct_shape false no_fields)) (given "field0" "a" no_fields))
  pub of_enum : Gives (beside (defined "a" (enum_shape false external_tag no_variants)) (field "a" no_fields)) (beside (defined "a" (enum_shape false external_tag no_variants)) (field "a" no_fields))
  pub number_of_newtype : Gives (beside (defined "field0" held) (field "Some" no_fields)) (beside (defined "field0" held) (given "field1" "Some" no_fields))
  pub of_prelude : Gives (beside [] (field "Err" (field "err" no_fields))) (beside [] (given "field0" "Err" (field "err" no_fields)))
  pub derived : Gives (beside [] (field "__a" (field "v" no_fields))) (beside [] (given "field0" "__a" (field "v" no_fields)))
  -- a struct's fields are bound by no pattern
  pub in_struct : Gives (tree (item (codes "Root") (struct_shape false (field "__a" (field "Err" no_fields))))) (tree (item (codes "Root") (struct_shape false (field "__a" (field "Err" no_fields)))))
  -- one name in two variants
  pub twice : Gives (tree (choice (variant "V" (field "a" no_fields) (variant "W" (field "a" no_fields) no_variants)))) (tree (choice (variant "V" (field "a" no_fields) (variant "W" (field "a" no_fields) no_variants))))
  -- the item comes first, or the field
  pub item_first : Gives (tree (choice (holding "V" (the "a") (variant "W" (field "a" no_fields) no_variants)))) (tree (choice (holding "V" (the "a") (variant "W" (given "field0" "a" no_fields) no_variants))))
  pub field_first : Gives (tree (choice (variant "V" (field "a" no_fields) (holding "W" (the "a") no_variants)))) (tree (choice (variant "V" (field "a" no_fields) (holding "W" (the "Type0") no_variants))))
  pub of_an_item : Gives (tree (the "v")) (tree (the "Type0"))
