-- What types ask of the traits of the items in them.
use Rattle.std.specs.Prelude.{ℕ, suc, List, [], ◌∷◌, Bool, true, false, ◌&&◌, ◌||◌, nat_lt}
use Rattle.syntax_trees.specs.Syntax.{TyD}
use Rattle.syntax_trees.specs.Item.{FieldD, FieldsD, named_fields, unnamed_fields, unit_fields, VariantD, BodyD, struct_body, enum_body, union_body, ItemD}
use Rattle.type_spellings.specs.Types.{type_of}
use Rattle.model_defs.specs.Types.{TypeModel, TypeModels, boolean_type, integer_type, text_type, native_type, any_type, unit_type, option_type, boxed_type, vec_type, set_type, map_type, tuple_type, array_type, item_type, outside_type, no_types, type_then}
use Rattle.module_texts.specs.declared.asked.Asked.{Asked}
use Rattle.module_texts.specs.declared.asked.Asked.TheVariants.{Item, Key, Holder, Length}

abbrev pub asks_items : Asked → Bool
asks_items Item = true
asks_items Key = false
asks_items Holder = false
asks_items Length = false

abbrev pub asks_length : Asked → Bool
asks_length Item = false
asks_length Key = false
asks_length Holder = false
asks_length Length = true

abbrev pub count : TypeModels → ℕ
count no_types = 0
count (type_then t ts) = suc (count ts)

-- what is asked of a set, by its items, or of a map, by its names: the Bool says whether an item stands in them
abbrev pub of_holder : Asked → Bool → Bool
of_holder Item items = false
of_holder Key items = items
of_holder Holder items = true
of_holder Length items = false

-- Std has its traits for tuples of at most 12 places, and serde for arrays of at most 32.
abbrev mutual
  pub has : Asked → TypeModel → Bool
  has a boolean_type = false
  has a (integer_type r) = false
  has a text_type = false
  has a (native_type f) = false
  has a any_type = false
  has a unit_type = false
  has a (option_type t) = has a t
  has a (boxed_type t) = has a t
  has a (vec_type t) = has a t
  has a (set_type t) = of_holder a (has Item t) || has a t
  has a (map_type k t) = of_holder a (has Item k) || has a k || has a t
  has a (tuple_type ts) = (asks_length a && nat_lt 12 (count ts)) || any_has a ts
  has a (array_type t n) = (asks_length a && nat_lt 32 n) || has a t
  has a (item_type n) = asks_items a
  has a outside_type = false

  pub any_has : Asked → TypeModels → Bool
  any_has a no_types = false
  any_has a (type_then t ts) = has a t || any_has a ts

-- The Bool says whether it was found before.
abbrev pub each_has : Asked → Bool → List FieldD → Bool
each_has a found [] = found
each_has a found (f ∷ fs) = each_has a (found || has a (type_of f.ty)) fs

abbrev pub fields_have : Asked → Bool → FieldsD → Bool
fields_have a found (named_fields fs) = each_has a found fs
fields_have a found (unnamed_fields fs) = each_has a found fs
fields_have a found unit_fields = found

abbrev pub variants_have : Asked → Bool → List VariantD → Bool
variants_have a found [] = found
variants_have a found (v ∷ vs) = variants_have a (fields_have a found v.fields) vs

abbrev pub body_has : Asked → Bool → BodyD → Bool
body_has a found (struct_body fs at) = fields_have a found fs
body_has a found (enum_body vs at) = variants_have a found vs
body_has a found (union_body fs at) = each_has a found fs

abbrev pub items_have : Asked → Bool → List ItemD → Bool
items_have a found [] = found
items_have a found (i ∷ is) = items_have a (body_has a found i.body) is

-- a set of items, or a map with names that are items, stands in the root's type or in an item
abbrev pub is_hashed : List ItemD → TyD → Bool
is_hashed is root = items_have Key (has Key (type_of root)) is
