-- What emission asks of a whole table: the items' names, which uses are boxed, and which entries lead to an option.
use Rattle.std.specs.Prelude.{ℕ, zero, suc, ◌&&◌, ◌||◌, not, List, [], ◌∷◌, ◌++◌, length, Bool, true, false, Option, Some, None, bytes_eq, codes}
use Rattle.std.specs.List.{list_any, flat_map}
use Rattle.entry_defs.specs.Entry.{Target, Entry, option_entry, tuple_entry, array_entry, reference, item, Entries, no_entries, entry_then, entry_again, Shape, struct_shape, enum_shape, newtype_shape, Contents, unit_contents, newtype_contents, tuple_contents, struct_contents, FieldEntry, fields_of, variants_of}
use Rattle.entry_defs.specs.Table.{ItemEntry, Table, target_item, target_name, item_named, items_of, allowed}

pub record Setting : Type 0 where
  -- of the item that a reference leads to
  pub name : Target → List ℕ
  -- whether the first item boxes its uses of the second
  pub is_boxed : List ℕ → List ℕ → Bool
  -- whether an entry leads to an option
  pub leads : Entry → Bool

-- ---- uses by value: through options, tuples and arrays

module _ (name : Target → List ℕ) where
  abbrev mutual
    pub uses : Entry → List (List ℕ)
    uses (option_entry e) = uses e
    uses (tuple_entry es) = uses_of_entries es
    uses (array_entry e n) = uses e
    uses (reference q) = name q ∷ []
    uses (item n s) = n ∷ []
    uses _ = []

    pub uses_of_entries : Entries → List (List ℕ)
    uses_of_entries no_entries = []
    uses_of_entries (entry_then e es) = uses e ++ uses_of_entries es
    uses_of_entries (entry_again es) = uses_of_entries es

  abbrev pub uses_of_fields : List FieldEntry → List (List ℕ)
  uses_of_fields fs = flat_map (λ f. uses f.entry) fs

  abbrev pub uses_of_contents : Contents → List (List ℕ)
  uses_of_contents unit_contents = []
  uses_of_contents (newtype_contents e) = uses e
  uses_of_contents (tuple_contents es) = uses_of_entries es
  uses_of_contents (struct_contents fs) = uses_of_fields (fields_of fs)

  -- a rest is a map, which uses nothing by value
  abbrev pub uses_of_shape : Shape → List (List ℕ)
  uses_of_shape (struct_shape closed fs) = uses_of_fields (fields_of fs)
  uses_of_shape (enum_shape closed tag ws) = flat_map (λ w. uses_of_contents w.contents) (variants_of ws)
  uses_of_shape (newtype_shape e rule) = uses e

  abbrev pub uses_of_item : Option ItemEntry → List (List ℕ)
  uses_of_item None = []
  uses_of_item (Some i) = uses_of_shape i.shape

  -- the first item reaches the second by so many uses at most, and by one at least
  abbrev pub reaches_within : List ItemEntry → ℕ → List ℕ → List ℕ → Bool
  reaches_within items zero m n = false
  reaches_within items (suc k) m n = list_any (λ u. bytes_eq u n || reaches_within items k u n) (uses_of_item (item_named m items))

-- ---- leading to an option: being one, or through transparent newtypes

abbrev pub is_phantom : List ℕ → Bool
is_phantom n = bytes_eq n (codes "PhantomData")

module _ (name : Target → List ℕ) (is_boxed : List ℕ → List ℕ → Bool) where
  -- the last name of the type that the item of that name holds is `PhantomData`
  abbrev pub ends_in_phantom : List ℕ → Entry → Bool
  ends_in_phantom owner (reference q) = is_phantom (name q) && not (is_boxed owner (name q))
  ends_in_phantom owner (item n s) = is_phantom n && not (is_boxed owner n)
  ends_in_phantom owner _ = false

  module _ (follows : Target → Bool) where
    abbrev mutual
      pub entry_leads : Entry → Bool
      entry_leads (option_entry e) = true
      entry_leads (reference q) = follows q
      entry_leads (item n s) = shape_leads n s
      entry_leads _ = false

      pub shape_leads : List ℕ → Shape → Bool
      shape_leads n (newtype_shape e None) = not (ends_in_phantom n e) && entry_leads e
      shape_leads n (newtype_shape e (Some rule)) = false
      shape_leads n (struct_shape closed fs) = false
      shape_leads n (enum_shape closed tag ws) = false

    abbrev pub item_leads : Option ItemEntry → Bool
    item_leads None = false
    item_leads (Some i) = shape_leads i.name i.shape

  abbrev pub leads_within : Table → ℕ → Target → Bool
  leads_within t zero q = false
  leads_within t (suc k) q = item_leads (leads_within t k) (target_item t q)

-- ---- of a table

-- exactly where the used item reaches the using one
abbrev pub boxes : Table → List ℕ → List ℕ → Bool
boxes t owner used = reaches_within (target_name t) (items_of t) (length (items_of t)) used owner

abbrev pub leads_of : Table → Entry → Bool
leads_of t e = entry_leads (target_name t) (boxes t) (leads_within (target_name t) (boxes t) t (allowed t)) e

abbrev pub setting_of : Table → Setting
setting_of t = record { name = target_name t; is_boxed = boxes t; leads = leads_of t }
