-- What is asked of each item in an entry: its rule lists scalars, and the names of its variants differ where they are written.
use Rattle.std.proofs.Common.{◌≡◌, ℕ, List, [], ◌∷◌, ◌++◌, true, refl}
use Rattle.std.specs.List.{list_all, AllByRecursion}
use Rattle.writing_laws.specs.Tables.{lists_scalars}
use Rattle.entry_defs.specs.Entry.{Entry, boolean_entry, integer_entry, text_entry, native_entry, any_entry, unit_entry, option_entry, vec_entry, set_entry, map_entry, tuple_entry, array_entry, reference, item, Shape}
use Rattle.entry_defs.specs.Table.{ItemEntry, items_in, items_in_shape}
use Rattle.emit_defs.specs.Models.{shape_rules}
use Rattle.convert_defs.specs.Convert.{as_item}
use Rattle.emitted_back.specs.Laws.{variant_names_differ}

pub record IsApart (h : Shape) : Type 0 where
  pub variants : variant_names_differ h ≡ true
  pub rules : list_all lists_scalars (shape_rules h) ≡ true

abbrev pub AllApart : List ItemEntry → Type 0
AllApart is = AllByRecursion (λ i. IsApart i.shape) is

abbrev pub Within : Entry → Type 0
Within e = AllApart (items_in e)

pub joined : (is js : List ItemEntry) → AllApart is → AllApart js → AllApart (is ++ js)
joined [] js h g = g
joined (i ∷ is) js h g = (h.0, joined is js h.1 g)

-- ---- an entry as an item

abbrev pub ItemWithin : ItemEntry → Type 0
ItemWithin i = IsApart i.shape × AllApart (items_in_shape i.shape)

pub item_within : (n : List ℕ) (e : Entry) → Within e → ItemWithin (as_item n e)
item_within n (item l h) x = x
item_within n boolean_entry x = (record { variants = refl; rules = refl }, tt)
item_within n (integer_entry g) x = (record { variants = refl; rules = refl }, tt)
item_within n text_entry x = (record { variants = refl; rules = refl }, tt)
item_within n (native_entry f) x = (record { variants = refl; rules = refl }, tt)
item_within n any_entry x = (record { variants = refl; rules = refl }, tt)
item_within n unit_entry x = (record { variants = refl; rules = refl }, tt)
item_within n (option_entry e) x = (record { variants = refl; rules = refl }, x)
item_within n (vec_entry e) x = (record { variants = refl; rules = refl }, x)
item_within n (set_entry e) x = (record { variants = refl; rules = refl }, x)
item_within n (map_entry k e) x = (record { variants = refl; rules = refl }, x)
item_within n (tuple_entry us) x = (record { variants = refl; rules = refl }, x)
item_within n (array_entry e m) x = (record { variants = refl; rules = refl }, x)
item_within n (reference t) x = (record { variants = refl; rules = refl }, tt)
