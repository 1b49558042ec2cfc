-- What patterns of derived code bind, in the items of a table that gets names.
use Rattle.std.specs.Prelude.{◌≡◌, ℕ, List, [], ◌++◌, Bool, true, false}
use Rattle.entry_defs.specs.Entry.{Shape, enum_shape, Variants, no_variants, variant_then, Contents, struct_contents}
use Rattle.entry_defs.specs.Table.{ItemEntry, Table, items_of, Among}
use Rattle.naming_defs.specs.Derived.{is_derived, is_denied}
use Rattle.naming_defs.specs.Names.{Names, is_among, identifiers, is_value, prelude_values, named_table}

abbrev pub bound_in : Contents → Names
bound_in (struct_contents fs) = identifiers fs
bound_in _ = []

abbrev pub bound_by : Variants → Names
bound_by no_variants = []
bound_by (variant_then i n c ws) = bound_in c ++ bound_by ws

-- the identifiers of the fields of an enum's variants
abbrev pub bound_names : Shape → Names
bound_names (enum_shape closed tag ws) = bound_by ws
bound_names _ = []

abbrev pub OfItems : (ItemEntry → List ItemEntry → Type 0) → Type 0
OfItems P = (is_good : List ℕ → Bool) (t : Table) (i : ItemEntry) → Among i (items_of (named_table is_good t)) → P i (items_of (named_table is_good t))

pub record IsBindable (i : ItemEntry) (all : List ItemEntry) : Type 0 where
  pub no_item : (j : ItemEntry) → Among j all → is_value j.shape ≡ true → is_among j.name (bound_names i.shape) ≡ false
  pub not_of_prelude : (n : List ℕ) → is_among n prelude_values ≡ true → is_among n (bound_names i.shape) ≡ false

abbrev pub FieldsAreBindable : Type 0
FieldsAreBindable = OfItems IsBindable

pub record IsUnderived (i : ItemEntry) (all : List ItemEntry) : Type 0 where
  pub item : is_denied i.name ≡ false
  pub fields : (n : List ℕ) → is_among n (bound_names i.shape) ≡ true → is_derived n ≡ false

abbrev pub DerivedNamesAreFree : Type 0
DerivedNamesAreFree = OfItems IsUnderived
