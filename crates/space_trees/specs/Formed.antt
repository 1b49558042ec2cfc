-- Trees in which an entry follows wherever a place has that of the next one, and a rest has the name that it should have.
use Rattle.std.specs.Prelude.{◌≡◌, ℕ, ◌&&◌, reverse, List, [], ◌∷◌, Bool, true, false, bytes_eq, codes}
use Rattle.entry_defs.specs.Entry.{Entry, option_entry, vec_entry, set_entry, map_entry, tuple_entry, array_entry, item, Entries, no_entries, entry_then, entry_again, Shape, struct_shape, enum_shape, newtype_shape, Fields, no_fields, field_then, field_again, rest_field, Rest, no_rest, rest, rest_of, Variants, no_variants, variant_then, Contents, unit_contents, newtype_contents, tuple_contents, struct_contents}
use Rattle.std.specs.List.{AllByRecursion}
use Rattle.entry_defs.specs.Table.{Table}
use Rattle.naming_defs.specs.Names.{field_names, field_name}
use Rattle.naming_defs.specs.Good.{is_good_name}

abbrev pub has_place : Entries → Bool
has_place no_entries = false
has_place _ = true

abbrev pub has_field : Fields → Bool
has_field no_fields = false
has_field _ = true

-- without that of the rest
abbrev pub own_identifiers : Fields → List (List ℕ)
own_identifiers no_fields = []
own_identifiers (field_then i n e s fs) = i ∷ own_identifiers fs
own_identifiers (field_again i n fs) = i ∷ own_identifiers fs
own_identifiers (rest_field i e) = []

-- the name that the rest has
abbrev pub rest_name : Fields → List ℕ
rest_name fs = field_name is_good_name (reverse (own_identifiers fs)) (field_names fs) (codes "extra")

abbrev pub is_rest_of : List ℕ → Rest → Bool
is_rest_of n no_rest = true
is_rest_of n (rest i e) = bytes_eq i n

-- the rest wants the name `extra`, and it is named after the fields
abbrev pub rest_is_wanted : Fields → Bool
rest_is_wanted fs = is_rest_of (codes "extra") (rest_of fs)

abbrev pub rest_is_named : Fields → Bool
rest_is_named fs = is_rest_of (rest_name fs) (rest_of fs)

abbrev pub has_no_rest : Rest → Bool
has_no_rest no_rest = true
has_no_rest (rest i e) = false

-- `fits` says of the fields of a struct whether their rest has its name
module _ (fits : Fields → Bool) where
  abbrev mutual
    pub is_formed_by : Entry → Bool
    is_formed_by (option_entry e) = is_formed_by e
    is_formed_by (vec_entry e) = is_formed_by e
    is_formed_by (set_entry e) = is_formed_by e
    is_formed_by (map_entry k e) = is_formed_by k && is_formed_by e
    is_formed_by (tuple_entry es) = are_formed_by es
    is_formed_by (array_entry e n) = is_formed_by e
    is_formed_by (item n h) = is_formed_shape_by h
    is_formed_by _ = true

    pub are_formed_by : Entries → Bool
    are_formed_by no_entries = true
    are_formed_by (entry_then e es) = is_formed_by e && are_formed_by es
    are_formed_by (entry_again es) = has_place es && are_formed_by es

    pub is_formed_shape_by : Shape → Bool
    is_formed_shape_by (struct_shape closed fs) = fits fs && are_formed_fields_by fs
    is_formed_shape_by (enum_shape closed tag ws) = are_formed_variants_by ws
    is_formed_shape_by (newtype_shape e rule) = is_formed_by e

    pub are_formed_fields_by : Fields → Bool
    are_formed_fields_by no_fields = true
    are_formed_fields_by (field_then i n e s fs) = is_formed_by e && are_formed_fields_by fs
    are_formed_fields_by (field_again i n fs) = has_field fs && are_formed_fields_by fs
    are_formed_fields_by (rest_field i e) = is_formed_by e

    pub are_formed_variants_by : Variants → Bool
    are_formed_variants_by no_variants = true
    are_formed_variants_by (variant_then i n c ws) = is_formed_contents_by c && are_formed_variants_by ws

    pub is_formed_contents_by : Contents → Bool
    is_formed_contents_by unit_contents = true
    is_formed_contents_by (newtype_contents e) = is_formed_by e
    is_formed_contents_by (tuple_contents es) = are_formed_by es
    is_formed_contents_by (struct_contents fs) = has_no_rest (rest_of fs) && are_formed_fields_by fs

abbrev pub is_formed : Entry → Bool
is_formed e = is_formed_by rest_is_named e

abbrev pub are_formed : Entries → Bool
are_formed es = are_formed_by rest_is_named es

abbrev pub is_formed_shape : Shape → Bool
is_formed_shape h = is_formed_shape_by rest_is_named h

abbrev pub are_formed_fields : Fields → Bool
are_formed_fields fs = are_formed_fields_by rest_is_named fs

abbrev pub are_formed_variants : Variants → Bool
are_formed_variants ws = are_formed_variants_by rest_is_named ws

abbrev pub is_formed_contents : Contents → Bool
is_formed_contents c = is_formed_contents_by rest_is_named c

-- each tree and each target's item
pub record IsFormed (t : Table) : Type 0 where
  pub trees : AllByRecursion (λ e. is_formed e ≡ true) t.trees
  pub targets : AllByRecursion (λ x. is_formed_shape x.led_to.shape ≡ true) t.targets
