-- Trees that are entered into a space, each part before what it is a part of; an item is entered open, then its parts, and then it is filled.
use Rattle.std.specs.Prelude.{ℕ, zero, suc, List, [], ◌∷◌, Option, Some, None, option_map, if◌then◌else◌}
use Rattle.entry_defs.specs.Entry.{required, Target, Entry, boolean_entry, integer_entry, text_entry, native_entry, any_entry, unit_entry, option_entry, vec_entry, set_entry, map_entry, tuple_entry, array_entry, reference, item, Entries, no_entries, entry_then, entry_again, Shape, struct_shape, enum_shape, newtype_shape, Fields, no_fields, field_then, field_again, rest_field, Variants, no_variants, variant_then, Contents, unit_contents, newtype_contents, tuple_contents, struct_contents}
use Rattle.entry_defs.specs.Space.{Id, FieldAt, RestAt, ContentsAt, unit_at, newtype_at, tuple_at, struct_at, VariantAt, ShapeAt, struct_shape_at, enum_shape_at, newtype_shape_at, EntryAt, boolean_at, integer_at, text_at, native_at, any_at, null_at, option_at, vec_at, set_at, map_at, tuple_entry_at, array_at, reference_at, item_at, Space}
use Rattle.entry_types.specs.View.{rest_identifier}
use Rattle.entry_space.specs.Keys.{same_key, no_shape}
use Rattle.entry_space.specs.Entered.{entered, filled}

-- the id of the first entry of that key
abbrev pub place_of : EntryAt → Space → Id
place_of e [] = zero
place_of e (x ∷ xs) = if same_key e x then zero else suc (place_of e xs)

-- an entry that is entered, and its id
unfoldable pub put : EntryAt → Space → Space × Id
put e space = (entered e space, place_of e (entered e space))

-- an item that is entered before its parts are: a newtype of itself
unfoldable pub opened : List ℕ → Space → Space × Id
opened n space = (filled (put (item_at n no_shape) space).1 (newtype_shape_at (put (item_at n no_shape) space).1 None) (put (item_at n no_shape) space).0, (put (item_at n no_shape) space).1)

-- the id at the next place, and that of the next field, or of the rest; there is one where the tree is formed
abbrev pub following : List Id → Id
following [] = zero
following (j ∷ js) = j

abbrev pub rest_or_first : Option Id → Id
rest_or_first None = zero
rest_or_first (Some j) = j

abbrev pub following_field : List FieldAt → Option Id → Id
following_field [] o = rest_or_first o
following_field (g ∷ gs) o = g.entry

-- the rest is named after the fields
abbrev pub rest_given : List FieldAt → Option Id → Option RestAt
rest_given gs o = option_map (λ i. record { identifier = rest_identifier gs; entry = i }) o

-- an item's id: the one at which it was opened before, or that of an item which is opened
abbrev pub opened_at : Option Id → List ℕ → Space → Space × Id
opened_at None n space = opened n space
opened_at (Some i) n space = (space, i)

module _ (ids : Target → Id) where
  abbrev mutual
    -- with the space after, and the id of the tree; an item may have been opened before
    pub placed : Option Id → Entry → Space → Space × Id
    placed o boolean_entry s = put boolean_at s
    placed o (integer_entry g) s = put (integer_at g) s
    placed o text_entry s = put text_at s
    placed o (native_entry f) s = put (native_at f) s
    placed o any_entry s = put any_at s
    placed o unit_entry s = put null_at s
    placed o (option_entry e) s = let a = placed None e s in put (option_at a.1) a.0
    placed o (vec_entry e) s = let a = placed None e s in put (vec_at a.1) a.0
    placed o (set_entry e) s = let a = placed None e s in put (set_at a.1) a.0
    placed o (map_entry k e) s = let a = placed None k s in let b = placed None e a.0 in put (map_at a.1 b.1) b.0
    placed o (tuple_entry es) s = let a = placed_entries es s in put (tuple_entry_at a.1) a.0
    placed o (array_entry e n) s = let a = placed None e s in put (array_at a.1 n) a.0
    placed o (reference q) s = put (reference_at (ids q)) s
    placed o (item n h) s = let p = opened_at o n s in let a = placed_shape h p.0 in (filled p.1 a.1 a.0, p.1)

    pub placed_entries : Entries → Space → Space × List Id
    placed_entries no_entries s = (s, [])
    placed_entries (entry_then e es) s = let a = placed None e s in let b = placed_entries es a.0 in (b.0, a.1 ∷ b.1)
    placed_entries (entry_again es) s = let b = placed_entries es s in (b.0, following b.1 ∷ b.1)

    pub placed_shape : Shape → Space → Space × ShapeAt
    placed_shape (struct_shape closed fs) s = let a = placed_fields fs s in (a.0, struct_shape_at closed a.1 (rest_given a.1 a.2))
    placed_shape (enum_shape closed tag ws) s = let a = placed_variants ws s in (a.0, enum_shape_at closed tag a.1)
    placed_shape (newtype_shape e rule) s = let a = placed None e s in (a.0, newtype_shape_at a.1 rule)

    -- with the fields, and the id of the rest
    pub placed_fields : Fields → Space → Space × List FieldAt × Option Id
    placed_fields no_fields s = (s, [], None)
    placed_fields (field_then i n e t fs) s = let a = placed None e s in let b = placed_fields fs a.0 in (b.0, record { identifier = i; name = n; entry = a.1; state = t } ∷ b.1, b.2)
    placed_fields (field_again i n fs) s = let b = placed_fields fs s in (b.0, record { identifier = i; name = n; entry = following_field b.1 b.2; state = required } ∷ b.1, b.2)
    placed_fields (rest_field i e) s = let a = placed None e s in (a.0, [], Some a.1)

    pub placed_variants : Variants → Space → Space × List VariantAt
    placed_variants no_variants s = (s, [])
    placed_variants (variant_then i n c ws) s = let a = placed_contents c s in let b = placed_variants ws a.0 in (b.0, record { identifier = i; name = n; contents = a.1 } ∷ b.1)

    pub placed_contents : Contents → Space → Space × ContentsAt
    placed_contents unit_contents s = (s, unit_at)
    placed_contents (newtype_contents e) s = let a = placed None e s in (a.0, newtype_at a.1)
    placed_contents (tuple_contents es) s = let a = placed_entries es s in (a.0, tuple_at a.1)
    placed_contents (struct_contents fs) s = let a = placed_fields fs s in (a.0, struct_at a.1)
