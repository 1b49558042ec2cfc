-- What tells an entry from the others of its space: an item by its name, any other entry by what it is.
use Rattle.std.specs.Prelude.{ℕ, ◌&&◌, nat_eq, List, map, Bool, true, false, Option, Some, None, bytes_eq, string_bytes}
use Rattle.std.specs.List.{list_all}
use Rattle.schema_defs.specs.declared.Format.{Format}
use Rattle.schema_defs.specs.declared.Format.TheVariants.{Uuid, Date, DateTime, Ip, Ipv4, Ipv6}
use Rattle.entry_defs.specs.Entry.{IntegerName, i8, u8, i16, u16, i32, u32, i64, u64, nonzero_u8, nonzero_u16, nonzero_u32, nonzero_u64}
use Rattle.entry_defs.specs.Space.{Id, ShapeAt, newtype_shape_at, EntryAt, boolean_at, integer_at, text_at, native_at, any_at, null_at, option_at, vec_at, set_at, map_at, tuple_entry_at, array_at, reference_at, item_at}
use Rattle.entry_types.specs.declared.entry.TypeEntry.{TypeEntry}
use Rattle.entry_types.specs.View.{id_view, integer_view, entry_view}
use Rattle.entry_space.specs.declared.key.Key.{Key}
use Rattle.entry_space.specs.declared.key.Key.TheVariants as keys

abbrev pub integer_number : IntegerName → ℕ
integer_number i8 = 0
integer_number u8 = 1
integer_number i16 = 2
integer_number u16 = 3
integer_number i32 = 4
integer_number u32 = 5
integer_number i64 = 6
integer_number u64 = 7
integer_number nonzero_u8 = 8
integer_number nonzero_u16 = 9
integer_number nonzero_u32 = 10
integer_number nonzero_u64 = 11

abbrev pub format_number : Format → ℕ
format_number Uuid = 0
format_number Date = 1
format_number DateTime = 2
format_number Ip = 3
format_number Ipv4 = 4
format_number Ipv6 = 5

-- the ids one by one
abbrev pub same_ids : List Id → List Id → Bool
same_ids is js = bytes_eq is js

abbrev pub same_key : EntryAt → EntryAt → Bool
same_key boolean_at boolean_at = true
same_key (integer_at g) (integer_at h) = nat_eq (integer_number g) (integer_number h)
same_key text_at text_at = true
same_key (native_at f) (native_at g) = nat_eq (format_number f) (format_number g)
same_key any_at any_at = true
same_key null_at null_at = true
same_key (option_at i) (option_at j) = nat_eq i j
same_key (vec_at i) (vec_at j) = nat_eq i j
same_key (set_at i) (set_at j) = nat_eq i j
same_key (map_at k i) (map_at l j) = nat_eq k l && nat_eq i j
same_key (tuple_entry_at is) (tuple_entry_at js) = same_ids is js
same_key (array_at i m) (array_at j n) = nat_eq i j && nat_eq m n
same_key (reference_at i) (reference_at j) = nat_eq i j
same_key (item_at m s) (item_at n t) = bytes_eq m n
same_key _ _ = false

-- an entry of that key is there
abbrev pub has_key : EntryAt → Option EntryAt → Bool
has_key e None = false
has_key e (Some f) = same_key e f

-- ---- keys in code, as entries whose items have no shape

abbrev pub no_shape : ShapeAt
no_shape = newtype_shape_at 0 None

abbrev pub bare : EntryAt → EntryAt
bare (item_at n s) = item_at n no_shape
bare e = e

abbrev pub key_view : Key → EntryAt
key_view keys.Bool = boolean_at
key_view (keys.Integer g) = integer_at (integer_view g)
key_view keys.Text = text_at
key_view (keys.Native f) = native_at f
key_view keys.Any = any_at
key_view keys.Unit = null_at
key_view (keys.Option i) = option_at (id_view i)
key_view (keys.Vec i) = vec_at (id_view i)
key_view (keys.Set i) = set_at (id_view i)
key_view (keys.Map k i) = map_at (id_view k) (id_view i)
key_view (keys.Tuple is) = tuple_entry_at (map id_view is.items)
key_view (keys.Array i n) = array_at (id_view i) n
key_view (keys.Reference i) = reference_at (id_view i)
key_view (keys.Item n) = item_at (string_bytes n) no_shape

-- each key is that of its entry
abbrev pub are_keyed : List (Key × TypeEntry) → Bool
are_keyed ps = list_all (λ p. same_key (key_view p.0) (entry_view p.1)) ps
