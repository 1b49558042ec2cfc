-- Bounds of whole numbers as the program keeps them: a bound that is one above the greatest number that it can hold, or one below the least, stands
-- at that number. Every end of a range is far from there, so the row is the same.
use Rattle.std.specs.Prelude.{◌≡◌, ◌⊎◌, ℕ, ℤ, pos, negsuc, ◌+ℤ◌, ◌-ℤ◌, int_le, int_lt, ◌&&◌, ◌||◌, not, List, [], ◌∷◌, ◌++◌, Bool, true, false, Option, Some, None, option_map, if◌then◌else◌}
use Rattle.std.specs.Ordering.{int_eq}
use Rattle.schema_defs.specs.Integers.{Range}
use Rattle.entry_defs.specs.Entry.{IntegerName, i8, u8, i16, u16, i32, u32, i64, u64, nonzero_u8, nonzero_u16, nonzero_u32, nonzero_u64}
use Rattle.entry_defs.specs.Layer.{integer_range}
use Rattle.convert_defs.specs.Row.{Note, here, narrowed, widened, integer_note}
use Rattle.convert_defs.specs.IntegerRow.{Kind, from_bounds, by_format, bounded, in_i64, format_or_i64, lies_in, note_if}
use Rattle.entry_types.specs.declared.entry.IntName.{IntName}
use Rattle.entry_types.specs.declared.entry.IntName.TheVariants as names
use Rattle.entry_types.specs.View.{integer_view}
use Rattle.integer_rows.specs.declared.kinds.Ends.{Ends}

abbrev pub ends_view : Ends → Range
ends_view e = record { least = e.least; greatest = e.greatest }

-- ---- the types

-- what takes the place of a type from 1 on
abbrev pub nonzero_for : IntName → IntegerName
nonzero_for names.I8 = nonzero_u8
nonzero_for names.U8 = nonzero_u8
nonzero_for names.I16 = nonzero_u16
nonzero_for names.U16 = nonzero_u16
nonzero_for names.I32 = nonzero_u32
nonzero_for names.U32 = nonzero_u32
nonzero_for names.I64 = nonzero_u64
nonzero_for names.U64 = nonzero_u64
nonzero_for names.NonZeroU8 = nonzero_u64
nonzero_for names.NonZeroU16 = nonzero_u64
nonzero_for names.NonZeroU32 = nonzero_u64
nonzero_for names.NonZeroU64 = nonzero_u64

abbrev pub kind_view : IntName → Kind
kind_view g = record { plain = integer_view g; nonzero = nonzero_for g }

abbrev pub nonzero_in : Option Kind → IntegerName
nonzero_in None = nonzero_u64
nonzero_in (Some k) = k.nonzero

-- those of the table that are no larger than 16 bits, the last first
abbrev pub small_kinds : List Kind
small_kinds =
    record { plain = u16; nonzero = nonzero_u16 }
    ∷ record { plain = i16; nonzero = nonzero_u16 }
    ∷ record { plain = u8; nonzero = nonzero_u8 }
    ∷ record { plain = i8; nonzero = nonzero_u8 }
    ∷ []

-- an end that is asked for
abbrev pub end_is : ℤ → Option ℤ → Bool
end_is z None = true
end_is z (Some y) = int_eq z y

abbrev pub kind_fits : Option ℤ → Option ℤ → Kind → Bool
kind_fits a b k = end_is (integer_range k.plain).least a && end_is (integer_range k.plain).greatest b

-- ---- a bound and one further

abbrev pub last_number : ℤ
last_number = pos 170141183460469231731687303715884105727

abbrev pub first_number : ℤ
first_number = negsuc 170141183460469231731687303715884105727

abbrev pub after : ℤ
after = pos 170141183460469231731687303715884105728

abbrev pub before : ℤ
before = negsuc 170141183460469231731687303715884105728

-- one further, or the last number for the one after it
abbrev pub IsAbove : ℤ → ℤ → Type 0
IsAbove z y = (y ≡ z +ℤ pos 1) ⊎ ((z +ℤ pos 1 ≡ after) × (y ≡ last_number))

abbrev pub IsBelow : ℤ → ℤ → Type 0
IsBelow z y = (y ≡ z -ℤ pos 1) ⊎ ((z -ℤ pos 1 ≡ before) × (y ≡ first_number))

abbrev pub IsLeast : Option ℤ → Option ℤ → Type 0
IsLeast a b = (b ≡ a) ⊎ ((a ≡ Some after) × (b ≡ Some last_number))

abbrev pub IsGreatest : Option ℤ → Option ℤ → Type 0
IsGreatest a b = (b ≡ a) ⊎ ((a ≡ Some before) × (b ≡ Some first_number))

-- ---- the type and the notes, by what is given

abbrev pub chosen_by : Bool → Option ℤ → Option ℤ → Option Range → IntegerName
chosen_by multiple a b None = from_bounds a b
chosen_by multiple a b (Some f) = by_format multiple a b f

abbrev pub admitted_by : Option ℤ → Option ℤ → Option Range → Range
admitted_by a b f = bounded a b (format_or_i64 f)

abbrev pub is_widened : Bool → Option ℤ → Option ℤ → Option Range → IntegerName → Bool
is_widened multiple a b f g = multiple || not (lies_in (in_i64 (integer_range g)) (admitted_by a b f))

abbrev pub is_narrowed : Option ℤ → Option ℤ → Option Range → IntegerName → Bool
is_narrowed a b f g = not (lies_in (admitted_by a b f) (in_i64 (integer_range g)))
