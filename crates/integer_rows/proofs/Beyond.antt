-- A bound that is one further than the program can hold, and the last number that it can hold: the type and the notes are the same.
use Rattle.std.proofs.Common.{◌≡◌, ◌⊎◌, inl, inr, ℤ, pos, negsuc, ◌≤ℤ◌, Bool, true, false, ◌&&◌, ◌||◌, not, Option, Some, None, option_map, refl, sym, ap, ◌∙◌, int_le, int_lt, arith}
use Rattle.std.specs.Prelude.{if◌then◌else◌}
use Rattle.std.proofs.lemmas.Int.{ints}
use Rattle.schema_defs.specs.Integers.{Range}
use Rattle.entry_defs.specs.Entry.{IntegerName, i8, u8, i16, u16, i32, u32, i64, u64, nonzero_u8, nonzero_u16, nonzero_u32, nonzero_u64}
use Rattle.entry_defs.specs.Layer.{integer_range}
use Rattle.convert_defs.specs.IntegerRow.{from_bounds, name_or, kind_of, nonzero_of, is_value, or_else, given_not_above, given_not_below, lower, upper, in_i64, format_or_i64, lies_in}
use Rattle.integer_rows.specs.Bounds.{last_number, first_number, after, before, IsLeast, IsGreatest, chosen_by, admitted_by, is_widened, is_narrowed}

abbrev range_or_none : Option IntegerName → Option Range
range_or_none o = option_map integer_range o

-- ---- the least number

end-high : (g : IntegerName) → (int_le (integer_range g).least after) ≡ (int_le (integer_range g).least last_number)
end-high i8 = refl
end-high u8 = refl
end-high i16 = refl
end-high u16 = refl
end-high i32 = refl
end-high u32 = refl
end-high i64 = refl
end-high u64 = refl
end-high nonzero_u8 = refl
end-high nonzero_u16 = refl
end-high nonzero_u32 = refl
end-high nonzero_u64 = refl

bounds-high : (o : Option ℤ) → from_bounds (Some after) o ≡ from_bounds (Some last_number) o
bounds-high None = refl
bounds-high (Some z) = refl

chosen-high : (m : Bool) (b : Option ℤ) (o : Option IntegerName) → chosen_by m (Some after) b (range_or_none o) ≡ chosen_by m (Some last_number) b (range_or_none o)
chosen-high m b None = bounds-high b
chosen-high m b (Some g) = λ i. if not m && end-high g i && given_not_above (integer_range g).greatest b then name_or i64 (kind_of (integer_range g)) else bounds-high (or_else b (Some (integer_range g).greatest)) i

high-far : (o : Option IntegerName) → lower (Some after) (format_or_i64 (range_or_none o)).least ≡ after
high-far None = refl
high-far (Some i8) = refl
high-far (Some u8) = refl
high-far (Some i16) = refl
high-far (Some u16) = refl
high-far (Some i32) = refl
high-far (Some u32) = refl
high-far (Some i64) = refl
high-far (Some u64) = refl
high-far (Some nonzero_u8) = refl
high-far (Some nonzero_u16) = refl
high-far (Some nonzero_u32) = refl
high-far (Some nonzero_u64) = refl

high-near : (o : Option IntegerName) → lower (Some last_number) (format_or_i64 (range_or_none o)).least ≡ last_number
high-near None = refl
high-near (Some i8) = refl
high-near (Some u8) = refl
high-near (Some i16) = refl
high-near (Some u16) = refl
high-near (Some i32) = refl
high-near (Some u32) = refl
high-near (Some i64) = refl
high-near (Some u64) = refl
high-near (Some nonzero_u8) = refl
high-near (Some nonzero_u16) = refl
high-near (Some nonzero_u32) = refl
high-near (Some nonzero_u64) = refl

outside-high : (g : IntegerName) → (int_le after (in_i64 (integer_range g)).least) ≡ (int_le last_number (in_i64 (integer_range g)).least)
outside-high i8 = refl
outside-high u8 = refl
outside-high i16 = refl
outside-high u16 = refl
outside-high i32 = refl
outside-high u32 = refl
outside-high i64 = refl
outside-high u64 = refl
outside-high nonzero_u8 = refl
outside-high nonzero_u16 = refl
outside-high nonzero_u32 = refl
outside-high nonzero_u64 = refl

small-high : (o : Option IntegerName) → int_le (format_or_i64 (range_or_none o)).greatest (pos 9223372036854775807) ≡ true
small-high None = refl
small-high (Some i8) = refl
small-high (Some u8) = refl
small-high (Some i16) = refl
small-high (Some u16) = refl
small-high (Some i32) = refl
small-high (Some u32) = refl
small-high (Some i64) = refl
small-high (Some u64) = refl
small-high (Some nonzero_u8) = refl
small-high (Some nonzero_u16) = refl
small-high (Some nonzero_u32) = refl
small-high (Some nonzero_u64) = refl

-- ---- the greatest number

end-low : (g : IntegerName) → (int_le before (integer_range g).greatest) ≡ (int_le first_number (integer_range g).greatest)
end-low i8 = refl
end-low u8 = refl
end-low i16 = refl
end-low u16 = refl
end-low i32 = refl
end-low u32 = refl
end-low i64 = refl
end-low u64 = refl
end-low nonzero_u8 = refl
end-low nonzero_u16 = refl
end-low nonzero_u32 = refl
end-low nonzero_u64 = refl

bounds-low : (o : Option ℤ) → from_bounds o (Some before) ≡ from_bounds o (Some first_number)
bounds-low None = refl
bounds-low (Some z) = refl

chosen-low : (m : Bool) (a : Option ℤ) (o : Option IntegerName) → chosen_by m a (Some before) (range_or_none o) ≡ chosen_by m a (Some first_number) (range_or_none o)
chosen-low m a None = bounds-low a
chosen-low m a (Some g) = λ i. if not m && given_not_below (integer_range g).least a && end-low g i then (if is_value (pos 1) a then nonzero_of (integer_range g) else name_or i64 (kind_of (integer_range g))) else bounds-low (or_else a (Some (integer_range g).least)) i

low-far : (o : Option IntegerName) → upper (Some before) (format_or_i64 (range_or_none o)).greatest ≡ before
low-far None = refl
low-far (Some i8) = refl
low-far (Some u8) = refl
low-far (Some i16) = refl
low-far (Some u16) = refl
low-far (Some i32) = refl
low-far (Some u32) = refl
low-far (Some i64) = refl
low-far (Some u64) = refl
low-far (Some nonzero_u8) = refl
low-far (Some nonzero_u16) = refl
low-far (Some nonzero_u32) = refl
low-far (Some nonzero_u64) = refl

low-near : (o : Option IntegerName) → upper (Some first_number) (format_or_i64 (range_or_none o)).greatest ≡ first_number
low-near None = refl
low-near (Some i8) = refl
low-near (Some u8) = refl
low-near (Some i16) = refl
low-near (Some u16) = refl
low-near (Some i32) = refl
low-near (Some u32) = refl
low-near (Some i64) = refl
low-near (Some u64) = refl
low-near (Some nonzero_u8) = refl
low-near (Some nonzero_u16) = refl
low-near (Some nonzero_u32) = refl
low-near (Some nonzero_u64) = refl

outside-low : (g : IntegerName) → (int_le (in_i64 (integer_range g)).greatest before) ≡ (int_le (in_i64 (integer_range g)).greatest first_number)
outside-low i8 = refl
outside-low u8 = refl
outside-low i16 = refl
outside-low u16 = refl
outside-low i32 = refl
outside-low u32 = refl
outside-low i64 = refl
outside-low u64 = refl
outside-low nonzero_u8 = refl
outside-low nonzero_u16 = refl
outside-low nonzero_u32 = refl
outside-low nonzero_u64 = refl

small-low : (o : Option IntegerName) → int_le (negsuc 9223372036854775807) (format_or_i64 (range_or_none o)).least ≡ true
small-low None = refl
small-low (Some i8) = refl
small-low (Some u8) = refl
small-low (Some i16) = refl
small-low (Some u16) = refl
small-low (Some i32) = refl
small-low (Some u32) = refl
small-low (Some i64) = refl
small-low (Some u64) = refl
small-low (Some nonzero_u8) = refl
small-low (Some nonzero_u16) = refl
small-low (Some nonzero_u32) = refl
small-low (Some nonzero_u64) = refl

-- ---- the notes

through : (a b c : ℤ) → int_le a b ≡ true → int_le b c ≡ true → int_le a c ≡ true
through a b c h k = grind (arith, ints)

far-above : (z : ℤ) → int_le z (pos 9223372036854775807) ≡ true → int_lt z after ≡ true
far-above z h = grind (arith, ints)

near-above : (z : ℤ) → int_le z (pos 9223372036854775807) ≡ true → int_lt z last_number ≡ true
near-above z h = grind (arith, ints)

far-below : (z : ℤ) → int_le (negsuc 9223372036854775807) z ≡ true → int_lt before z ≡ true
far-below z h = grind (arith, ints)

near-below : (z : ℤ) → int_le (negsuc 9223372036854775807) z ≡ true → int_lt first_number z ≡ true
near-below z h = grind (arith, ints)

other : (a b : ℤ) → int_le a b ≡ false → int_le b a ≡ true
other a b h = grind (arith, ints)

upper-small : (b : Option ℤ) (e : ℤ) → int_le e (pos 9223372036854775807) ≡ true → int_le (upper b e) (pos 9223372036854775807) ≡ true
upper-small None e h = h
upper-small (Some z) e h = by (int_le z e) refl
  where
    by : (t : Bool) → int_le z e ≡ t → int_le (if t then z else e) (pos 9223372036854775807) ≡ true
    by true k = through z e (pos 9223372036854775807) k h
    by false k = h

lower-large : (a : Option ℤ) (e : ℤ) → int_le (negsuc 9223372036854775807) e ≡ true → int_le (negsuc 9223372036854775807) (lower a e) ≡ true
lower-large None e h = h
lower-large (Some z) e h = by (int_le z e) refl
  where
    by : (t : Bool) → int_le z e ≡ t → int_le (negsuc 9223372036854775807) (if t then e else z) ≡ true
    by true k = h
    by false k = through (negsuc 9223372036854775807) e z h (other z e k)

abbrev format-ends : Option IntegerName → Range
format-ends o = format_or_i64 (range_or_none o)

outer-high : (g : IntegerName) (b : Option ℤ) (o : Option IntegerName) → lies_in (in_i64 (integer_range g)) (admitted_by (Some after) b (range_or_none o)) ≡ lies_in (in_i64 (integer_range g)) (admitted_by (Some last_number) b (range_or_none o))
outer-high g b o = λ i. int_lt (in_i64 (integer_range g)).greatest (in_i64 (integer_range g)).least || (least i && int_le (in_i64 (integer_range g)).greatest (upper b (format-ends o).greatest))
  where
    least : int_le (lower (Some after) (format-ends o).least) (in_i64 (integer_range g)).least ≡ int_le (lower (Some last_number) (format-ends o).least) (in_i64 (integer_range g)).least
    least = ap (λ z. int_le z (in_i64 (integer_range g)).least) (high-far o) ∙ outside-high g ∙ sym (ap (λ z. int_le z (in_i64 (integer_range g)).least) (high-near o))

outer-low : (g : IntegerName) (a : Option ℤ) (o : Option IntegerName) → lies_in (in_i64 (integer_range g)) (admitted_by a (Some before) (range_or_none o)) ≡ lies_in (in_i64 (integer_range g)) (admitted_by a (Some first_number) (range_or_none o))
outer-low g a o = λ i. int_lt (in_i64 (integer_range g)).greatest (in_i64 (integer_range g)).least || (int_le (lower a (format-ends o).least) (in_i64 (integer_range g)).least && greatest i)
  where
    greatest : int_le (in_i64 (integer_range g)).greatest (upper (Some before) (format-ends o).greatest) ≡ int_le (in_i64 (integer_range g)).greatest (upper (Some first_number) (format-ends o).greatest)
    greatest = ap (λ z. int_le (in_i64 (integer_range g)).greatest z) (low-far o) ∙ outside-low g ∙ sym (ap (λ z. int_le (in_i64 (integer_range g)).greatest z) (low-near o))

-- nothing is admitted
none-in : (x y : Range) → int_lt x.greatest x.least ≡ true → lies_in x y ≡ true
none-in x y h = λ i. h i || (int_le y.least x.least && int_le x.greatest y.greatest)

inner-high : (y : Range) (b : Option ℤ) (o : Option IntegerName) → lies_in (admitted_by (Some after) b (range_or_none o)) y ≡ lies_in (admitted_by (Some last_number) b (range_or_none o)) y
inner-high y b o =
    none-in (admitted_by (Some after) b (range_or_none o)) y (ap (int_lt (upper b (format-ends o).greatest)) (high-far o) ∙ far-above (upper b (format-ends o).greatest) small)
    ∙ sym (none-in (admitted_by (Some last_number) b (range_or_none o)) y (ap (int_lt (upper b (format-ends o).greatest)) (high-near o) ∙ near-above (upper b (format-ends o).greatest) small))
  where
    small : int_le (upper b (format-ends o).greatest) (pos 9223372036854775807) ≡ true
    small = upper-small b (format-ends o).greatest (small-high o)

inner-low : (y : Range) (a : Option ℤ) (o : Option IntegerName) → lies_in (admitted_by a (Some before) (range_or_none o)) y ≡ lies_in (admitted_by a (Some first_number) (range_or_none o)) y
inner-low y a o =
    none-in (admitted_by a (Some before) (range_or_none o)) y (ap (λ z. int_lt z (lower a (format-ends o).least)) (low-far o) ∙ far-below (lower a (format-ends o).least) large)
    ∙ sym (none-in (admitted_by a (Some first_number) (range_or_none o)) y (ap (λ z. int_lt z (lower a (format-ends o).least)) (low-near o) ∙ near-below (lower a (format-ends o).least) large))
  where
    large : int_le (negsuc 9223372036854775807) (lower a (format-ends o).least) ≡ true
    large = lower-large a (format-ends o).least (small-low o)

-- ---- both

steps : {X : Type 0} (f : Option ℤ → Option ℤ → X) (a y b z : Option ℤ) → ((o : Option ℤ) → f (Some after) o ≡ f (Some last_number) o) → ((o : Option ℤ) → f o (Some before) ≡ f o (Some first_number)) → IsLeast a y → IsGreatest b z → f y z ≡ f a b
steps f a y b z high low l g = least l ∙ greatest g
  where
    least : IsLeast a y → f y z ≡ f a z
    least (inl p) = ap (λ x. f x z) p
    least (inr (p, q)) = ap (λ x. f x z) q ∙ sym (high z) ∙ sym (ap (λ x. f x z) p)

    greatest : IsGreatest b z → f a z ≡ f a b
    greatest (inl p) = ap (f a) p
    greatest (inr (p, q)) = ap (f a) q ∙ sym (low a) ∙ sym (ap (f a) p)

pub chosen-same : (m : Bool) (a y b z : Option ℤ) (o : Option IntegerName) → IsLeast a y → IsGreatest b z → chosen_by m y z (range_or_none o) ≡ chosen_by m a b (range_or_none o)
chosen-same m a y b z o l g = steps (λ x w. chosen_by m x w (range_or_none o)) a y b z (λ w. chosen-high m w o) (λ x. chosen-low m x o) l g

pub widened-same : (m : Bool) (n : IntegerName) (a y b z : Option ℤ) (o : Option IntegerName) → IsLeast a y → IsGreatest b z → is_widened m y z (range_or_none o) n ≡ is_widened m a b (range_or_none o) n
widened-same m n a y b z o l g =
    steps (λ x w. is_widened m x w (range_or_none o) n) a y b z (λ w. λ i. m || not (outer-high n w o i)) (λ x. λ i. m || not (outer-low n x o i)) l g

pub narrowed-same : (n : IntegerName) (a y b z : Option ℤ) (o : Option IntegerName) → IsLeast a y → IsGreatest b z → is_narrowed y z (range_or_none o) n ≡ is_narrowed a b (range_or_none o) n
narrowed-same n a y b z o l g =
    steps (λ x w. is_narrowed x w (range_or_none o) n) a y b z (λ w. λ i. not (inner-high (in_i64 (integer_range n)) w o i)) (λ x. λ i. not (inner-low (in_i64 (integer_range n)) x o i)) l g
