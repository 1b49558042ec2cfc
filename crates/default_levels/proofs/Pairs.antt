-- The stated defaults that stand in an entry, each with the entry of its field.
use Rattle.std.proofs.Common.{◌≡◌, ℕ, ◌+◌, List, [], ◌∷◌, ◌++◌, length, refl, length-append, arith}
use Rattle.std.specs.Prelude.{⊤}
use Rattle.json_value.specs.Value.{Value}
use Rattle.entry_defs.specs.Entry.{State, required, optional, stated, Entry, boolean_entry, integer_entry, text_entry, native_entry, any_entry, unit_entry, option_entry, vec_entry, set_entry, map_entry, tuple_entry, array_entry, reference, item, Entries, no_entries, entry_then, entry_again, Shape, struct_shape, enum_shape, newtype_shape, Fields, no_fields, field_then, field_again, rest_field, Variants, no_variants, variant_then, Contents, unit_contents, newtype_contents, tuple_contents, struct_contents}
use Rattle.entry_defs.specs.Table.{TargetEntry}
use Rattle.default_defs.specs.Supplied.{stated_by, stated_in, stated_in_entries, stated_in_shape, stated_in_fields, stated_in_variants, stated_in_contents, stated_in_targets}

abbrev pub Stated : Type 0
Stated = Entry × Value

abbrev pub by_state : Entry → State → List Stated
by_state e required = []
by_state e optional = []
by_state e (stated v) = (e, v) ∷ []

abbrev mutual
  pub pairs : Entry → List Stated
  pairs (option_entry e) = pairs e
  pairs (vec_entry e) = pairs e
  pairs (set_entry e) = pairs e
  pairs (map_entry k e) = pairs k ++ pairs e
  pairs (tuple_entry es) = in_entries es
  pairs (array_entry e n) = pairs e
  pairs (item n s) = in_shape s
  pairs _ = []

  pub in_entries : Entries → List Stated
  in_entries no_entries = []
  in_entries (entry_then e es) = pairs e ++ in_entries es
  in_entries (entry_again es) = in_entries es

  pub in_shape : Shape → List Stated
  in_shape (struct_shape closed fs) = in_fields fs
  in_shape (enum_shape closed tag ws) = in_variants ws
  in_shape (newtype_shape e rule) = pairs e

  pub in_fields : Fields → List Stated
  in_fields no_fields = []
  in_fields (field_then i n e s fs) = by_state e s ++ (pairs e ++ in_fields fs)
  in_fields (field_again i n fs) = in_fields fs
  in_fields (rest_field i e) = pairs e

  pub in_variants : Variants → List Stated
  in_variants no_variants = []
  in_variants (variant_then i n c ws) = in_contents c ++ in_variants ws

  pub in_contents : Contents → List Stated
  in_contents unit_contents = []
  in_contents (newtype_contents e) = pairs e
  in_contents (tuple_contents es) = in_entries es
  in_contents (struct_contents fs) = in_fields fs

abbrev pub in_targets : List TargetEntry → List Stated
in_targets [] = []
in_targets (t ∷ ts) = in_shape t.led_to.shape ++ in_targets ts

-- ---- as many as are counted

summed : (xs ys : List Stated) (m n : ℕ) → length xs ≡ m → length ys ≡ n → length (xs ++ ys) ≡ m + n
summed xs ys m n h k = omega (arith, length-append xs ys, h, k)

one_by_state : (e : Entry) (s : State) → length (by_state e s) ≡ stated_by s
one_by_state e required = refl
one_by_state e optional = refl
one_by_state e (stated v) = refl

mutual
  pub as_many : (e : Entry) → length (pairs e) ≡ stated_in e
  as_many (option_entry e) = as_many e
  as_many (vec_entry e) = as_many e
  as_many (set_entry e) = as_many e
  as_many (map_entry k e) = summed (pairs k) (pairs e) (stated_in k) (stated_in e) (as_many k) (as_many e)
  as_many (tuple_entry es) = as_many_entries es
  as_many (array_entry e n) = as_many e
  as_many (item n s) = as_many_shape s
  as_many boolean_entry = refl
  as_many (integer_entry g) = refl
  as_many text_entry = refl
  as_many (native_entry f) = refl
  as_many any_entry = refl
  as_many unit_entry = refl
  as_many (reference q) = refl

  as_many_entries : (es : Entries) → length (in_entries es) ≡ stated_in_entries es
  as_many_entries no_entries = refl
  as_many_entries (entry_then e es) = summed (pairs e) (in_entries es) (stated_in e) (stated_in_entries es) (as_many e) (as_many_entries es)
  as_many_entries (entry_again es) = as_many_entries es

  as_many_shape : (s : Shape) → length (in_shape s) ≡ stated_in_shape s
  as_many_shape (struct_shape closed fs) = as_many_fields fs
  as_many_shape (enum_shape closed tag ws) = as_many_variants ws
  as_many_shape (newtype_shape e rule) = as_many e

  as_many_fields : (fs : Fields) → length (in_fields fs) ≡ stated_in_fields fs
  as_many_fields no_fields = refl
  as_many_fields (field_then i n e s fs) =
      let a = one_by_state e s in
      let b = as_many e in
      let c = as_many_fields fs in
      omega (arith, length-append (by_state e s) (pairs e ++ in_fields fs), length-append (pairs e) (in_fields fs), a, b, c)
  as_many_fields (field_again i n fs) = as_many_fields fs
  as_many_fields (rest_field i e) = as_many e

  as_many_variants : (ws : Variants) → length (in_variants ws) ≡ stated_in_variants ws
  as_many_variants no_variants = refl
  as_many_variants (variant_then i n c ws) = summed (in_contents c) (in_variants ws) (stated_in_contents c) (stated_in_variants ws) (as_many_contents c) (as_many_variants ws)

  as_many_contents : (c : Contents) → length (in_contents c) ≡ stated_in_contents c
  as_many_contents unit_contents = refl
  as_many_contents (newtype_contents e) = as_many e
  as_many_contents (tuple_contents es) = as_many_entries es
  as_many_contents (struct_contents fs) = as_many_fields fs

as_many_targets : (ts : List TargetEntry) → length (in_targets ts) ≡ stated_in_targets ts
as_many_targets [] = refl
as_many_targets (t ∷ ts) =
    summed (in_shape t.led_to.shape) (in_targets ts) (stated_in_shape t.led_to.shape) (stated_in_targets ts) (as_many_shape t.led_to.shape) (as_many_targets ts)

pub as_many_in_all : (ts : List TargetEntry) (e : Entry) → length (in_targets ts ++ pairs e) ≡ stated_in_targets ts + stated_in e
as_many_in_all ts e = summed (in_targets ts) (pairs e) (stated_in_targets ts) (stated_in e) (as_many_targets ts) (as_many e)

-- ---- what holds of each of them

module _ (P : Entry → Value → Type 0) where
  abbrev pub Each : List Stated → Type 0
  Each [] = ⊤
  Each (x ∷ xs) = P x.0 x.1 × Each xs

  pub front : (xs ys : List Stated) → Each (xs ++ ys) → Each xs
  front [] ys h = tt
  front (x ∷ xs) ys h = (h.0, front xs ys h.1)

  pub behind : (xs ys : List Stated) → Each (xs ++ ys) → Each ys
  behind [] ys h = h
  behind (x ∷ xs) ys h = behind xs ys h.1

  pub joined : (xs ys : List Stated) → Each xs → Each ys → Each (xs ++ ys)
  joined [] ys h k = k
  joined (x ∷ xs) ys h k = (h.0, joined xs ys h.1 k)

  pub everywhere : ((e : Entry) (v : Value) → P e v) → (xs : List Stated) → Each xs
  everywhere h [] = tt
  everywhere h (x ∷ xs) = (h x.0 x.1, everywhere h xs)

module _ (P Q : Entry → Value → Type 0) (leads : (e : Entry) (v : Value) → P e v → Q e v) where
  pub each_as : (xs : List Stated) → Each P xs → Each Q xs
  each_as [] h = tt
  each_as (x ∷ xs) h = (leads x.0 x.1 h.0, each_as xs h.1)

module _ (P Q R : Entry → Value → Type 0) (lead : (e : Entry) (v : Value) → P e v → Q e v → R e v) where
  pub each_by : (xs : List Stated) → Each P xs → Each Q xs → Each R xs
  each_by [] h k = tt
  each_by (x ∷ xs) h k = (lead x.0 x.1 h.0 k.0, each_by xs h.1 k.1)

module _ (P : ℕ → Entry → Value → Type 0) where
  pub each_swapped : (xs : List Stated) → ((j : ℕ) → Each (P j) xs) → Each (λ e v. (j : ℕ) → P j e v) xs
  each_swapped [] h = tt
  each_swapped (x ∷ xs) h = (λ j. (h j).0, each_swapped xs (λ j. (h j).1))

-- ---- and of each that stands in their entries

module _ (P : Entry → Value → Type 0) where
  abbrev pub Inner : Entry → Value → Type 0
  Inner e v = Each P (pairs e)

  inner_by_state : (e : Entry) (s : State) → Each P (pairs e) → Each Inner (by_state e s)
  inner_by_state e required h = tt
  inner_by_state e optional h = tt
  inner_by_state e (stated v) h = (h, tt)

  mutual
    pub inner : (e : Entry) → Each P (pairs e) → Each Inner (pairs e)
    inner (option_entry e) h = inner e h
    inner (vec_entry e) h = inner e h
    inner (set_entry e) h = inner e h
    inner (map_entry k e) h = joined Inner (pairs k) (pairs e) (inner k (front P (pairs k) (pairs e) h)) (inner e (behind P (pairs k) (pairs e) h))
    inner (tuple_entry es) h = inner_entries es h
    inner (array_entry e n) h = inner e h
    inner (item n s) h = inner_shape s h
    inner boolean_entry h = tt
    inner (integer_entry g) h = tt
    inner text_entry h = tt
    inner (native_entry f) h = tt
    inner any_entry h = tt
    inner unit_entry h = tt
    inner (reference q) h = tt

    inner_entries : (es : Entries) → Each P (in_entries es) → Each Inner (in_entries es)
    inner_entries no_entries h = tt
    inner_entries (entry_then e es) h =
        joined Inner (pairs e) (in_entries es) (inner e (front P (pairs e) (in_entries es) h)) (inner_entries es (behind P (pairs e) (in_entries es) h))
    inner_entries (entry_again es) h = inner_entries es h

    inner_shape : (s : Shape) → Each P (in_shape s) → Each Inner (in_shape s)
    inner_shape (struct_shape closed fs) h = inner_fields fs h
    inner_shape (enum_shape closed tag ws) h = inner_variants ws h
    inner_shape (newtype_shape e rule) h = inner e h

    inner_fields : (fs : Fields) → Each P (in_fields fs) → Each Inner (in_fields fs)
    inner_fields no_fields h = tt
    inner_fields (field_then i n e s fs) h =
        let after = behind P (by_state e s) (pairs e ++ in_fields fs) h in
        let own = front P (pairs e) (in_fields fs) after in
        joined Inner (by_state e s) (pairs e ++ in_fields fs) (inner_by_state e s own)
        (joined Inner (pairs e) (in_fields fs) (inner e own) (inner_fields fs (behind P (pairs e) (in_fields fs) after)))
    inner_fields (field_again i n fs) h = inner_fields fs h
    inner_fields (rest_field i e) h = inner e h

    inner_variants : (ws : Variants) → Each P (in_variants ws) → Each Inner (in_variants ws)
    inner_variants no_variants h = tt
    inner_variants (variant_then i n c ws) h =
        joined Inner (in_contents c) (in_variants ws) (inner_contents c (front P (in_contents c) (in_variants ws) h)) (inner_variants ws (behind P (in_contents c) (in_variants ws) h))

    inner_contents : (c : Contents) → Each P (in_contents c) → Each Inner (in_contents c)
    inner_contents unit_contents h = tt
    inner_contents (newtype_contents e) h = inner e h
    inner_contents (tuple_contents es) h = inner_entries es h
    inner_contents (struct_contents fs) h = inner_fields fs h

  inner_targets : (ts : List TargetEntry) → Each P (in_targets ts) → Each Inner (in_targets ts)
  inner_targets [] h = tt
  inner_targets (t ∷ ts) h =
      let s = t.led_to.shape in
      joined Inner (in_shape s) (in_targets ts) (inner_shape s (front P (in_shape s) (in_targets ts) h)) (inner_targets ts (behind P (in_shape s) (in_targets ts) h))

  pub inner_all : (ts : List TargetEntry) (e : Entry) → Each P (in_targets ts ++ pairs e) → Each Inner (in_targets ts ++ pairs e)
  inner_all ts e h =
      joined Inner (in_targets ts) (pairs e) (inner_targets ts (front P (in_targets ts) (pairs e) h)) (inner e (behind P (in_targets ts) (pairs e) h))
