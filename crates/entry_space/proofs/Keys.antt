-- The program's test on keys is that of the definition, and keys that it finds the same are equal.
use Rattle.std.proofs.Common.{◌≡◌, ℕ, zero, suc, true, false, Bool, ◌&&◌, List, [], ◌∷◌, map, nat_eq, eqb-true, bytes_eq, refl, sym, ap, subst, ◌∙◌, true≢false}
use Rattle.std.proofs.lemmas.Slice.Eq.{bytes_eq-Decides}
use Rattle.std.specs.Cmp.{unsigned_Decides}
use Rattle.std.specs.Bool.{Decides, one_answer}
use lib.Pointwise.{pointwise}
use Rattle.schema_defs.specs.declared.Format.{Format}
use Rattle.schema_defs.specs.declared.Format.TheVariants.{Uuid, Date, DateTime, Ip, Ipv4, Ipv6}
use Rattle.schema_defs.specs.contracts.FormatPartialEq.TheImpl as formats
use Rattle.entry_types.specs.declared.entry.TypeId.{TypeId}
use Rattle.entry_types.specs.declared.entry.IntName.{IntName}
use Rattle.entry_types.specs.declared.entry.IntName.TheVariants as integers
use Rattle.entry_types.specs.contracts.entry.IntNamePartialEq.TheImpl as names
use Rattle.entry_types.specs.contracts.entry.TypeIdPartialEq.TheImpl as ids
use Rattle.entry_types.specs.View.{id_view, integer_view}
use Rattle.entry_defs.specs.Entry.{IntegerName, i8, u8, i16, u16, i32, u32, i64, u64, nonzero_u8, nonzero_u16, nonzero_u32, nonzero_u64}
use Rattle.entry_defs.specs.Space.{EntryAt, boolean_at, integer_at, text_at, native_at, any_at, null_at, option_at, vec_at, set_at, map_at, tuple_entry_at, array_at, reference_at, item_at}
use Rattle.entry_space.specs.declared.key.Key.{Key}
use Rattle.entry_space.specs.declared.key.Key.TheVariants as keys
use Rattle.entry_space.specs.contracts.key.KeyPartialEq.TheImpl as I
use Rattle.entry_space.specs.Keys.{integer_number, format_number, same_key, bare, no_shape, key_view}

-- ---- the program's test

integers-alike : (a b : IntName) → names.eq-value.it a b ≡ nat_eq (integer_number (integer_view a)) (integer_number (integer_view b))
integers-alike integers.I8 integers.I8 = refl
integers-alike integers.U8 integers.U8 = refl
integers-alike integers.I16 integers.I16 = refl
integers-alike integers.U16 integers.U16 = refl
integers-alike integers.I32 integers.I32 = refl
integers-alike integers.U32 integers.U32 = refl
integers-alike integers.I64 integers.I64 = refl
integers-alike integers.U64 integers.U64 = refl
integers-alike integers.NonZeroU8 integers.NonZeroU8 = refl
integers-alike integers.NonZeroU16 integers.NonZeroU16 = refl
integers-alike integers.NonZeroU32 integers.NonZeroU32 = refl
integers-alike integers.NonZeroU64 integers.NonZeroU64 = refl
integers-alike a b = refl

formats-alike : (a b : Format) → formats.eq-value.it a b ≡ nat_eq (format_number a) (format_number b)
formats-alike Uuid Uuid = refl
formats-alike Date Date = refl
formats-alike DateTime DateTime = refl
formats-alike Ip Ip = refl
formats-alike Ipv4 Ipv4 = refl
formats-alike Ipv6 Ipv6 = refl
formats-alike a b = refl

lists-alike : (is js : List TypeId) → pointwise ids.eq-value.it is js ≡ bytes_eq (map id_view is) (map id_view js)
lists-alike [] [] = refl
lists-alike [] (j ∷ js) = refl
lists-alike (i ∷ is) [] = refl
lists-alike (i ∷ is) (j ∷ js) = ap (λ b. nat_eq i.0 j.0 && b) (lists-alike is js)

pub keys-alike : (a b : Key) → I.eq-value.it a b ≡ same_key (key_view a) (key_view b)
keys-alike keys.Bool keys.Bool = refl
keys-alike (keys.Integer g) (keys.Integer h) = integers-alike g h
keys-alike keys.Text keys.Text = refl
keys-alike (keys.Native f) (keys.Native g) = formats-alike f g
keys-alike keys.Any keys.Any = refl
keys-alike keys.Unit keys.Unit = refl
keys-alike (keys.Option i) (keys.Option j) = refl
keys-alike (keys.Vec i) (keys.Vec j) = refl
keys-alike (keys.Set i) (keys.Set j) = refl
keys-alike (keys.Map k i) (keys.Map l j) = refl
keys-alike (keys.Tuple is) (keys.Tuple js) = lists-alike is.items js.items
keys-alike (keys.Array i m) (keys.Array j n) = refl
keys-alike (keys.Reference i) (keys.Reference j) = refl
keys-alike (keys.Item m) (keys.Item n) = refl
keys-alike a b = refl

-- ---- the same keys

integer_numbered : ℕ → IntegerName
integer_numbered zero = i8
integer_numbered (suc zero) = u8
integer_numbered (suc (suc zero)) = i16
integer_numbered (suc (suc (suc zero))) = u16
integer_numbered (suc (suc (suc (suc zero)))) = i32
integer_numbered (suc (suc (suc (suc (suc zero))))) = u32
integer_numbered (suc (suc (suc (suc (suc (suc zero)))))) = i64
integer_numbered (suc (suc (suc (suc (suc (suc (suc zero))))))) = u64
integer_numbered (suc (suc (suc (suc (suc (suc (suc (suc zero)))))))) = nonzero_u8
integer_numbered (suc (suc (suc (suc (suc (suc (suc (suc (suc zero))))))))) = nonzero_u16
integer_numbered (suc (suc (suc (suc (suc (suc (suc (suc (suc (suc zero)))))))))) = nonzero_u32
integer_numbered n = nonzero_u64

integer-back : (g : IntegerName) → integer_numbered (integer_number g) ≡ g
unfolding integer_numbered
integer-back i8 = refl
integer-back u8 = refl
integer-back i16 = refl
integer-back u16 = refl
integer-back i32 = refl
integer-back u32 = refl
integer-back i64 = refl
integer-back u64 = refl
integer-back nonzero_u8 = refl
integer-back nonzero_u16 = refl
integer-back nonzero_u32 = refl
integer-back nonzero_u64 = refl

format_numbered : ℕ → Format
format_numbered zero = Uuid
format_numbered (suc zero) = Date
format_numbered (suc (suc zero)) = DateTime
format_numbered (suc (suc (suc zero))) = Ip
format_numbered (suc (suc (suc (suc zero)))) = Ipv4
format_numbered n = Ipv6

format-back : (g : Format) → format_numbered (format_number g) ≡ g
unfolding format_numbered
format-back Uuid = refl
format-back Date = refl
format-back DateTime = refl
format-back Ip = refl
format-back Ipv4 = refl
format-back Ipv6 = refl

same-integer : (g h : IntegerName) → nat_eq (integer_number g) (integer_number h) ≡ true → g ≡ h
same-integer g h e = sym (integer-back g) ∙ ap integer_numbered (eqb-true _ _ e) ∙ integer-back h

same-format : (f g : Format) → nat_eq (format_number f) (format_number g) ≡ true → f ≡ g
same-format f g e = sym (format-back f) ∙ ap format_numbered (eqb-true _ _ e) ∙ format-back g

pub first-true : (a b : Bool) → (a && b) ≡ true → a ≡ true
first-true true b h = refl
first-true false b h = h

pub second-true : (a b : Bool) → (a && b) ≡ true → b ≡ true
second-true true b h = h
second-true false b h = absurd (true≢false (sym h))

pub both-true : (a b : Bool) → a ≡ true → b ≡ true → (a && b) ≡ true
both-true a b p q = λ i. p i && q i

pub same-bare : (a b : EntryAt) → same_key a b ≡ same_key (bare a) (bare b)
same-bare boolean_at boolean_at = refl
same-bare (integer_at g) (integer_at h) = refl
same-bare text_at text_at = refl
same-bare (native_at f) (native_at g) = refl
same-bare any_at any_at = refl
same-bare null_at null_at = refl
same-bare (option_at i) (option_at j) = refl
same-bare (vec_at i) (vec_at j) = refl
same-bare (set_at i) (set_at j) = refl
same-bare (map_at k i) (map_at l j) = refl
same-bare (tuple_entry_at is) (tuple_entry_at js) = refl
same-bare (array_at i m) (array_at j n) = refl
same-bare (reference_at i) (reference_at j) = refl
same-bare (item_at m s) (item_at n t) = refl
same-bare a b = refl

number-itself : (n : ℕ) → nat_eq n n ≡ true
number-itself n = (unsigned_Decides n n).1 refl

text-itself : (n : List ℕ) → bytes_eq n n ≡ true
text-itself n = (bytes_eq-Decides n n).1 refl

pub same-itself : (e : EntryAt) → same_key e e ≡ true
same-itself boolean_at = refl
same-itself (integer_at g) = number-itself (integer_number g)
same-itself text_at = refl
same-itself (native_at f) = number-itself (format_number f)
same-itself any_at = refl
same-itself null_at = refl
same-itself (option_at i) = number-itself i
same-itself (vec_at i) = number-itself i
same-itself (set_at i) = number-itself i
same-itself (map_at k i) = both-true _ _ (number-itself k) (number-itself i)
same-itself (tuple_entry_at is) = text-itself is
same-itself (array_at i n) = both-true _ _ (number-itself i) (number-itself n)
same-itself (reference_at i) = number-itself i
same-itself (item_at n s) = text-itself n

-- entries of one key are equal but for the shapes of items
pub same-is : (a b : EntryAt) → same_key a b ≡ true → bare a ≡ bare b
same-is boolean_at boolean_at h = refl
same-is (integer_at g) (integer_at k) h = ap integer_at (same-integer g k h)
same-is text_at text_at h = refl
same-is (native_at f) (native_at g) h = ap native_at (same-format f g h)
same-is any_at any_at h = refl
same-is null_at null_at h = refl
same-is (option_at i) (option_at j) h = ap option_at (eqb-true i j h)
same-is (vec_at i) (vec_at j) h = ap vec_at (eqb-true i j h)
same-is (set_at i) (set_at j) h = ap set_at (eqb-true i j h)
same-is (map_at k i) (map_at l j) h =
    let p = eqb-true k l (first-true (nat_eq k l) (nat_eq i j) h) in let q = eqb-true i j (second-true (nat_eq k l) (nat_eq i j) h) in λ x. map_at (p x) (q x)
same-is (tuple_entry_at is) (tuple_entry_at js) h = ap tuple_entry_at ((bytes_eq-Decides is js).0 h)
same-is (array_at i m) (array_at j n) h =
    let p = eqb-true i j (first-true (nat_eq i j) (nat_eq m n) h) in let q = eqb-true m n (second-true (nat_eq i j) (nat_eq m n) h) in λ x. array_at (p x) (q x)
same-is (reference_at i) (reference_at j) h = ap reference_at (eqb-true i j h)
same-is (item_at m s) (item_at n t) h = ap (λ k. item_at k no_shape) ((bytes_eq-Decides m n).0 h)
same-is a b h = absurd (true≢false (sym h))

pub same-decides : (a b : EntryAt) → Decides (same_key a b) (bare a ≡ bare b)
same-decides a b = (same-is a b, λ h. same-bare a b ∙ subst (λ x. same_key (bare a) x ≡ true) h (same-itself (bare a)))

pub same-turned : (a b : EntryAt) → same_key a b ≡ same_key b a
same-turned a b = let d = same-decides b a in one_answer (same_key a b) (same_key b a) (same-decides a b) (λ h. sym (d.0 h), λ h. d.1 (sym h))

-- a key is bare
pub bare-key : (k : Key) → bare (key_view k) ≡ key_view k
bare-key keys.Bool = refl
bare-key (keys.Integer g) = refl
bare-key keys.Text = refl
bare-key (keys.Native f) = refl
bare-key keys.Any = refl
bare-key keys.Unit = refl
bare-key (keys.Option i) = refl
bare-key (keys.Vec i) = refl
bare-key (keys.Set i) = refl
bare-key (keys.Map k i) = refl
bare-key (keys.Tuple is) = refl
bare-key (keys.Array i n) = refl
bare-key (keys.Reference i) = refl
bare-key (keys.Item n) = refl

-- the program's test on keys of entries is that on the entries
pub found-alike : (k l : Key) (e f : EntryAt) → key_view k ≡ bare e → key_view l ≡ bare f → I.eq-value.it k l ≡ same_key e f
found-alike k l e f p q = keys-alike k l ∙ (λ i. same_key (p i) (q i)) ∙ sym (same-bare e f)

pub keyed-is : (k : Key) (e : EntryAt) → same_key (key_view k) e ≡ true → key_view k ≡ bare e
keyed-is k e h = sym (bare-key k) ∙ same-is (key_view k) e h

pub keyed-by : (k : Key) (e : EntryAt) → key_view k ≡ bare e → same_key (key_view k) e ≡ true
keyed-by k e h = (same-decides (key_view k) e).1 (bare-key k ∙ h)
