-- Types as trees spell the types that are meant.
use Rattle.std.proofs.Common.{◌≡◌, ◌<◌, ◌≤◌, ◌^◌, ◌+◌, ◌-◌, ◌*◌, ◌/◌, ◌%◌, ℕ, List, [], ◌∷◌, ◌++◌, Bool, true, false, ◌&&◌, cond, refl, sym, ap, ◌∙◌, Option, Some, None, codes, arith}
use Rattle.std.specs.Prelude.{nat_le}
use Rattle.std.specs.Fmt.{decimal}
use Rattle.std.proofs.lemmas.Bool.{le-leb}
use Rattle.std.proofs.lemmas.Fmt.{decimal_by_steps}
use Rattle.schema_defs.specs.Location.{place}
use Rattle.schema_defs.specs.declared.Format.{Format}
use Rattle.schema_defs.specs.declared.Format.TheVariants.{Uuid, Date, DateTime, Ip, Ipv4, Ipv6}
use Rattle.syntax_trees.specs.Syntax.{TyD, ty_tuple, Tys, end_tys, more_tys}
use Rattle.type_spellings.specs.Types.{array_of, word_type, plain_path, path_of_one, path_of_two, named_type, types_given, utc_given, number_from, number_of, is_utc, type_of}
use Rattle.model_defs.specs.Types.{TypeModel, TypeModels, type_then, boxed_type, option_type, vec_type, set_type, map_type, native_type, integer_type, item_type, tuple_type, no_types}
use Rattle.entry_defs.specs.Entry.{IntegerName, i8, u8, i16, u16, i32, u32, i64, u64, nonzero_u8, nonzero_u16, nonzero_u32, nonzero_u64, Target, Entry, boolean_entry, integer_entry, text_entry, native_entry, any_entry, unit_entry, option_entry, vec_entry, set_entry, map_entry, tuple_entry, array_entry, reference, item, Entries, no_entries, entry_then, entry_again}
use Rattle.entry_defs.specs.Layer.{integer_range}
use Rattle.emit_defs.specs.Models.{unboxed, used, type_again, type_model, type_models}
use Rattle.emit_defs.specs.Trees.{lone, in_std, of_one, option_ty, boxed_ty, map_ty, integer_ty, native_ty, used_ty, ty_again, entry_ty, entry_tys}
use Rattle.emit_defs.proofs.Digits.{place_by_steps}
use Rattle.emit_defs.specs.Spelled.{IsFree, IsWritten, AreWritten, TypesAreSpelled}

-- ---- numbers in decimal

digit_test : (d : ℕ) → d < 10 → (nat_le 48 (48 + d) && nat_le (48 + d) 57) ≡ true
digit_test d h =
    let low = le-leb 48 (48 + d) (omega arith) in
    let high = le-leb (48 + d) 57 (omega arith) in
    λ i. low i && high i

number_or : ℕ → Option ℕ → ℕ
number_or d None = d
number_or d (Some n) = n

none_some : (n : ℕ) → None ≡ Some n → ⊥
none_some n e = cc

one_more : (d : ℕ) → d < 10 → (a m : ℕ) (xs : List ℕ) → number_from a xs ≡ Some m → number_from a (xs ++ (48 + d) ∷ []) ≡ Some (m * 10 + d)
unfolding number_or
one_more d h a m [] e =
    let same : a ≡ m = ap (number_or a) e in
    let back : a * 10 + ((48 + d) - 48) ≡ m * 10 + d = omega arith in
    ap (λ b. cond b (Some (a * 10 + ((48 + d) - 48))) None) (digit_test d h) ∙ ap Some back
one_more d h a m (x ∷ xs) e =
    let rec = one_more d h (a * 10 + (x - 48)) m xs in
    elim (nat_le 48 x && nat_le x 57) as (λ b. cond b (number_from (a * 10 + (x - 48)) xs) None ≡ Some m → cond b (number_from (a * 10 + (x - 48)) (xs ++ (48 + d) ∷ [])) None ≡ Some (m * 10 + d)) [
      | true ↦ λ k. rec k
      | false ↦ λ k. absurd (none_some m k)
    ] e

one_digit : (n : ℕ) → n < 10 → number_of ((48 + n) ∷ []) ≡ Some n
one_digit n h =
    let back : 0 * 10 + ((48 + n) - 48) ≡ n = omega arith in
    ap (λ b. cond b (Some (0 * 10 + ((48 + n) - 48))) None) (digit_test n h) ∙ ap Some back

digit_more : (n : ℕ) (ds : List ℕ) → 10 ≤ n → number_of ds ≡ Some (n / 10) → number_of (ds ++ (48 + n % 10) ∷ []) ≡ Some n
digit_more n [] l e = absurd (none_some _ e)
digit_more n (x ∷ xs) l e =
    let back : n / 10 * 10 + n % 10 ≡ n = omega arith in
    one_more (n % 10) (omega arith) 0 (n / 10) (x ∷ xs) e ∙ ap Some back

pub number_written : (n : ℕ) → n < 2 ^ 64 → number_of (decimal n) ≡ Some n
number_written = decimal_by_steps (λ n ds. number_of ds ≡ Some n) one_digit digit_more

pub place_written : (n : ℕ) → number_of (place n) ≡ Some n
place_written = place_by_steps (λ n ds. number_of ds ≡ Some n) one_digit digit_more

-- ---- types

integer_spelled : (i : IntegerName) → type_of (integer_ty i) ≡ integer_type (integer_range i)
unfolding word_type plain_path
integer_spelled i8 = refl
integer_spelled u8 = refl
integer_spelled i16 = refl
integer_spelled u16 = refl
integer_spelled i32 = refl
integer_spelled u32 = refl
integer_spelled i64 = refl
integer_spelled u64 = refl
integer_spelled nonzero_u8 = refl
integer_spelled nonzero_u16 = refl
integer_spelled nonzero_u32 = refl
integer_spelled nonzero_u64 = refl

native_spelled : (f : Format) → type_of (native_ty f) ≡ native_type f
unfolding plain_path
native_spelled Uuid = refl
native_spelled Date = refl
native_spelled DateTime = refl
native_spelled Ip = refl
native_spelled Ipv4 = refl
native_spelled Ipv6 = refl

integer_no_utc : (i : IntegerName) → is_utc (integer_ty i) ≡ false
integer_no_utc i8 = refl
integer_no_utc u8 = refl
integer_no_utc i16 = refl
integer_no_utc u16 = refl
integer_no_utc i32 = refl
integer_no_utc u32 = refl
integer_no_utc i64 = refl
integer_no_utc u64 = refl
integer_no_utc nonzero_u8 = refl
integer_no_utc nonzero_u16 = refl
integer_no_utc nonzero_u32 = refl
integer_no_utc nonzero_u64 = refl

native_no_utc : (f : Format) → is_utc (native_ty f) ≡ false
native_no_utc Uuid = refl
native_no_utc Date = refl
native_no_utc DateTime = refl
native_no_utc Ip = refl
native_no_utc Ipv4 = refl
native_no_utc Ipv6 = refl

pub option_spelled : (t : TyD) → is_utc t ≡ false → type_of (option_ty t) ≡ option_type (type_of t)
unfolding path_of_one
option_spelled t h = ap (λ b. named_type true (codes "std" ∷ codes "option" ∷ codes "Option" ∷ []) (cond b utc_given (types_given (type_of t ∷ [])))) h

boxed_spelled : (t : TyD) → is_utc t ≡ false → type_of (boxed_ty t) ≡ boxed_type (type_of t)
unfolding path_of_one
boxed_spelled t h = ap (λ b. named_type true (codes "std" ∷ codes "boxed" ∷ codes "Box" ∷ []) (cond b utc_given (types_given (type_of t ∷ [])))) h

vec_spelled : (t : TyD) → is_utc t ≡ false → type_of (in_std (codes "vec") (codes "Vec") (of_one t)) ≡ vec_type (type_of t)
unfolding path_of_one
vec_spelled t h = ap (λ b. named_type true (codes "std" ∷ codes "vec" ∷ codes "Vec" ∷ []) (cond b utc_given (types_given (type_of t ∷ [])))) h

set_spelled : (t : TyD) → is_utc t ≡ false → type_of (in_std (codes "collections") (codes "HashSet") (of_one t)) ≡ set_type (type_of t)
unfolding path_of_one
set_spelled t h = ap (λ b. named_type true (codes "std" ∷ codes "collections" ∷ codes "HashSet" ∷ []) (cond b utc_given (types_given (type_of t ∷ [])))) h

pub map_spelled : (k t : TyD) → type_of (map_ty k t) ≡ map_type (type_of k) (type_of t)
unfolding path_of_two
map_spelled k t = refl

used_spelled : (b : List ℕ → Bool) (n : List ℕ) → IsFree n → type_of (used_ty b n) ≡ used b n
used_spelled b n h = elim (b n) as (λ x. type_of (cond x (boxed_ty (lone n)) (lone n)) ≡ cond x (boxed_type (item_type n)) (item_type n)) [
  | true ↦ boxed_spelled (lone n) refl ∙ ap boxed_type h
  | false ↦ h
]

used_no_utc : (b : List ℕ → Bool) (n : List ℕ) → is_utc (used_ty b n) ≡ false
used_no_utc b n = elim (b n) as (λ x. is_utc (cond x (boxed_ty (lone n)) (lone n)) ≡ false) [ true ↦ refl | false ↦ refl ]

abbrev pub places_of : TypeModel → TypeModels
places_of (tuple_type ts) = ts
places_of _ = no_types

pub tuple_step : (t : TyD) (ts : Tys) → type_of (ty_tuple (more_tys t ts)) ≡ tuple_type (type_then (type_of t) (places_of (type_of (ty_tuple ts))))
tuple_step t end_tys = refl
tuple_step t (more_tys u us) = refl

again_spelled : (ts : Tys) → places_of (type_of (ty_tuple (ty_again ts))) ≡ type_again (places_of (type_of (ty_tuple ts)))
unfolding plain_path
again_spelled end_tys = refl
again_spelled (more_tys t ts) = ap places_of (tuple_step t (more_tys t ts)) ∙ ap (λ z. type_then (type_of t) (places_of z)) (tuple_step t ts) ∙ sym (ap (λ z. type_again (places_of z)) (tuple_step t ts))

again_whole : (ts : Tys) (us : TypeModels) → places_of (type_of (ty_tuple ts)) ≡ us → type_of (ty_tuple (ty_again ts)) ≡ tuple_type (type_again us)
again_whole ts us h = whole_again ts ∙ ap tuple_type (again_spelled ts) ∙ ap (λ z. tuple_type (type_again z)) h
  where
    whole_again : (xs : Tys) → type_of (ty_tuple (ty_again xs)) ≡ tuple_type (places_of (type_of (ty_tuple (ty_again xs))))
    whole_again end_tys = refl
    whole_again (more_tys x xs) = refl

module _ (name : Target → List ℕ) where
  pub no_utc : (b : List ℕ → Bool) (e : Entry) → is_utc (entry_ty name b e) ≡ false
  no_utc b (integer_entry i) = integer_no_utc i
  no_utc b (native_entry f) = native_no_utc f
  no_utc b (reference q) = used_no_utc b (name q)
  no_utc b (item n s) = used_no_utc b n
  no_utc b _ = refl

  mutual
    unfolding word_type plain_path

    entry_spelled : (b : List ℕ → Bool) (e : Entry) → IsWritten name e → type_of (entry_ty name b e) ≡ type_model name b e
    entry_spelled b boolean_entry h = refl
    entry_spelled b (integer_entry i) h = integer_spelled i
    entry_spelled b text_entry h = refl
    entry_spelled b (native_entry f) h = native_spelled f
    entry_spelled b any_entry h = refl
    entry_spelled b unit_entry h = refl
    entry_spelled b (option_entry e) h = option_spelled (entry_ty name b e) (no_utc b e) ∙ ap option_type (entry_spelled b e h)
    entry_spelled b (vec_entry e) h = vec_spelled (entry_ty name unboxed e) (no_utc unboxed e) ∙ ap vec_type (entry_spelled unboxed e h)
    entry_spelled b (set_entry e) h = set_spelled (entry_ty name unboxed e) (no_utc unboxed e) ∙ ap set_type (entry_spelled unboxed e h)
    entry_spelled b (map_entry k e) h =
        let key = entry_spelled unboxed k h.0 in
        let one = entry_spelled unboxed e h.1 in
        map_spelled (entry_ty name unboxed k) (entry_ty name unboxed e) ∙ (λ i. map_type (key i) (one i))
    entry_spelled b (tuple_entry no_entries) h = absurd h.0
    entry_spelled b (tuple_entry (entry_then e es)) h =
        let one = entry_spelled b e h.1.0 in
        let rec = entries_spelled b es h.1.1 in
        tuple_step (entry_ty name b e) (entry_tys name b es) ∙ (λ i. tuple_type (type_then (one i) (rec i)))
    entry_spelled b (tuple_entry (entry_again es)) h = again_whole (entry_tys name b es) (type_models name b es) (entries_spelled b es h.1)
    entry_spelled b (array_entry e n) h =
        let one = entry_spelled b e h.1 in
        λ i. array_of (one i) (number_written n h.0 i)
    entry_spelled b (reference q) h = used_spelled b (name q) h
    entry_spelled b (item n s) h = used_spelled b n h

    pub entries_spelled : (b : List ℕ → Bool) (es : Entries) → AreWritten name es → places_of (type_of (ty_tuple (entry_tys name b es))) ≡ type_models name b es
    entries_spelled b no_entries h = refl
    entries_spelled b (entry_again es) h = again_spelled (entry_tys name b es) ∙ ap type_again (entries_spelled b es h)
    entries_spelled b (entry_then e es) h =
        let one = entry_spelled b e h.0 in
        let rec = entries_spelled b es h.1 in
        ap places_of (tuple_step (entry_ty name b e) (entry_tys name b es)) ∙ (λ i. type_then (one i) (rec i))

pub types_spelled : TypesAreSpelled
types_spelled name b e h = entry_spelled name b e h
