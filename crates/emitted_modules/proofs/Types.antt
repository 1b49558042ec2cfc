-- The tokens of emitted types.
use Rattle.std.proofs.Common.{◌≡◌, ◌<◌, ◌≤◌, ◌^◌, ◌+◌, ℕ, Bool, true, false, ◌&&◌, ◌||◌, cond, eqb, true≢false, List, [], ◌∷◌, ◌++◌, length, take, Some, codes, refl, ap, sym, subst, ◌∙◌, add-one, arith, encode_utf8_all}
use Rattle.std.specs.Prelude.{Option, nat_le, nat_lt, ◌==◌}
use Rattle.std.specs.List.{list_all, list_any, AllByRecursion}
use Rattle.std.specs.Fmt.{decimal}
use Rattle.std.specs.Char.{is_ascii_digit, is_whitespace}
use Rattle.std.specs.Str.{IsAscii}
use Rattle.std.proofs.Math.Seq.{take-length}
use Rattle.std.proofs.lemmas.Bool.{and_parts, le-leb, ltb-true, eqb-true}
use Rattle.std.proofs.lemmas.Fmt.{IsAscii-decimal, decimal_nonempty}
use Rattle.std.proofs.lemmas.Str.{chars-IsAscii, encodes-IsAscii, IsUtf8-from_ascii, scalars-chars}
use Rattle.unicode_ident.specs.Ident.{is_xid_continue}
use Rattle.token_trees.specs.Token.{Tok, digits, fixed, site}
use Rattle.token_trees.specs.Text.{Piece, name, sign as mark, constant}
use Rattle.rust_tokens.specs.Front.{name_len, name_span, begins_name, is_punctuation, spacing_of, string_front, bracket, front}
use Rattle.schema_defs.specs.declared.Format.{Format}
use Rattle.schema_defs.specs.declared.Format.TheVariants.{Uuid, Date, DateTime, Ip, Ipv4, Ipv6}
use Rattle.syntax_trees.specs.Syntax.{TyD, Tys, end_tys, more_tys, ArgumentsD, no_arguments, segments_of}
use Rattle.syntax_printing.specs.Print.{sign, when, any_ty as has_any, print_ty, print_tys, print_arguments, print_segments}
use Rattle.entry_defs.specs.Entry.{IntegerName, i8, u8, i16, u16, i32, u32, i64, u64, nonzero_u8, nonzero_u16, nonzero_u32, nonzero_u64, Target, Entry, boolean_entry, integer_entry, text_entry, native_entry, any_entry, unit_entry, option_entry, vec_entry, set_entry, map_entry, tuple_entry, array_entry, reference, item, Entries, no_entries, entry_then, entry_again}
use Rattle.naming_defs.specs.Good.{is_good_name}
use Rattle.emit_defs.specs.Formed.{EntryIsFormed, EntriesAreFormed}
use Rattle.emit_defs.specs.Models.{unboxed}
use Rattle.emit_defs.specs.Trees.{lone, segments_to, of_one, of_two, option_ty, boxed_ty, map_ty, text_ty, integer_ty, utc_ty, native_ty, used_ty, any_ty, ty_again, entry_ty, entry_tys}
use Rattle.emit_texts.specs.Laws.{NamesAreGood, AllNamesAreGood}
use Rattle.emit_texts.proofs.Names.{all_len}
use Rattle.emit_texts.proofs.Functions.{IsDigit, digits_of, all_go_on}
use Rattle.tidy_laws.specs.Laws.{IsToken}
use Rattle.module_laws.proofs.Joins.{Are}
use Rattle.emitted_modules.proofs.Stand.{are_both, comma, colon, joint_colon, semicolon, less, greater, in_parens, in_brackets, good_name, is_written, own}
use lib.Utf8.{scalars}

-- ---- numbers

digit_test : (c : ℕ) → IsDigit c → is_ascii_digit c ≡ true
digit_test c d =
    let l = d.0 in
    let r = d.1 in
    λ i. le-leb 48 c l i && le-leb c 57 (omega arith) i

no_lt : (a b : ℕ) → b ≤ a → nat_lt a b ≡ false
no_lt a b h = elim (nat_lt a b) as (λ z. nat_lt a b ≡ z → z ≡ false) [
  | true ↦ λ e. let l = ltb-true a b e in absurd (omega arith)
  | false ↦ λ e. refl
] refl

apart : (c k : ℕ) → (c ≡ k → ⊥) → eqb c k ≡ false
apart c k h = elim (eqb c k) as (λ z. eqb c k ≡ z → z ≡ false) [
  | true ↦ λ e. absurd (h (eqb-true c k e))
  | false ↦ λ e. refl
] refl

and_no : (a : Bool) {b : Bool} → b ≡ false → (a && b) ≡ false
and_no true h = h
and_no false h = refl

digit_no_white : (c : ℕ) → IsDigit c → is_whitespace c ≡ false
digit_no_white c d =
    let l = d.0 in
    let r = d.1 in
    let a = and_no (nat_lt 8 c) (no_lt c 14 (omega arith)) in
    let b = apart c 32 (λ e. omega arith) in
    let e = apart c 133 (λ e. omega arith) in
    let f = apart c 160 (λ e. omega arith) in
    let g = apart c 5760 (λ e. omega arith) in
    let h : (nat_lt 8191 c && nat_lt c 8203) ≡ false = ap (λ z. z && nat_lt c 8203) (no_lt 8191 c (omega arith)) in
    let i1 = apart c 8232 (λ e. omega arith) in
    let i2 = apart c 8233 (λ e. omega arith) in
    let i3 = apart c 8239 (λ e. omega arith) in
    let i4 = apart c 8287 (λ e. omega arith) in
    let i5 = apart c 12288 (λ e. omega arith) in
    λ i. ((((((((((a i || b i) || e i) || f i) || g i) || h i) || i1 i) || i2 i) || i3 i) || i4 i) || i5 i)

number_front : (c : ℕ) (cs : List ℕ) → IsDigit c → list_all is_xid_continue cs ≡ true → front (c ∷ cs) ≡ Some (constant (digits (encode_utf8_all (c ∷ cs))), length (c ∷ cs))
number_front c cs d h =
    let number = λ (k : ℕ). Some (constant (digits (encode_utf8_all (take k (c ∷ cs)))), k) in
    let others : Option (Piece × ℕ) =
    cond (c == 34) (string_front cs) (cond (is_punctuation c) (Some (mark c (spacing_of c cs), 1)) (cond (begins_name c) (let n = name_span c cs in Some (name (encode_utf8_all (take n (c ∷ cs))), n)) (bracket c))) in
    ap (λ z. cond z (number (name_len cs + 1)) others) (digit_test c d)
    ∙ ap number (ap (λ k. k + 1) (all_len cs h) ∙ add-one (length cs))
    ∙ ap (λ l. Some (constant (digits (encode_utf8_all l)), length (c ∷ cs))) (take-length (c ∷ cs))

digits_stand : (ds : List ℕ) → 0 < length ds → AllByRecursion IsDigit ds → IsAscii ds → IsToken (constant (digits ds))
digits_stand [] l h a = absurd (omega arith)
digits_stand (c ∷ cs) l h a =
    let S : List ℕ → Type 0 = λ z. scalars z ≡ true in
    record {
      first = c;
      others = cs;
      count = length (c ∷ cs);
      solid = digit_no_white c h.0;
      scalar_values = subst S (chars-IsAscii (c ∷ cs) a) (scalars-chars (c ∷ cs) (IsUtf8-from_ascii (c ∷ cs) a));
      found = number_front c cs h.0 (all_go_on cs h.1) ∙ ap (λ z. Some (constant (digits z), length (c ∷ cs))) (encodes-IsAscii (c ∷ cs) a);
    }

number : (n : ℕ) → n < 2 ^ 64 → IsToken (constant (digits (decimal n)))
number n h = digits_stand (decimal n) (decimal_nonempty n h) (digits_of n h) (IsAscii-decimal n h)

-- ---- paths

abbrev AreNames : List (List ℕ) → Type 0
AreNames ms = AllByRecursion (λ m. IsToken (name m)) ms

all_own : (ms : List (List ℕ)) → list_all is_written ms ≡ true → AreNames ms
all_own [] h = tt
all_own (m ∷ ms) h = let p = and_parts (is_written m) (list_all is_written ms) h in (own m p.0, all_own ms p.1)

to_are : (ms : List (List ℕ)) (n : List ℕ) (a : ArgumentsD) → AreNames ms → IsToken (name n) → Are (print_arguments a) → Are (print_segments 0 true (segments_of (segments_to ms n a)))
to_are [] n a h k g = (joint_colon, (colon, (k, are_both (print_arguments a ++ []) [] (are_both (print_arguments a) [] g tt) tt)))
to_are (m ∷ ms) n a h k g = (joint_colon, (colon, (h.0, to_are ms n a h.1 k g)))

-- such as emission itself writes
path_are : (ms : List (List ℕ)) (n : List ℕ) (a : ArgumentsD) → list_all is_written ms ≡ true → is_written n ≡ true → Are (print_arguments a) → Are (print_segments 0 true (segments_of (segments_to ms n a)))
path_are ms n a h k g = to_are ms n a (all_own ms h) (own n k) g

one_are : (t : TyD) → Are (print_ty t) → Are (print_arguments (of_one t))
one_are t h = (less, are_both (print_ty t ++ []) (sign 62 ∷ []) (are_both (print_ty t) [] h tt) (greater, tt))

two_are : (k t : TyD) → Are (print_ty k) → Are (print_ty t) → Are (print_arguments (of_two k t))
two_are k t h g =
    let rest : List Tok = sign 44 ∷ (print_ty t ++ []) in
    (less, are_both (print_ty k ++ rest) (sign 62 ∷ []) (are_both (print_ty k) rest h (comma, are_both (print_ty t) [] g tt)) (greater, tt))

abbrev std : List ℕ → List (List ℕ)
std m = codes "std" ∷ m ∷ []

plain_are : (m n : List ℕ) → list_all is_written (std m) ≡ true → is_written n ≡ true → Are (print_segments 0 true (segments_of (segments_to (std m) n no_arguments)))
plain_are m n h k = path_are (std m) n no_arguments h k tt

integer_are : (i : IntegerName) → Are (print_ty (integer_ty i))
integer_are i8 = (own (codes "i8") refl, tt)
integer_are u8 = (own (codes "u8") refl, tt)
integer_are i16 = (own (codes "i16") refl, tt)
integer_are u16 = (own (codes "u16") refl, tt)
integer_are i32 = (own (codes "i32") refl, tt)
integer_are u32 = (own (codes "u32") refl, tt)
integer_are i64 = (own (codes "i64") refl, tt)
integer_are u64 = (own (codes "u64") refl, tt)
integer_are nonzero_u8 = plain_are (codes "num") (codes "NonZeroU8") refl refl
integer_are nonzero_u16 = plain_are (codes "num") (codes "NonZeroU16") refl refl
integer_are nonzero_u32 = plain_are (codes "num") (codes "NonZeroU32") refl refl
integer_are nonzero_u64 = plain_are (codes "num") (codes "NonZeroU64") refl refl

utc_are : Are (print_ty utc_ty)
utc_are = path_are (codes "chrono" ∷ codes "offset" ∷ []) (codes "Utc") no_arguments refl refl tt

native_are : (f : Format) → Are (print_ty (native_ty f))
native_are Uuid = path_are (codes "uuid" ∷ []) (codes "Uuid") no_arguments refl refl tt
native_are Date = path_are (codes "chrono" ∷ codes "naive" ∷ []) (codes "NaiveDate") no_arguments refl refl tt
native_are DateTime = path_are (codes "chrono" ∷ []) (codes "DateTime") (of_one utc_ty) refl refl (one_are utc_ty utc_are)
native_are Ip = plain_are (codes "net") (codes "IpAddr") refl refl
native_are Ipv4 = plain_are (codes "net") (codes "Ipv4Addr") refl refl
native_are Ipv6 = plain_are (codes "net") (codes "Ipv6Addr") refl refl

pub text_are : Are (print_ty text_ty)
text_are = plain_are (codes "string") (codes "String") refl refl

any_are : Are (print_ty any_ty)
any_are = path_are (codes "serde_json" ∷ []) (codes "Value") no_arguments refl refl tt

pub option_are : (t : TyD) → Are (print_ty t) → Are (print_ty (option_ty t))
option_are t h = path_are (std (codes "option")) (codes "Option") (of_one t) refl refl (one_are t h)

boxed_are : (t : TyD) → Are (print_ty t) → Are (print_ty (boxed_ty t))
boxed_are t h = path_are (std (codes "boxed")) (codes "Box") (of_one t) refl refl (one_are t h)

pub map_are : (k t : TyD) → Are (print_ty k) → Are (print_ty t) → Are (print_ty (map_ty k t))
map_are k t h g = path_are (std (codes "collections")) (codes "HashMap") (of_two k t) refl refl (two_are k t h g)

lone_are : (n : List ℕ) → is_good_name n ≡ true → Are (print_ty (lone n))
lone_are n g = (good_name n g, tt)

used_are : (b : List ℕ → Bool) (n : List ℕ) → is_good_name n ≡ true → Are (print_ty (used_ty b n))
used_are b n g = elim (b n) as (λ z. Are (print_ty (cond z (boxed_ty (lone n)) (lone n)))) [
  | true ↦ boxed_are (lone n) (lone_are n g)
  | false ↦ lone_are n g
]

-- ---- types by place

abbrev pub AreTys : Tys → Type 0
AreTys end_tys = Unit {0}
AreTys (more_tys t ts) = Are (print_ty t) × AreTys ts

again_are : (ts : Tys) → AreTys ts → AreTys (ty_again ts)
again_are end_tys h = (any_are, tt)
again_are (more_tys t ts) h = (h.0, h)

when_are : (b : Bool) → Are (when b (sign 44 ∷ []))
when_are true = (comma, tt)
when_are false = tt

places_are : (b : Bool) (ts : Tys) → AreTys ts → Are (print_tys b ts)
places_are b end_tys h = tt
places_are b (more_tys t ts) h = are_both (when b (sign 44 ∷ []) ++ print_ty t) (print_tys true ts) (are_both (when b (sign 44 ∷ [])) (print_ty t) (when_are b) h.0) (places_are true ts h.1)

-- ---- entries

module _ (name_of : Target → List ℕ) where
  mutual
    pub entry_are : (b : List ℕ → Bool) (e : Entry) → EntryIsFormed e → NamesAreGood name_of e → Are (print_ty (entry_ty name_of b e))
    entry_are b boolean_entry f g = (own (codes "bool") refl, tt)
    entry_are b (integer_entry i) f g = integer_are i
    entry_are b text_entry f g = text_are
    entry_are b (native_entry x) f g = native_are x
    entry_are b any_entry f g = any_are
    entry_are b unit_entry f g = in_parens [] tt
    entry_are b (option_entry e) f g = option_are (entry_ty name_of b e) (entry_are b e f g)
    entry_are b (vec_entry e) f g = let t = entry_ty name_of unboxed e in path_are (std (codes "vec")) (codes "Vec") (of_one t) refl refl (one_are t (entry_are unboxed e f g))
    entry_are b (set_entry e) f g = let t = entry_ty name_of unboxed e in path_are (std (codes "collections")) (codes "HashSet") (of_one t) refl refl (one_are t (entry_are unboxed e f g))
    entry_are b (map_entry k e) f g = map_are (entry_ty name_of unboxed k) (entry_ty name_of unboxed e) (entry_are unboxed k f.0 g.0) (entry_are unboxed e f.1 g.1)
    entry_are b (tuple_entry es) f g =
        let ts = entry_tys name_of b es in
        in_parens (print_tys false ts ++ when (has_any ts) (sign 44 ∷ [])) (are_both (print_tys false ts) (when (has_any ts) (sign 44 ∷ [])) (places_are false ts (entries_are b es f.1 g)) (when_are (has_any ts)))
    entry_are b (array_entry e n) f g =
        let t = entry_ty name_of b e in
        let rest : List Tok = sign 59 ∷ fixed (digits (decimal n)) site ∷ [] in
        in_brackets (print_ty t ++ rest) (are_both (print_ty t) rest (entry_are b e f.1 g) (semicolon, (number n f.0, tt)))
    entry_are b (reference q) f g = used_are b (name_of q) g
    entry_are b (item n s) f g = used_are b n g

    pub entries_are : (b : List ℕ → Bool) (es : Entries) → EntriesAreFormed es → AllNamesAreGood name_of es → AreTys (entry_tys name_of b es)
    entries_are b no_entries f g = tt
    entries_are b (entry_then e es) f g = (entry_are b e f.0 g.0, entries_are b es f.1 g.1)
    entries_are b (entry_again es) f g = again_are (entry_tys name_of b es) (entries_are b es f g)
