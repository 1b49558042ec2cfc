-- The text of an emitted type is read as a type that means the same.
use Rattle.std.proofs.Common.{◌≡◌, ◌<◌, ◌≤◌, ◌^◌, ◌+◌, ℕ, Bool, true, false, ◌&&◌, ◌||◌, eqb, cond, List, [], ◌∷◌, length, take, drop, Some, Ok, refl, ap, sym, subst, ◌∙◌, true≢false, append-nil, add-one, codes, encode_utf8_all, lit<, bytes_eq, arith}
use Rattle.std.specs.Prelude.{Option, nat_le, nat_lt, ◌==◌, not}
use Rattle.std.specs.List.{list_all, list_any, AllByRecursion}
use Rattle.std.specs.Fmt.{decimal}
use Rattle.std.specs.Char.{is_ascii_digit, is_whitespace}
use Rattle.std.specs.Str.{IsAscii, skip_leading_whitespace}
use Rattle.std.proofs.Math.Seq.{take-length, drop-length}
use Rattle.std.proofs.lemmas.Bool.{and_parts, le-leb, leb-true, ltb-true, eqb-true}
use Rattle.std.proofs.lemmas.Fmt.{IsAscii-decimal, decimal_nonempty}
use Rattle.std.proofs.lemmas.Slice.Eq.{bytes_eq-Decides}
use Rattle.std.proofs.lemmas.Str.{chars-IsAscii, encodes-IsAscii, IsUtf8-from_ascii}
use Rattle.std.proofs.lemmas.Str.Ascii.{IsAscii-nil}
use Rattle.unicode_ident.proofs.Computing.{unicode_ident}
use Rattle.unicode_ident.specs.Ident.{is_xid_continue}
use Rattle.token_trees.specs.Token.{Tok, fixed, digits, Name, site}
use Rattle.token_trees.specs.Text.{Piece, name, sign, constant, text_of}
use Rattle.rust_tokens.specs.Front.{name_len, name_span, begins_name, is_punctuation, spacing_of, string_front, bracket, front}
use Rattle.rust_tokens.specs.Reading.{Reads}
use Rattle.schema_defs.specs.declared.Format.{Format}
use Rattle.schema_defs.specs.declared.Format.TheVariants.{Uuid, Date, DateTime, Ip, Ipv4, Ipv6}
use Rattle.syntax_trees.specs.Syntax.{TyD, segment, ArgumentsD, no_arguments, Tys, end_tys, more_tys, Segments, segments_of}
use Rattle.syntax_printing.specs.Print.{print_ty}
use Rattle.syntax_parsers.specs.Fronts.{reserved_words, is_reserved}
use Rattle.syntax_parsers.specs.Grammar.{gives_segment}
use Rattle.syntax_parsers.specs.SpellingAside.{SameTy}
use Rattle.syntax_parsers.specs.SpellingForm.{TyForm, TysForm, TyLengths, TysLengths, ArgumentsForm, ArgumentsLengths, segments_count, SegmentsForm, SegmentsLengths, IsParsedTy, SpellsTy}
use Rattle.syntax_parsers.specs.Whole.{room, type_of}
use Rattle.syntax_parsers.proofs.spelling.Exact.{ty_exact}
use Rattle.syntax_parsers.proofs.spelling.Printing.{ty_printed}
use Rattle.syntax_parsers.proofs.spelling.Aside.{ty_aside}
use Rattle.syntax_laws.specs.RoundTrip.{AreOfText, PrintedIsSpelledAgain}
use Rattle.syntax_laws.proofs.Printed.{IsSpelledAside, spelled_again}
use Rattle.printing_laws.specs.Parts.{NameParts, TyParts, TysParts, ArgumentsParts, SegmentsParts}
use Rattle.printing_laws.proofs.PrintedParts.{printings_are_of_text}
use Rattle.attr_defs.proofs.Lexed.{read_same}
use Rattle.type_spellings.specs.Types as types
use Rattle.model_defs.proofs.Flat.{not_true}
use Rattle.entry_defs.specs.Entry.{IntegerName, i8, u8, i16, u16, i32, u32, i64, u64, nonzero_u8, nonzero_u16, nonzero_u32, nonzero_u64, Target, Entry, boolean_entry, integer_entry, text_entry, native_entry, any_entry, unit_entry, option_entry, vec_entry, set_entry, map_entry, tuple_entry, array_entry, reference, item, Entries, no_entries, entry_then, entry_again}
use Rattle.naming_defs.specs.Good.{spells_identifier, keywords, is_one_of, is_good_name}
use Rattle.naming_defs.proofs.Good.{known}
use Rattle.emit_defs.specs.Formed.{EntryIsFormed, EntriesAreFormed}
use Rattle.emit_defs.specs.Models.{unboxed}
use Rattle.emit_defs.specs.Trees.{name_at, lone, segments_to, rooted, in_std, of_one, of_two, boxed_ty, integer_ty, native_ty, utc_ty, used_ty, any_ty, ty_again, entry_ty, entry_tys}
use Rattle.emit_texts.specs.Laws.{literal, NamesAreGood, AllNamesAreGood, TypesAreReadAgain}
use Rattle.emit_texts.proofs.Names.{all_len, identifier_reads, name_of_text}
use Rattle.emit_texts.proofs.Functions.{ascii_then, IsDigit, digits_of, all_go_on}
use Rattle.emit_texts.proofs.Moved.{meaning_moved}

-- ---- words of the types' own

-- a word of ASCII that can be a segment
pub record IsWord (w : List ℕ) : Type 0 where
  pub parts : NameParts (name_at w)
  pub free : is_reserved w ≡ false

of_ascii : (w : List ℕ) → IsAscii w → spells_identifier w ≡ true → NameParts (name_at w)
of_ascii w a h =
    (w, site, IsUtf8-from_ascii w a, record { read = subst (λ z. Reads z (name w ∷ []) []) (sym (chars-IsAscii w a)) (identifier_reads w w h (encodes-IsAscii w a)); written = (refl, tt) })

ascii_by : (w : List ℕ) → AllByRecursion (λ c. c < 128) w → IsAscii w
ascii_by [] h = IsAscii-nil
ascii_by (c ∷ cs) h = ascii_then c cs h.0 (ascii_by cs h.1)

below_all : (w : List ℕ) → list_all (λ c. nat_le c 127) w ≡ true → AllByRecursion (λ c. c < 128) w
below_all [] h = tt
below_all (c ∷ cs) h =
    let p = and_parts (nat_le c 127) (list_all (λ d. nat_le d 127) cs) h in
    let l = leb-true c 127 p.0 in
    (omega arith, below_all cs p.1)

abbrev own_words : List (List ℕ)
own_words =
    codes "bool" ∷ codes "i8" ∷ codes "u8" ∷ codes "i16" ∷ codes "u16" ∷ codes "i32" ∷ codes "u32" ∷ codes "i64" ∷ codes "u64" ∷ codes "std"
    ∷ codes "num" ∷ codes "NonZeroU8" ∷ codes "NonZeroU16" ∷ codes "NonZeroU32" ∷ codes "NonZeroU64" ∷ codes "string" ∷ codes "String" ∷ codes "serde_json" ∷ codes "Value" ∷ codes "option"
    ∷ codes "Option" ∷ codes "boxed" ∷ codes "Box" ∷ codes "vec" ∷ codes "Vec" ∷ codes "collections" ∷ codes "HashSet" ∷ codes "HashMap" ∷ codes "uuid" ∷ codes "Uuid"
    ∷ codes "chrono" ∷ codes "naive" ∷ codes "NaiveDate" ∷ codes "DateTime" ∷ codes "offset" ∷ codes "Utc" ∷ codes "net" ∷ codes "IpAddr" ∷ codes "Ipv4Addr" ∷ codes "Ipv6Addr" ∷ []

abbrev is_own : List ℕ → Bool
is_own w = list_any (bytes_eq w) own_words

abbrev is_plain : List ℕ → Bool
is_plain w = list_all (λ c. nat_le c 127) w && spells_identifier w && not (is_reserved w)

all_plain : list_all is_plain own_words ≡ true
unfolding unicode_ident
all_plain = refl

found : (w : List ℕ) (ws : List (List ℕ)) → list_all is_plain ws ≡ true → list_any (bytes_eq w) ws ≡ true → is_plain w ≡ true
found w [] p h = absurd (true≢false (sym h))
found w (x ∷ xs) p h =
    let q = and_parts (is_plain x) (list_all is_plain xs) p in
    let rec = found w xs q.1 in
    elim (bytes_eq w x) as (λ b. bytes_eq w x ≡ b → (b || list_any (bytes_eq w) xs) ≡ true → is_plain w ≡ true) [
      | true ↦ λ e k. ap is_plain ((bytes_eq-Decides w x).0 e) ∙ q.0
      | false ↦ λ e k. rec k
    ] refl h

-- each of them is a word
own : (w : List ℕ) → is_own w ≡ true → IsWord w
own w h =
    let low = list_all (λ c. nat_le c 127) w in
    let p = and_parts (low && spells_identifier w) (not (is_reserved w)) (found w own_words all_plain h) in
    let q = and_parts low (spells_identifier w) p.0 in
    record { parts = of_ascii w (ascii_by w (below_all w q.0)) q.1; free = not_true (is_reserved w) p.1 }

all_own : (ws : List (List ℕ)) → list_all is_own ws ≡ true → AllByRecursion IsWord ws
all_own [] h = tt
all_own (w ∷ ws) h = let p = and_parts (is_own w) (list_all is_own ws) h in (own w p.0, all_own ws p.1)

-- a good name can be a segment
is_one : (n : List ℕ) (ks : List (List ℕ)) → list_any (bytes_eq n) ks ≡ true → is_one_of ks n ≡ true
is_one n [] h = absurd (true≢false (sym h))
is_one n (k ∷ ks) h =
    let rec = is_one n ks in
    elim (bytes_eq n k) as (λ b. bytes_eq n k ≡ b → (b || list_any (bytes_eq n) ks) ≡ true → is_one_of (k ∷ ks) n ≡ true) [
      | true ↦ λ e t. ap (λ b. b || is_one_of ks n) ((bytes_eq-Decides k n).1 (sym ((bytes_eq-Decides n k).0 e)))
      | false ↦ λ e t. or_else (bytes_eq k n) (rec t)
    ] refl h
  where
    or_else : (a : Bool) {b : Bool} → b ≡ true → (a || b) ≡ true
    or_else true g = refl
    or_else false g = g

-- what is none of some words is none of words among them
absent : (n : List ℕ) (ws ks : List (List ℕ)) → list_all (λ w. list_any (bytes_eq w) ks) ws ≡ true → is_one_of ks n ≡ false → list_any (bytes_eq n) ws ≡ false
absent n [] ks a h = refl
absent n (w ∷ ws) ks a h =
    let p = and_parts (list_any (bytes_eq w) ks) (list_all (λ x. list_any (bytes_eq x) ks) ws) a in
    let rec = absent n ws ks p.1 h in
    elim (bytes_eq n w) as (λ b. bytes_eq n w ≡ b → (b || list_any (bytes_eq n) ws) ≡ false) [
      | true ↦ λ e. absurd (true≢false (sym (is_one n ks (subst (λ z. list_any (bytes_eq z) ks ≡ true) (sym ((bytes_eq-Decides n w).0 e)) p.0)) ∙ h))
      | false ↦ λ e. rec
    ] refl

of_good : (n : List ℕ) → is_good_name n ≡ true → IsWord n
of_good n g = record { parts = name_of_text n g; free = absent n reserved_words keywords refl (known n g).no_keyword }

-- ---- types that are of parsed form, and whose parts are such as texts have

pub record IsFine (t : TyD) : Type 0 where
  pub form : TyForm t
  pub lengths : TyLengths t
  pub parts : TyParts t

record AreFine (ts : Tys) : Type 0 where
  form : TysForm ts
  lengths : TysLengths ts
  parts : TysParts ts

record FineArguments (a : ArgumentsD) : Type 0 where
  form : ArgumentsForm a
  lengths : ArgumentsLengths a
  parts : ArgumentsParts a
  gives : (x : Name) → gives_segment (segment x a) ≡ false

none_fine : FineArguments no_arguments
none_fine = record { form = tt; lengths = tt; parts = tt; gives = λ x. refl }

one_fine : (t : TyD) → IsFine t → FineArguments (of_one t)
one_fine t f = record { form = (f.form, tt); lengths = (f.lengths, tt); parts = (f.parts, tt); gives = λ x. refl }

two_fine : (k t : TyD) → IsFine k → IsFine t → FineArguments (of_two k t)
two_fine k t f g = record { form = (f.form, (g.form, tt)); lengths = (f.lengths, (g.lengths, tt)); parts = (f.parts, (g.parts, tt)); gives = λ x. refl }

lone_fine : (n : List ℕ) → IsWord n → IsFine (lone n)
lone_fine n w =
    let some : 0 < 1 = lit< tt in
    record { form = (tt, (some, ((w.free, tt), (λ g. absurd (true≢false (sym g))), tt))); lengths = (tt, (tt, tt)); parts = (tt, ((w.parts, tt), tt)) }

abbrev to : List (List ℕ) → List ℕ → ArgumentsD → Segments
to ms n a = segments_of (segments_to ms n a)

to_form : (ms : List (List ℕ)) (n : List ℕ) (a : ArgumentsD) → AllByRecursion IsWord ms → IsWord n → FineArguments a → SegmentsForm 0 (to ms n a)
to_form [] n a h w f = ((w.free, f.form), (λ g. absurd (true≢false (sym g ∙ f.gives (name_at n)))), tt)
to_form (m ∷ ms) n a h w f = ((h.0.free, tt), (λ g. absurd (true≢false (sym g))), to_form ms n a h.1 w f)

to_lengths : (ms : List (List ℕ)) (n : List ℕ) (a : ArgumentsD) → FineArguments a → SegmentsLengths (to ms n a)
to_lengths [] n a f = (f.lengths, tt)
to_lengths (m ∷ ms) n a f = (tt, to_lengths ms n a f)

to_parts : (ms : List (List ℕ)) (n : List ℕ) (a : ArgumentsD) → AllByRecursion IsWord ms → IsWord n → FineArguments a → SegmentsParts (to ms n a)
to_parts [] n a h w f = ((w.parts, f.parts), tt)
to_parts (m ∷ ms) n a h w f = ((h.0.parts, tt), to_parts ms n a h.1 w f)

to_some : (ms : List (List ℕ)) (n : List ℕ) (a : ArgumentsD) → 0 < segments_count (to ms n a)
to_some [] n a = lit< tt
to_some (m ∷ ms) n a = omega arith

rooted_fine : (ms : List (List ℕ)) (n : List ℕ) (a : ArgumentsD) → list_all is_own ms ≡ true → is_own n ≡ true → FineArguments a → IsFine (rooted ms n a)
rooted_fine ms n a k l f =
    let h = all_own ms k in
    let w = own n l in
    record { form = (tt, (to_some ms n a, to_form ms n a h w f)); lengths = (tt, to_lengths ms n a f); parts = (tt, to_parts ms n a h w f) }

std_fine : (m n : List ℕ) (a : ArgumentsD) → is_own m ≡ true → is_own n ≡ true → FineArguments a → IsFine (in_std m n a)
std_fine m n a k l f = rooted_fine (codes "std" ∷ m ∷ []) n a (ap (λ b. b && true) k) l f

own_fine : (n : List ℕ) → is_own n ≡ true → IsFine (lone n)
own_fine n l = lone_fine n (own n l)

integer_fine : (i : IntegerName) → IsFine (integer_ty i)
integer_fine i8 = own_fine (codes "i8") refl
integer_fine u8 = own_fine (codes "u8") refl
integer_fine i16 = own_fine (codes "i16") refl
integer_fine u16 = own_fine (codes "u16") refl
integer_fine i32 = own_fine (codes "i32") refl
integer_fine u32 = own_fine (codes "u32") refl
integer_fine i64 = own_fine (codes "i64") refl
integer_fine u64 = own_fine (codes "u64") refl
integer_fine nonzero_u8 = std_fine (codes "num") (codes "NonZeroU8") no_arguments refl refl none_fine
integer_fine nonzero_u16 = std_fine (codes "num") (codes "NonZeroU16") no_arguments refl refl none_fine
integer_fine nonzero_u32 = std_fine (codes "num") (codes "NonZeroU32") no_arguments refl refl none_fine
integer_fine nonzero_u64 = std_fine (codes "num") (codes "NonZeroU64") no_arguments refl refl none_fine

utc_fine : IsFine utc_ty
utc_fine = rooted_fine (codes "chrono" ∷ codes "offset" ∷ []) (codes "Utc") no_arguments refl refl none_fine

native_fine : (f : Format) → IsFine (native_ty f)
native_fine Uuid = rooted_fine (codes "uuid" ∷ []) (codes "Uuid") no_arguments refl refl none_fine
native_fine Date = rooted_fine (codes "chrono" ∷ codes "naive" ∷ []) (codes "NaiveDate") no_arguments refl refl none_fine
native_fine DateTime = rooted_fine (codes "chrono" ∷ []) (codes "DateTime") (of_one utc_ty) refl refl (one_fine utc_ty utc_fine)
native_fine Ip = std_fine (codes "net") (codes "IpAddr") no_arguments refl refl none_fine
native_fine Ipv4 = std_fine (codes "net") (codes "Ipv4Addr") no_arguments refl refl none_fine
native_fine Ipv6 = std_fine (codes "net") (codes "Ipv6Addr") no_arguments refl refl none_fine

any_fine : IsFine any_ty
any_fine = rooted_fine (codes "serde_json" ∷ []) (codes "Value") no_arguments refl refl none_fine

boxed_fine : (t : TyD) → IsFine t → IsFine (boxed_ty t)
boxed_fine t f = std_fine (codes "boxed") (codes "Box") (of_one t) refl refl (one_fine t f)

used_fine : (b : List ℕ → Bool) (n : List ℕ) → is_good_name n ≡ true → IsFine (used_ty b n)
used_fine b n g = elim (b n) as (λ z. IsFine (cond z (boxed_ty (lone n)) (lone n))) [
  | true ↦ boxed_fine (lone n) (lone_fine n (of_good n g))
  | false ↦ lone_fine n (of_good n g)
]

again_fine : (ts : Tys) → AreFine ts → AreFine (ty_again ts)
again_fine end_tys f = record { form = (any_fine.form, tt); lengths = (any_fine.lengths, tt); parts = (any_fine.parts, tt) }
again_fine (more_tys t ts) f = record { form = (f.form.0, f.form); lengths = (f.lengths.0, f.lengths); parts = (f.parts.0, f.parts) }

-- ---- numbers

digit_test : (c : ℕ) → IsDigit c → is_ascii_digit c ≡ true
digit_test c d =
    let l = d.0 in
    let r = d.1 in
    λ i. le-leb 48 c l i && le-leb c 57 (omega arith) i

no_lt : (a b : ℕ) → b ≤ a → nat_lt a b ≡ false
no_lt a b h = elim (nat_lt a b) as (λ z. nat_lt a b ≡ z → z ≡ false) [
  | true ↦ λ e. let l = ltb-true a b e in absurd (omega arith)
  | false ↦ λ e. refl
] refl

apart : (c k : ℕ) → (c ≡ k → ⊥) → eqb c k ≡ false
apart c k h = elim (eqb c k) as (λ z. eqb c k ≡ z → z ≡ false) [
  | true ↦ λ e. absurd (h (eqb-true c k e))
  | false ↦ λ e. refl
] refl

and_no : (a : Bool) {b : Bool} → b ≡ false → (a && b) ≡ false
and_no true h = h
and_no false h = refl

digit_no_white : (c : ℕ) → IsDigit c → is_whitespace c ≡ false
digit_no_white c d =
    let l = d.0 in
    let r = d.1 in
    let a = and_no (nat_lt 8 c) (no_lt c 14 (omega arith)) in
    let b = apart c 32 (λ e. omega arith) in
    let e = apart c 133 (λ e. omega arith) in
    let f = apart c 160 (λ e. omega arith) in
    let g = apart c 5760 (λ e. omega arith) in
    let h : (nat_lt 8191 c && nat_lt c 8203) ≡ false = ap (λ z. z && nat_lt c 8203) (no_lt 8191 c (omega arith)) in
    let i1 = apart c 8232 (λ e. omega arith) in
    let i2 = apart c 8233 (λ e. omega arith) in
    let i3 = apart c 8239 (λ e. omega arith) in
    let i4 = apart c 8287 (λ e. omega arith) in
    let i5 = apart c 12288 (λ e. omega arith) in
    λ i. ((((((((((a i || b i) || e i) || f i) || g i) || h i) || i1 i) || i2 i) || i3 i) || i4 i) || i5 i)

number_front : (c : ℕ) (cs : List ℕ) → IsDigit c → list_all is_xid_continue cs ≡ true → front (c ∷ cs) ≡ Some (constant (digits (encode_utf8_all (c ∷ cs))), length (c ∷ cs))
number_front c cs d h =
    let number = λ (k : ℕ). Some (constant (digits (encode_utf8_all (take k (c ∷ cs)))), k) in
    let others : Option (Piece × ℕ) =
    cond (c == 34) (string_front cs) (cond (is_punctuation c) (Some (sign c (spacing_of c cs), 1)) (cond (begins_name c) (let n = name_span c cs in Some (name (encode_utf8_all (take n (c ∷ cs))), n)) (bracket c))) in
    ap (λ z. cond z (number (name_len cs + 1)) others) (digit_test c d)
    ∙ ap number (ap (λ k. k + 1) (all_len cs h) ∙ add-one (length cs))
    ∙ ap (λ l. Some (constant (digits (encode_utf8_all l)), length (c ∷ cs))) (take-length (c ∷ cs))

digits_parts : (ds : List ℕ) → 0 < length ds → AllByRecursion IsDigit ds → IsAscii ds → AreOfText (fixed (digits ds) site ∷ [])
digits_parts [] l h a = absurd (omega arith)
digits_parts (c ∷ cs) l h a =
    let white : skip_leading_whitespace (c ∷ cs) ≡ c ∷ cs = ap (λ z. cond z (skip_leading_whitespace cs) (c ∷ cs)) (digit_no_white c h.0) in
    let first : front (c ∷ cs) ≡ Some (constant (digits (c ∷ cs)), length (c ∷ cs)) = number_front c cs h.0 (all_go_on cs h.1) ∙ ap (λ z. Some (constant (digits z), length (c ∷ cs))) (encodes-IsAscii (c ∷ cs) a) in
    let reads : Reads (c ∷ cs) (constant (digits (c ∷ cs)) ∷ []) [] =
    (length (c ∷ cs), ap front white ∙ first, sym (ap (λ z. skip_leading_whitespace (drop (length (c ∷ cs)) z)) white ∙ ap skip_leading_whitespace (drop-length (c ∷ cs)))) in
    (c ∷ cs, site, IsUtf8-from_ascii (c ∷ cs) a, record { read = subst (λ z. Reads z (constant (digits (c ∷ cs)) ∷ []) []) (sym (chars-IsAscii (c ∷ cs) a)) reads; written = (refl, tt) })

number_parts : (n : ℕ) → n < 2 ^ 64 → AreOfText (fixed (digits (decimal n)) site ∷ [])
number_parts n h = digits_parts (decimal n) (decimal_nonempty n h) (digits_of n h) (IsAscii-decimal n h)

module _ (name_of : Target → List ℕ) where
  mutual
    fine : (b : List ℕ → Bool) (e : Entry) → EntryIsFormed e → NamesAreGood name_of e → IsFine (entry_ty name_of b e)
    fine b boolean_entry f g = own_fine (codes "bool") refl
    fine b (integer_entry i) f g = integer_fine i
    fine b text_entry f g = std_fine (codes "string") (codes "String") no_arguments refl refl none_fine
    fine b (native_entry x) f g = native_fine x
    fine b any_entry f g = any_fine
    fine b unit_entry f g = record { form = tt; lengths = tt; parts = tt }
    fine b (option_entry e) f g = std_fine (codes "option") (codes "Option") (of_one (entry_ty name_of b e)) refl refl (one_fine _ (fine b e f g))
    fine b (vec_entry e) f g = std_fine (codes "vec") (codes "Vec") (of_one (entry_ty name_of unboxed e)) refl refl (one_fine _ (fine unboxed e f g))
    fine b (set_entry e) f g = std_fine (codes "collections") (codes "HashSet") (of_one (entry_ty name_of unboxed e)) refl refl (one_fine _ (fine unboxed e f g))
    fine b (map_entry k e) f g = std_fine (codes "collections") (codes "HashMap") (of_two (entry_ty name_of unboxed k) (entry_ty name_of unboxed e)) refl refl (two_fine _ _ (fine unboxed k f.0 g.0) (fine unboxed e f.1 g.1))
    fine b (tuple_entry es) f g = let a = all_fine b es f.1 g in record { form = a.form; lengths = a.lengths; parts = a.parts }
    fine b (array_entry e n) f g = let a = fine b e f.1 g in record { form = (a.form, tt); lengths = (a.lengths, tt); parts = (a.parts, number_parts n f.0) }
    fine b (reference q) f g = used_fine b (name_of q) g
    fine b (item n s) f g = used_fine b n g

    all_fine : (b : List ℕ → Bool) (es : Entries) → EntriesAreFormed es → AllNamesAreGood name_of es → AreFine (entry_tys name_of b es)
    all_fine b no_entries f g = record { form = tt; lengths = tt; parts = tt }
    all_fine b (entry_then e es) f g =
        let a = fine b e f.0 g.0 in
        let r = all_fine b es f.1 g.1 in
        record { form = (a.form, r.form); lengths = (a.lengths, r.lengths); parts = (a.parts, r.parts) }
    all_fine b (entry_again es) f g = again_fine (entry_tys name_of b es) (all_fine b es f g)

-- ---- reading

aside : IsSpelledAside IsParsedTy print_ty SpellsTy SameTy
aside t us h k = ty_aside (print_ty t) us t (h, ty_printed t (print_ty t) [] h.0 (sym (append-nil (print_ty t)))) k

again : PrintedIsSpelledAgain IsParsedTy print_ty SpellsTy SameTy
again = spelled_again IsParsedTy print_ty SpellsTy SameTy aside

read_whole : (ts : List Tok) (u : TyD) → SpellsTy ts u → type_of site ts ≡ Ok u
unfolding type_of
read_whole ts u h = (ty_exact (room ts) site ts u (omega arith)).1 h

pub types_are_read_again : TypesAreReadAgain
types_are_read_again name_of b e f g =
    let t = entry_ty name_of b e in
    let w = fine name_of b e f g in
    let l = literal (text_of (print_ty t)) in
    let k = again t l (w.form, w.lengths) (printings_are_of_text.types t w.parts) refl in
    let same : types.type_of k.0 ≡ types.type_of t = sym (meaning_moved site k.0) ∙ sym (ap types.type_of k.2) ∙ meaning_moved site t in
    (k.0, read_same type_of l (Ok k.0) (k.1.0, k.1.1, read_whole k.1.0 k.0 k.1.2), same)
