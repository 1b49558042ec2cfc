-- The paths of functions, as emitted attributes write them, are read as those paths.
use Rattle.std.proofs.Common.{◌≡◌, ◌<◌, ◌≤◌, ◌^◌, ◌+◌, ◌%◌, ℕ, zero, suc, Bool, true, false, ◌&&◌, ◌||◌, eqb, List, [], ◌∷◌, ◌++◌, map, Ok, refl, sym, subst, ◌∙◌, true≢false, append-nil, codes, lit<, arith}
use Rattle.std.specs.Prelude.{◌==◌, bytes_eq}
use Rattle.std.specs.List.{list_all, AllByRecursion}
use Rattle.std.specs.Fmt.{decimal}
use Rattle.std.specs.Str.{chars, IsAscii}
use Rattle.std.specs.Int.{is_in_range}
use Rattle.std.proofs.lemmas.Bool.{eqb-true, le-leb}
use Rattle.std.proofs.lemmas.Fmt.{decimal_by_steps}
use Rattle.std.proofs.lemmas.Str.{chars-IsAscii, encodes-IsAscii}
use Rattle.unicode_ident.specs.Ident.{is_xid_continue}
use Rattle.unicode_ident.proofs.IdentLemmas.{is_xid_continue-ascii}
use Rattle.unicode_ident.proofs.Computing.{unicode_ident}
use Rattle.token_trees.specs.Token.{site}
use Rattle.token_trees.specs.Text.{name, pieces_of}
use Rattle.rust_tokens.specs.Front.{begins_name}
use Rattle.rust_tokens.specs.Reading.{Reads, IsLexed}
use Rattle.syntax_trees.specs.Syntax.{Segments, segment, no_arguments, segments_of, ExprPathD}
use Rattle.syntax_printing.specs.Print.{print_expr_path}
use Rattle.syntax_parsers.specs.Fronts.{is_reserved}
use Rattle.syntax_parsers.specs.SpellingForm.{segments_count, SegmentsForm, SegmentsLengths, IsParsedExprPath}
use Rattle.syntax_parsers.specs.Whole.{room, expr_path_of}
use Rattle.syntax_parsers.proofs.spelling.Exact.{expr_path_exact}
use Rattle.syntax_parsers.proofs.spelling.Printing.{expr_path_printed}
use Rattle.schema_defs.specs.Location.{place}
use Rattle.attr_defs.proofs.Lexed.{read_same}
use Rattle.naming_defs.proofs.Good.{place-ascii}
use Rattle.emit_defs.specs.Models.{Empty, empty_option, empty_vec, empty_set, empty_map}
use Rattle.emit_defs.specs.Trees.{name_at, empty_path}
use Rattle.emit_defs.proofs.Digits.{place_by_steps}
use Rattle.emit_texts.specs.Laws.{literal, function_at, some_function, whole_function, default_function, empty_function, IsFunction, FunctionsAreRead}
use Rattle.emit_texts.proofs.Names.{reads_all}
use lib.Utf8.{encode}

-- ---- paths of names are of parsed form

abbrev AreFree : List (List ℕ) → Type 0
AreFree ns = AllByRecursion (λ n. is_reserved n ≡ false) ns

abbrev segments : List (List ℕ) → Segments
segments ns = segments_of (map (λ n. segment (name_at n) no_arguments) ns)

segments_form : (ns : List (List ℕ)) → AreFree ns → SegmentsForm 0 (segments ns)
segments_form [] h = tt
segments_form (n ∷ ns) h = ((h.0, tt), (λ g. absurd (true≢false (sym g))), segments_form ns h.1)

segments_lengths : (ns : List (List ℕ)) → SegmentsLengths (segments ns)
segments_lengths [] = tt
segments_lengths (n ∷ ns) = (tt, segments_lengths ns)

parsed : (rooted : Bool) (n : List ℕ) (ns : List (List ℕ)) → AreFree (n ∷ ns) → IsParsedExprPath (function_at rooted (n ∷ ns))
parsed rooted n ns h =
    let some : 0 < segments_count (segments (n ∷ ns)) = omega arith in
    ((tt, (some, segments_form (n ∷ ns) h)), (tt, segments_lengths (n ∷ ns)))

is_read : (p : ExprPathD) → IsParsedExprPath p → expr_path_of site (print_expr_path p) ≡ Ok p
unfolding expr_path_of
is_read p h =
    let ts = print_expr_path p in
    (expr_path_exact (room ts) site ts p (omega arith)).1 (h, expr_path_printed p ts [] h.0 (sym (append-nil ts)))

read_from : (x : List ℕ) (p : ExprPathD) → IsParsedExprPath p → IsLexed (chars x) site (print_expr_path p) → IsFunction x p
read_from x p h l = read_same expr_path_of (literal x) (Ok p) (print_expr_path p, l, is_read p h)

-- ---- the constant ones

some_lexed : IsLexed (chars (codes "typify_present::some")) site (print_expr_path some_function)
unfolding chars unicode_ident encode
some_lexed = record { read = (14, refl, (1, refl, (1, refl, (4, refl, refl)))); written = (refl, (refl, (refl, (refl, tt)))) }

whole_lexed : IsLexed (chars (codes "typify_present::whole")) site (print_expr_path whole_function)
unfolding chars unicode_ident encode
whole_lexed = record { read = (14, refl, (1, refl, (1, refl, (5, refl, refl)))); written = (refl, (refl, (refl, (refl, tt)))) }

option_lexed : IsLexed (chars (codes "::std::option::Option::is_none")) site (print_expr_path (empty_function empty_option))
unfolding chars unicode_ident encode
option_lexed = record {
  read = (1, refl, (1, refl, (3, refl, (1, refl, (1, refl, (6, refl, (1, refl, (1, refl, (6, refl, (1, refl, (1, refl, (7, refl, refl))))))))))));
  written = (refl, (refl, (refl, (refl, (refl, (refl, (refl, (refl, (refl, (refl, (refl, (refl, tt))))))))))));
}

vec_lexed : IsLexed (chars (codes "::std::vec::Vec::is_empty")) site (print_expr_path (empty_function empty_vec))
unfolding chars unicode_ident encode
vec_lexed = record {
  read = (1, refl, (1, refl, (3, refl, (1, refl, (1, refl, (3, refl, (1, refl, (1, refl, (3, refl, (1, refl, (1, refl, (8, refl, refl))))))))))));
  written = (refl, (refl, (refl, (refl, (refl, (refl, (refl, (refl, (refl, (refl, (refl, (refl, tt))))))))))));
}

set_lexed : IsLexed (chars (codes "::std::collections::HashSet::is_empty")) site (print_expr_path (empty_function empty_set))
unfolding chars unicode_ident encode
set_lexed = record {
  read = (1, refl, (1, refl, (3, refl, (1, refl, (1, refl, (11, refl, (1, refl, (1, refl, (7, refl, (1, refl, (1, refl, (8, refl, refl))))))))))));
  written = (refl, (refl, (refl, (refl, (refl, (refl, (refl, (refl, (refl, (refl, (refl, (refl, tt))))))))))));
}

map_lexed : IsLexed (chars (codes "::std::collections::HashMap::is_empty")) site (print_expr_path (empty_function empty_map))
unfolding chars unicode_ident encode
map_lexed = record {
  read = (1, refl, (1, refl, (3, refl, (1, refl, (1, refl, (11, refl, (1, refl, (1, refl, (7, refl, (1, refl, (1, refl, (8, refl, refl))))))))))));
  written = (refl, (refl, (refl, (refl, (refl, (refl, (refl, (refl, (refl, (refl, (refl, (refl, tt))))))))))));
}

empty_read : (x : Empty) → IsFunction (empty_path x) (empty_function x)
empty_read empty_option = read_from _ (empty_function empty_option) (parsed true (codes "std") (codes "option" ∷ codes "Option" ∷ codes "is_none" ∷ []) (refl, (refl, (refl, (refl, tt))))) option_lexed
empty_read empty_vec = read_from _ (empty_function empty_vec) (parsed true (codes "std") (codes "vec" ∷ codes "Vec" ∷ codes "is_empty" ∷ []) (refl, (refl, (refl, (refl, tt))))) vec_lexed
empty_read empty_set = read_from _ (empty_function empty_set) (parsed true (codes "std") (codes "collections" ∷ codes "HashSet" ∷ codes "is_empty" ∷ []) (refl, (refl, (refl, (refl, tt))))) set_lexed
empty_read empty_map = read_from _ (empty_function empty_map) (parsed true (codes "std") (codes "collections" ∷ codes "HashMap" ∷ codes "is_empty" ∷ []) (refl, (refl, (refl, (refl, tt))))) map_lexed

-- ---- defaults: digits go on with an identifier

abbrev pub IsDigit : ℕ → Type 0
IsDigit c = (48 ≤ c) × (c < 58)

joined : (ds : List ℕ) (c : ℕ) → AllByRecursion IsDigit ds → IsDigit c → AllByRecursion IsDigit (ds ++ c ∷ [])
joined [] c h k = (k, tt)
joined (d ∷ ds) c h k = (h.0, joined ds c h.1 k)

pub digits_of : (n : ℕ) → n < 2 ^ 64 → AllByRecursion IsDigit (decimal n)
digits_of = decimal_by_steps (λ n ds. AllByRecursion IsDigit ds) (λ n h. ((omega arith, omega arith), tt)) (λ n ds l h. joined ds (48 + n % 10) h (omega arith, omega arith))

place_digits : (n : ℕ) → AllByRecursion IsDigit (place n)
place_digits = place_by_steps (λ n ds. AllByRecursion IsDigit ds) (λ n h. ((omega arith, omega arith), tt)) (λ n ds l h. joined ds (48 + n % 10) h (omega arith, omega arith))

pub digit_goes_on : (c : ℕ) → IsDigit c → is_xid_continue c ≡ true
digit_goes_on c h =
    let l = h.0 in
    let r = h.1 in
    is_xid_continue-ascii c (omega arith) ∙ (λ i. (((le-leb 48 c l i && le-leb c 57 (omega arith) i) || is_in_range 65 90 c) || is_in_range 97 122 c) || (c == 95))

pub all_go_on : (ds : List ℕ) → AllByRecursion IsDigit ds → list_all is_xid_continue ds ≡ true
all_go_on [] h = refl
all_go_on (d ∷ ds) h = let a = digit_goes_on d h.0 in let b = all_go_on ds h.1 in λ i. a i && b i

pub no_digit : (c k : ℕ) → IsDigit c → 58 ≤ k → eqb c k ≡ false
no_digit c k h l = elim (eqb c k) as (λ b. eqb c k ≡ b → b ≡ false) [
  | true ↦ λ e. let same = eqb-true c k e in let r = h.1 in absurd (omega arith)
  | false ↦ λ e. refl
] refl

free_default : (ds : List ℕ) → AllByRecursion IsDigit ds → is_reserved (100 ∷ ds) ≡ false
free_default [] h = refl
free_default (c ∷ cs) h =
    let o = no_digit c 111 h.0 (omega arith) in
    let y = no_digit c 121 h.0 (omega arith) in
    λ i. (o i && bytes_eq cs []) || ((y i && bytes_eq cs (110 ∷ [])) || false)

pub ascii_then : (c : ℕ) (cs : List ℕ) → c < 128 → IsAscii cs → IsAscii (c ∷ cs)
ascii_then c cs h g zero = h
ascii_then c cs h g (suc i) = g i

pub all_ascii : (cs ds : List ℕ) → AllByRecursion (λ c. c < 128) cs → IsAscii ds → IsAscii (cs ++ ds)
all_ascii [] ds h g = g
all_ascii (c ∷ cs) ds h g = ascii_then c (cs ++ ds) h.0 (all_ascii cs ds h.1 g)

front_ascii : AllByRecursion (λ c. c < 128) (codes "typify_defaults::d")
front_ascii =
    (lit< tt, (lit< tt, (lit< tt, (lit< tt, (lit< tt, (lit< tt, (lit< tt, (lit< tt, (lit< tt, (lit< tt, (lit< tt, (lit< tt, (lit< tt, (lit< tt, (lit< tt, (lit< tt, (lit< tt, (lit< tt, tt))))))))))))))))))

d_begins : begins_name 100 ≡ true
unfolding unicode_ident
d_begins = refl

-- from the name of a default on
default_reads : (ds : List ℕ) → Reads (100 ∷ ds) (name (100 ∷ ds) ∷ []) [] → Reads (codes "typify_defaults::d" ++ ds) (pieces_of (print_expr_path (function_at false (codes "typify_defaults" ∷ (100 ∷ ds) ∷ [])))) []
unfolding unicode_ident encode
default_reads ds h = (15, refl, (1, refl, (1, refl, h)))

default_lexed : (n : ℕ) → IsLexed (chars (codes "typify_defaults::d" ++ place n)) site (print_expr_path (default_function n))
default_lexed n =
    let ds = place n in
    let ascii : IsAscii (100 ∷ ds) = ascii_then 100 ds (lit< tt) (place-ascii n) in
    let whole : chars (codes "typify_defaults::d" ++ ds) ≡ codes "typify_defaults::d" ++ ds = chars-IsAscii _ (all_ascii (codes "typify_defaults::d") ds front_ascii (place-ascii n)) in
    record {
      read = subst (λ z. Reads z (pieces_of (print_expr_path (default_function n))) []) (sym whole) (default_reads ds (reads_all 100 ds (100 ∷ ds) d_begins (all_go_on ds (place_digits n)) (encodes-IsAscii (100 ∷ ds) ascii)));
      written = (refl, (refl, (refl, (refl, tt))));
    }

default_read : (n : ℕ) → IsFunction (codes "typify_defaults::d" ++ place n) (default_function n)
default_read n = read_from (codes "typify_defaults::d" ++ place n) (default_function n) (parsed false (codes "typify_defaults") ((codes "d" ++ place n) ∷ []) (refl, (free_default (place n) (place_digits n), tt))) (default_lexed n)

pub functions_are_read : FunctionsAreRead
functions_are_read = record {
  some = read_from (codes "typify_present::some") some_function (parsed false (codes "typify_present") (codes "some" ∷ []) (refl, (refl, tt))) some_lexed;
  whole = read_from (codes "typify_present::whole") whole_function (parsed false (codes "typify_present") (codes "whole" ∷ []) (refl, (refl, tt))) whole_lexed;
  default = default_read;
  empty = empty_read;
}
