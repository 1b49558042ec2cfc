-- What a value must meet, a line for each bound, pattern and list.
use Rattle.std.specs.Prelude.{ℕ, ◌==◌, List, [], ◌∷◌, ◌++◌, length, map, string_bytes, Bool, Option, Some, None, codes, decimal, if◌then◌else◌}
use Rattle.std.specs.List.{list_all}
use Rattle.serde_json.specs.Data.{Data}
use Rattle.serde_json.specs.View.{view}
use Rattle.plain_patterns.specs.Ends.{Searched, alone, rewritten}
use Rattle.conversion_table.specs.declared.conversions.Rule.{Rule}
use Rattle.conversion_table.specs.declared.conversions.Rule.TheVariants.{Text, Allow, Deny}
use Rattle.module_texts.specs.Tokens.{literal}
use Rattle.module_texts.specs.Values.{values_literal}
use Rattle.module_texts.specs.Calls.{call_line}

abbrev pub number_line : List ℕ → ℕ → List ℕ
number_line call n = codes "        typify_present::" ++ (call ++ (codes "(&value, " ++ (decimal n ++ codes ")?;\n")))

abbrev pub bound_line : List ℕ → Option ℕ → List ℕ
bound_line call None = []
bound_line call (Some n) = number_line call n

-- as it is, where it isn't plain, which is the case of none in a table
abbrev pub searched_or : List ℕ → Option Searched → Searched
searched_or p None = alone p
searched_or p (Some s) = s

-- what the crate regex is to search for
abbrev pub searched : List ℕ → Searched
searched p = searched_or p (rewritten p)

abbrev pub source_line : List ℕ → List ℕ → List ℕ
source_line call source = call_line call (literal source)

-- of what stands in a lookahead or a lookbehind
abbrev pub look_line : List ℕ × Bool → List ℕ
look_line l = source_line (if l.1 then codes "lacks" else codes "has") l.0

abbrev pub look_lines : List (List ℕ × Bool) → List ℕ
look_lines [] = []
look_lines (l ∷ ls) = look_line l ++ look_lines ls

abbrev pub search_lines : Searched → List ℕ
search_lines s = source_line (codes "has") s.own ++ look_lines s.beside

abbrev pub has_lines : List (List ℕ) → List ℕ
has_lines [] = []
has_lines (p ∷ ps) = search_lines (searched p) ++ has_lines ps

-- where nothing is searched for beside the patterns, a list of these
abbrev pub is_alone : List ℕ → Bool
is_alone p = length (searched p).beside == 0

abbrev pub own_literal : List ℕ → List ℕ
own_literal p = literal (searched p).own

abbrev pub more_patterns : List (List ℕ) → List ℕ
more_patterns [] = []
more_patterns (p ∷ ps) = (codes ", " ++ own_literal p) ++ more_patterns ps

abbrev pub one_of_line : List ℕ → List (List ℕ) → List ℕ
one_of_line p ps = codes "        typify_present::has_one(&value, &[" ++ (own_literal p ++ (more_patterns ps ++ codes "])?;\n"))

-- else a list of lists: what is searched for, and whether it is to be found
abbrev pub look_part : List ℕ × Bool → List ℕ
look_part l = codes ", (" ++ (literal l.0 ++ (if l.1 then codes ", false)" else codes ", true)"))

abbrev pub look_parts : List (List ℕ × Bool) → List ℕ
look_parts [] = []
look_parts (l ∷ ls) = look_part l ++ look_parts ls

abbrev pub search_part : Searched → List ℕ
search_part s = codes "&[(" ++ (literal s.own ++ (codes ", true)" ++ (look_parts s.beside ++ codes "]")))

abbrev pub more_parts : List (List ℕ) → List ℕ
more_parts [] = []
more_parts (p ∷ ps) = (codes ", " ++ search_part (searched p)) ++ more_parts ps

abbrev pub one_where_line : List ℕ → List (List ℕ) → List ℕ
one_where_line p ps = codes "        typify_present::has_one_where(&value, &[" ++ (search_part (searched p) ++ (more_parts ps ++ codes "])?;\n"))

abbrev pub any_line : List (List ℕ) → List ℕ
any_line [] = []
any_line (p ∷ ps) = if list_all is_alone (p ∷ ps) then one_of_line p ps else one_where_line p ps

abbrev pub text_lines : Option ℕ → Option ℕ → List (List ℕ) → List (List ℕ) → List ℕ
text_lines least most all any = bound_line (codes "at_least") least ++ (bound_line (codes "at_most") most ++ (has_lines all ++ any_line any))

abbrev pub listed_line : List ℕ → List Data → List ℕ
listed_line call ds = call_line call (values_literal ds)

abbrev pub rule_lines : Rule → List ℕ
rule_lines (Text least most all any) = text_lines least most (map string_bytes all.items) (map string_bytes any.items)
rule_lines (Allow vs) = listed_line (codes "listed") (map view vs.items)
rule_lines (Deny vs) = listed_line (codes "not_listed") (map view vs.items)
