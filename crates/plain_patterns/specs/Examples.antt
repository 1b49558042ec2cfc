-- Worked examples: how plain patterns are rewritten, and patterns that are not plain.
use Rattle.std.specs.Prelude.{◌≡◌, ℕ, List, [], ◌∷◌, ◌++◌, Option, Some, None, codes}
use Rattle.plain_patterns.specs.Ends.{Searched, alone, rewritten, stop_of}

-- what is written for a pattern that has nothing beside it
abbrev only : List ℕ → Option Searched
only written = Some (alone written)

pub record PlainExamples : Type 0 where
  pub empty : rewritten (codes "") ≡ only (codes "")
  pub letters : rewritten (codes "abc") ≡ only (codes "abc")
  pub word_of_lower_case : rewritten (codes "^[a-z]+$") ≡ only (codes "^[a-z]+$")
  pub any : rewritten (codes "a.c") ≡ only (codes "a[^\\n\\r\\x{2028}\\x{2029}]c")
  pub digits : rewritten (codes "\\d{2,3}") ≡ only (codes "[0-9]{2,3}")
  pub words : rewritten (codes "\\w*") ≡ only (codes "[0-9A-Za-z_]*")
  pub bars : rewritten (codes "a|b|") ≡ only (codes "a|b|")
  pub groups : rewritten (codes "(a(b|c))?") ≡ only (codes "(a(b|c))?")
  pub no_branch : rewritten (codes "()") ≡ only (codes "()")
  pub counts : rewritten (codes "a{2}b{2,}c{2,2}") ≡ only (codes "a{2}b{2,}c{2,2}")
  pub leading_zero : rewritten (codes "a{02}") ≡ only (codes "a{02}")
  pub escapes : rewritten (codes "\\.\\*\\/\\-\\_") ≡ only (codes "\\.\\*\\/\\-\\_")
  pub angles : rewritten (codes "\\<>") ≡ only (codes "<>")
  pub hyphen : rewritten (codes "a-b") ≡ only (codes "a\\-b")
  pub class_of_signs : rewritten (codes "[.*+?(){}|$^]") ≡ only (codes "[\\.\\*\\+\\?\\(\\)\\{\\}\\|\\$\\^]")
  pub not_these : rewritten (codes "[^a^]") ≡ only (codes "[^a\\^]")
  pub hyphen_first : rewritten (codes "[-a]") ≡ only (codes "[\\-a]")
  pub hyphen_last : rewritten (codes "[a-]") ≡ only (codes "[a\\-]")
  pub hyphen_after_range : rewritten (codes "[a-c-e]") ≡ only (codes "[a-c\\-e]")
  pub two_hyphens : rewritten (codes "[+--]") ≡ only (codes "[\\+-\\-]")
  pub both : rewritten (codes "[a&&b]") ≡ only (codes "[a\\&\\&b]")
  pub bracket_inside : rewritten (codes "[[a]") ≡ only (codes "[\\[a]")
  pub escaped_bracket : rewritten (codes "[\\]]") ≡ only (codes "[\\]]")
  pub sets_inside : rewritten (codes "[\\d\\w.]") ≡ only (codes "[[0-9][0-9A-Za-z_]\\.]")
  pub mail : rewritten (codes "^\\w+@\\w+\\.\\w+$") ≡ only (codes "^[0-9A-Za-z_]+\\@[0-9A-Za-z_]+\\.[0-9A-Za-z_]+$")
  pub lazy : rewritten (codes "a+?b*?c??") ≡ only (codes "a+?b*?c??")
  pub lazy_counts : rewritten (codes "a{2}?b{2,}?c{2,3}?") ≡ only (codes "a{2}?b{2,}?c{2,3}?")
  pub no_capture : rewritten (codes "(?:a)+") ≡ only (codes "(?:a)+")
  pub spaces : rewritten (codes "\\s\\S") ≡ only (codes "[\\t-\\r \\x{A0}\\x{1680}\\x{2000}-\\x{200A}\\x{2028}\\x{2029}\\x{202F}\\x{205F}\\x{3000}\\x{FEFF}][^\\t-\\r \\x{A0}\\x{1680}\\x{2000}-\\x{200A}\\x{2028}\\x{2029}\\x{202F}\\x{205F}\\x{3000}\\x{FEFF}]")
  pub other_digits : rewritten (codes "\\D") ≡ only (codes "[^0-9]")
  pub other_words : rewritten (codes "[^\\W_]") ≡ only (codes "[^[^0-9A-Za-z_]\\_]")
  pub boundaries : rewritten (codes "\\bone\\B") ≡ only (codes "(?-u:\\b)one(?-u:\\B)")
  pub backspace : rewritten (codes "[\\b]") ≡ only (codes "[" ++ (8 ∷ []) ++ codes "]")
  pub controls : rewritten (codes "\\t\\n\\v\\f\\r") ≡ only ((9 ∷ []) ++ (10 ∷ []) ++ (11 ∷ []) ++ (12 ∷ []) ++ (13 ∷ []))
  pub control_letters : rewritten (codes "\\cA\\cz") ≡ only ((1 ∷ []) ++ (26 ∷ []))
  pub null : rewritten (codes "\\0a") ≡ only ((0 ∷ []) ++ codes "a")
  pub codes_of_two : rewritten (codes "\\x41\\xe9") ≡ only (codes "A" ++ (195 ∷ 169 ∷ []))
  pub codes_of_four : rewritten (codes "\\u0041\\u20AC\\uFFFF") ≡ only (codes "A" ++ (226 ∷ 130 ∷ 172 ∷ []) ++ (239 ∷ 191 ∷ 191 ∷ []))
  pub pair : rewritten (codes "\\uD83D\\uDE00") ≡ only ((240 ∷ 159 ∷ 152 ∷ 128 ∷ []))
  pub range_of_codes : rewritten (codes "[\\u0020-\\uD7FF\\uE000-\\uFFFD\\uD800\\uDC00-\\uDBFF\\uDFFF]") ≡ only (codes "[ -" ++ (237 ∷ 159 ∷ 191 ∷ []) ++ (238 ∷ 128 ∷ 128 ∷ []) ++ codes "-" ++ (239 ∷ 191 ∷ 189 ∷ []) ++ (240 ∷ 144 ∷ 128 ∷ 128 ∷ []) ++ codes "-" ++ (244 ∷ 143 ∷ 191 ∷ 191 ∷ []) ++ codes "]")
  pub range_beyond : rewritten (codes "[" ++ (208 ∷ 176 ∷ []) ++ codes "-" ++ (209 ∷ 143 ∷ []) ++ codes "]") ≡ only (codes "[" ++ (208 ∷ 176 ∷ []) ++ codes "-" ++ (209 ∷ 143 ∷ []) ++ codes "]")
  pub empty_class : rewritten (codes "[]") ≡ only (codes "[^\\x{0}-\\x{10FFFF}]")
  pub everything : rewritten (codes "[^]") ≡ only (codes "[\\x{0}-\\x{10FFFF}]")
  pub hyphen_beside_set : rewritten (codes "[\\w-.]") ≡ only (codes "[[0-9A-Za-z_]\\-\\.]")
  pub set_behind_hyphen : rewritten (codes "[a-\\d]") ≡ only (codes "[a\\-[0-9]]")
  pub hyphen_before_range : rewritten (codes "[\\d-a-z]") ≡ only (codes "[[0-9]\\-a\\-z]")
  pub brace : rewritten (codes "{a}") ≡ only (codes "\\{a\\}")
  pub no_count : rewritten (codes "a{}") ≡ only (codes "a\\{\\}")
  pub least_missing : rewritten (codes "a{,2}") ≡ only (codes "a\\{\\,2\\}")
  pub space : rewritten (codes "a{1, 2}") ≡ only (codes "a\\{1\\, 2\\}")
  pub open_brace : rewritten (codes "a{2") ≡ only (codes "a\\{2")
  pub brace_behind_count : rewritten (codes "a{2}{") ≡ only (codes "a{2}\\{")
  pub bracket : rewritten (codes "]") ≡ only (codes "\\]")
  pub blank : rewritten (codes "\\ \\" ++ (195 ∷ 169 ∷ [])) ≡ only (codes " " ++ (195 ∷ 169 ∷ []))
  pub code_in_braces : rewritten (codes "\\u{41}\\u{1F600}") ≡ only (codes "A" ++ (240 ∷ 159 ∷ 152 ∷ 128 ∷ []))
  pub hyphen_in_unicode_mode : rewritten (codes "\\p{L}[+\\-]") ≡ only (codes "\\p{gc=L}[\\+\\-]")

pub record OtherExamples : Type 0 where
  pub lone_star : rewritten (codes "*a") ≡ None
  pub star_after_bar : rewritten (codes "a|*") ≡ None
  pub star_in_group : rewritten (codes "(*a)") ≡ None
  pub twice : rewritten (codes "a**") ≡ None
  pub possessive : rewritten (codes "a++") ≡ None
  pub start_repeated : rewritten (codes "^*") ≡ None
  pub end_repeated : rewritten (codes "$?") ≡ None
  pub look_ahead : rewritten (codes "(?=a)") ≡ None
  pub open_group : rewritten (codes "(a") ≡ None
  pub closed_group : rewritten (codes "a)") ≡ None
  pub open_class : rewritten (codes "[a") ≡ None
  pub range_down : rewritten (codes "[z-a]") ≡ None
  pub counts_down : rewritten (codes "a{3,2}") ≡ None
  pub back_reference : rewritten (codes "(a)\\1") ≡ None
  pub property : rewritten (codes "\\pL") ≡ None
  pub backslash : rewritten (codes "a\\") ≡ None
  pub lazy_twice : rewritten (codes "a???") ≡ None
  pub brace_alone : rewritten (codes "{2}") ≡ None
  pub count_past : rewritten (codes "a{4294967296}") ≡ None
  pub most_past : rewritten (codes "a{0,4294967296}") ≡ None
  pub counts_twice : rewritten (codes "a{2}{3}") ≡ None
  pub boundary_repeated : rewritten (codes "\\b*") ≡ None
  pub look_behind : rewritten (codes "(?<=a)") ≡ None
  pub name : rewritten (codes "(?<a>b)") ≡ None
  pub flags : rewritten (codes "(?i)a") ≡ None
  pub half_of_pair : rewritten (codes "\\uD83D") ≡ None
  pub trail_alone : rewritten (codes "\\uDE00") ≡ None
  pub lead_before_letter : rewritten (codes "\\uD83Da") ≡ None
  pub lead_before_code : rewritten (codes "\\uD83D\\u0041") ≡ None
  pub half_in_class : rewritten (codes "[\\uD800-\\uDFFF]") ≡ None
  pub one_digit : rewritten (codes "\\x4") ≡ None
  pub three_digits : rewritten (codes "\\u004") ≡ None
  pub bracket_in_unicode_mode : rewritten (codes "\\p{L}]") ≡ None
  pub set_in_range_in_unicode_mode : rewritten (codes "[\\p{L}-z]") ≡ None
  pub hyphen_escaped_in_unicode_mode : rewritten (codes "\\p{L}\\-") ≡ None
  pub code_too_large : rewritten (codes "\\u{110000}") ≡ None
  pub half_in_braces : rewritten (codes "\\u{D83D}") ≡ None
  pub octal : rewritten (codes "\\00") ≡ None
  pub control_digit : rewritten (codes "\\c1") ≡ None
  pub start_of_text : rewritten (codes "\\A") ≡ None
  pub letter_in_class : rewritten (codes "[\\B]") ≡ None
  pub range_down_to_hyphen : rewritten (codes "[a--]") ≡ None

pub record StopExamples : Type 0 where
  pub plain : stop_of (codes "a") ≡ None
  pub lookahead : stop_of (codes "^ab(?=c)d*") ≡ Some (3, codes "(?=c)d*")
  pub at_the_front : stop_of (codes "*a") ≡ Some (0, codes "*a")
  pub eight_characters : stop_of (codes "a**bcdefghi") ≡ Some (2, codes "*bcdefgh")
  pub open_group : stop_of (codes "a(b") ≡ Some (3, codes "")
  pub closed_group : stop_of (codes "a)") ≡ Some (1, codes ")")
  pub class : stop_of (codes "a[z-a]") ≡ Some (1, codes "[z-a]")
  pub beyond_the_plane : stop_of ((240 ∷ 159 ∷ 152 ∷ 128 ∷ []) ++ codes "+" ++ (195 ∷ 169 ∷ []) ++ codes "\\1" ++ (195 ∷ 169 ∷ [])) ≡ Some (3, codes "\\1" ++ (195 ∷ 169 ∷ []))
  pub unicode_mode_reads_further : stop_of (codes "\\p{L}(?i)") ≡ Some (5, codes "(?i)")
  pub other_mode_reads_further : stop_of (codes "\\-\\pL") ≡ Some (2, codes "\\pL")

-- what `\p` and `\P` name
pub record PropertyExamples : Type 0 where
  pub categories : rewritten (codes "[\\p{L}\\P{Nd}]+") ≡ only (codes "[\\p{gc=L}\\P{gc=Nd}]+")
  pub long_category : rewritten (codes "\\p{Letter}\\P{Close_Punctuation}") ≡ only (codes "\\p{gc=Letter}\\P{gc=Close_Punctuation}")
  pub third_name : rewritten (codes "\\p{digit}\\p{Combining_Mark}") ≡ only (codes "\\p{gc=digit}\\p{gc=Combining_Mark}")
  pub category_value : rewritten (codes "\\p{gc=Lu}\\P{General_Category=Uppercase_Letter}") ≡ only (codes "\\p{gc=Lu}\\P{gc=Uppercase_Letter}")
  pub cased : rewritten (codes "\\p{LC}") ≡ only (codes "\\p{gc=LC}")
  pub scripts : rewritten (codes "\\p{Script=Greek}\\P{sc=Grek}") ≡ only (codes "\\p{sc=Greek}\\P{sc=Grek}")
  pub extensions : rewritten (codes "\\p{Script_Extensions=Latin}\\P{scx=Zyyy}") ≡ only (codes "\\p{scx=Latin}\\P{scx=Zyyy}")
  pub newest_script : rewritten (codes "\\p{sc=Seal}") ≡ only (codes "\\p{sc=Seal}")
  pub binary : rewritten (codes "\\p{Alphabetic}\\P{Alpha}\\p{space}") ≡ only (codes "\\p{Alphabetic}\\P{Alpha}\\p{space}")
  pub emoji : rewritten (codes "\\p{Emoji_Presentation}|\\P{EPres}") ≡ only (codes "\\p{Emoji_Presentation}|\\P{EPres}")
  pub every_character : rewritten (codes "\\p{Any}\\P{ASCII}\\p{Assigned}") ≡ only (codes "\\p{Any}\\P{ASCII}\\p{Assigned}")
  pub inside : rewritten (codes "^[^\\p{sc=Han}a-z\\P{Lower}]+$") ≡ only (codes "^[^\\p{sc=Han}a-z\\P{Lower}]+$")

-- names that ECMA-262 or `regex` doesn't take
pub record OtherPropertyExamples : Type 0 where
  pub surrogates : rewritten (codes "\\p{Cs}") ≡ None
  pub long_surrogates : rewritten (codes "\\p{gc=Surrogate}") ≡ None
  pub nothing : rewritten (codes "\\p{}") ≡ None
  pub no_value : rewritten (codes "\\p{sc=}") ≡ None
  pub no_property : rewritten (codes "\\p{=Greek}") ≡ None
  pub other_case : rewritten (codes "\\p{Script=greek}") ≡ None
  pub lower_case : rewritten (codes "\\p{greek}") ≡ None
  pub script_alone : rewritten (codes "\\p{Greek}") ≡ None
  pub prefix : rewritten (codes "\\p{IsGreek}") ≡ None
  pub block : rewritten (codes "\\p{InGreek}") ≡ None
  pub no_underscore : rewritten (codes "\\p{UppercaseLetter}") ≡ None
  pub blank : rewritten (codes "\\p{ L}") ≡ None
  pub category_of_a_script : rewritten (codes "\\p{sc=Lu}") ≡ None
  pub script_of_a_category : rewritten (codes "\\p{gc=Grek}") ≡ None
  pub binary_value : rewritten (codes "\\p{Alpha=Y}") ≡ None
  pub property_alone : rewritten (codes "\\p{sc}") ≡ None
  pub loose_property : rewritten (codes "\\p{SC=Grek}") ≡ None
  pub two_values : rewritten (codes "\\p{sc=gc=L}") ≡ None
  pub colon : rewritten (codes "\\p{sc:Grek}") ≡ None
  pub unequal : rewritten (codes "\\p{sc!=Grek}") ≡ None
  pub caret : rewritten (codes "\\p{^L}") ≡ None
  pub regex_alone : rewritten (codes "\\p{Other_Math}") ≡ None
  pub ecma_alone : rewritten (codes "\\p{CWKCF}") ≡ None
  pub unknown_script : rewritten (codes "\\p{sc=Zzzz}") ≡ None
  pub third_space : rewritten (codes "\\p{WSpace}") ≡ None
  pub any_value : rewritten (codes "\\p{gc=Any}") ≡ None
  pub open_name : rewritten (codes "\\p{L") ≡ None
  pub open_value : rewritten (codes "\\p{sc=Grek") ≡ None
  pub bare_letter : rewritten (codes "\\pL") ≡ None
  pub range_to_script : rewritten (codes "[a-\\p{sc=Grek}]") ≡ None
  pub other_mode : rewritten (codes "\\p{sc=Grek}\\-") ≡ None
