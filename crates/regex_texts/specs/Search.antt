-- What the judge by `regex` answers by. What is written for a plain pattern (ECMA-262, 22.2.1) is read by the grammar of `regex`,
-- and a text has the pattern where this has a match in the text, and what is written beside it has one just where it isn't
-- negated; no text has any other pattern.
use Rattle.std.specs.Prelude.{ℕ, List, Bool, false, ◌&&◌, not, Option, Some, None, is_some, chars, if◌then◌else◌}
use Rattle.std.specs.List.{list_all}
use Rattle.regex_hir.specs.Re.{Re}
use Rattle.regex_hir.specs.Find.{find_str}
use Rattle.regex_syntax.specs.Brackets.{Nested}
use Rattle.regex_syntax.specs.Grammar.{Names, read}
use Rattle.regex_syntax.specs.Verdict.{default_config}
use Rattle.plain_patterns.specs.Ends.{Searched, rewritten, is_plain}
use Rattle.schema_defs.specs.Formats.{has_format}
use Rattle.schema_defs.specs.Texts.{Relations}

abbrev pub is_found : Option (Nested Re × Names) → List ℕ → Bool
is_found None text = false
is_found (Some found) text = is_some (find_str found.0.value text 0)

-- what is written so is found in the text
abbrev pub has_source : List ℕ → List ℕ → Bool
has_source source text = is_found (read default_config (chars source)) text

-- found where that is asked, or not found where that is
abbrev pub is_asked : Bool → Bool → Bool
is_asked negated found = if negated then not found else found

abbrev pub has_look : List ℕ → List ℕ × Bool → Bool
has_look text look = is_asked look.1 (has_source look.0 text)

abbrev pub is_found_by : Option Searched → List ℕ → Bool
is_found_by None text = false
is_found_by (Some s) text = has_source s.own text && list_all (has_look text) s.beside

unfoldable pub matches : List ℕ → List ℕ → Bool
matches pattern text = is_found_by (rewritten pattern) text

abbrev pub regex_relations : Relations
regex_relations = record { is_pattern = is_plain; matches = matches; has_format = has_format }
