-- What was compiled is found in just the texts that have the pattern.
use Rattle.std.proofs.Common.{◌≡◌, ◌∙◌, sym, ap, Bool, ◌&&◌, ℕ, ◌<◌, ◌≤◌, List, length, All, Option, Some, None, IsSomeAnd, is_some}
use Rattle.std.specs.List.{list_all}
use Rattle.regex_hir.specs.Re.{Re}
use Rattle.regex_hir.specs.Find.{find_str}
use Rattle.regex_syntax.specs.Brackets.{Nested}
use Rattle.regex_syntax.specs.Captures.{SameCaptures}
use Rattle.regex_syntax.specs.Grammar.{Names, group_count}
use Rattle.regex_syntax.specs.Verdict.{Reads, default_config}
use Rattle.regex_syntax.proofs.CapturesLemmas.{spans, find_str_alike}
use Rattle.regex_syntax.proofs.Written.{is_some-option_map}
use Rattle.regex.specs.Strings.{regex_pattern, regex_source, regex_config, IsReadFromSource}
use Rattle.regex.specs.declared.string.regex.Regex.{Regex}
use Rattle.plain_patterns.specs.Ends.{Searched, rewritten}
use Rattle.regex_texts.specs.Search.{has_look, is_found, is_found_by, matches}
use Rattle.regex_texts.specs.Searchers.{Compiled, FindsSource, IsSmall, Searches, finds_beside}

by_read : (o : Option (Nested Re × Names)) (a : Re) (most : ℕ) (names : Names)
    → IsSomeAnd o (λ (re, found). (re.depth ≤ most) × SameCaptures a re.value × (names ≡ found) × (group_count a ≤ length names))
    → (hay : List ℕ) → All (λ x. x < 256) hay → is_some (find_str a hay 0) ≡ is_found o hay
by_read None a most names p hay small = absurd p
by_read (Some found) a most names p hay small =
    sym (is_some-option_map spans (find_str a hay 0)) ∙ ap is_some (find_str_alike a found.0.value p.1 hay small 0) ∙ is_some-option_map spans (find_str found.0.value hay 0)

-- of one source
pub finds_source : (regex : Regex) (source : List ℕ) → regex_source regex ≡ source → regex_config regex ≡ default_config → IsReadFromSource regex → FindsSource source (regex_pattern regex)
unfolding Reads
finds_source regex source s d r = λ text small. by_read _ (regex_pattern regex) _ _ (rw (s, d) at r) text small

both : (a b c d : Bool) → a ≡ c → b ≡ d → (a && b) ≡ (c && d)
both a b c d p q = ap (λ x. x && b) p ∙ ap (λ x. c && x) q

-- of a pattern
pub searches : (searched : Searched) (compiled : Compiled) → FindsSource searched.own compiled.own
    → ((text : List ℕ) → IsSmall text → list_all (finds_beside text) compiled.beside ≡ list_all (has_look text) searched.beside)
    → (pattern : List ℕ) → rewritten pattern ≡ Some searched → Searches pattern compiled
unfolding matches
searches searched compiled own beside pattern w = record {
  plain = ap is_some w;
  found = λ text small. both _ _ _ _ (own text small) (beside text small) ∙ sym (ap (λ o. is_found_by o text) w);
}
