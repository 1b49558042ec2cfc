-- What is kept of patterns that were compiled.
use Rattle.std.specs.Prelude.{◌≡◌, ◌<◌, ◌&&◌, ℕ, List, All, Bool, true, is_some, map}
use Rattle.std.specs.List.{list_all}
use Rattle.regex.specs.Patterns.{Re, find_str}
use Rattle.regex.specs.Strings.{matcher_pattern}
use Rattle.plain_patterns.specs.Ends.{is_plain}
use Rattle.regex_texts.specs.declared.search.Beside.{Beside}
use Rattle.regex_texts.specs.declared.search.Search.{Search}
use Rattle.regex_texts.specs.Search.{has_source, is_asked, matches}

-- what was compiled of a pattern's own source, and of those beside it
pub record Compiled : Type 0 where
  pub own : Re
  pub beside : List (Re × Bool)

abbrev pub beside_seen : Beside → Re × Bool
beside_seen b = (matcher_pattern b.matcher, b.negated)

abbrev pub search_seen : Search → Compiled
search_seen s = record { own = matcher_pattern s.own; beside = map beside_seen s.beside.items }

abbrev pub finds : List ℕ → Re → Bool
finds text compiled = is_some (find_str compiled text 0)

abbrev pub finds_beside : List ℕ → Re × Bool → Bool
finds_beside text one = is_asked one.1 (finds text one.0)

abbrev pub finds_all : List ℕ → Compiled → Bool
finds_all text compiled = finds text compiled.own && list_all (finds_beside text) compiled.beside

abbrev pub IsSmall : List ℕ → Type 0
IsSmall text = All (λ b. b < 256) text

-- what was compiled of a source is found in just the texts that have it
abbrev pub FindsSource : List ℕ → Re → Type 0
FindsSource source compiled = (text : List ℕ) → IsSmall text → finds text compiled ≡ has_source source text

-- the pattern is plain, and what was compiled is found in just the texts that have it
pub record Searches (pattern : List ℕ) (compiled : Compiled) : Type 0 where
  pub plain : is_plain pattern ≡ true
  pub found : (text : List ℕ) → IsSmall text → finds_all text compiled ≡ matches pattern text
