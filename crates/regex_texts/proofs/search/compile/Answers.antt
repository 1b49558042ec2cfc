use Rattle.std.proofs.Common.{◌≡◌, ℕ, List, map, subst}
use Rattle.std.specs.List.{list_all}
use Rattle.regex.specs.Strings.{IsDefaultFailure, matcher_pattern}
use Rattle.plain_patterns.specs.declared.searches.Look.{Look}
use Rattle.plain_patterns.specs.Ends.{look_seen, seen}
use Rattle.regex_texts.specs.Refused.{IsUnbuilt, beside_sources}
use Rattle.regex_texts.specs.Search.{has_look}
use Rattle.regex_texts.specs.Searchers.{FindsSource, IsSmall, beside_seen, finds_beside, search_seen}
use Rattle.regex_texts.proofs.Searching.{searches}
use Rattle.regex_texts.proofs.Unbuilt.{beside_unbuilt, own_unbuilt}
use Rattle.regex_texts.proofs.search.compile.Goals as goal

pub returns-in-Err-clause-refused : goal.returns-in-Err-clause-refused
returns-in-Err-clause-refused c = λ memory.
    own_unbuilt _ _ _ (subst (λ (s : List ℕ). IsDefaultFailure s c.in-Err.error) c.deref.ensures (c.in-Err.ensures.refused memory))

pub returns-in-Ok-compile_beside-clause-searches : goal.returns-in-Ok-compile_beside-clause-searches
returns-in-Ok-compile_beside-clause-searches c =
    searches (seen c.args.searches.now) (search_seen (record { own = c.in-Ok.own; beside = c.in-Ok-compile_beside.beside }))
    (subst (λ (s : List ℕ). FindsSource s (matcher_pattern c.in-Ok.own)) c.deref.ensures c.in-Ok.ensures.searches)
    (subst
    (λ (ls : List Look). (text : List ℕ) → IsSmall text → list_all (finds_beside text) (map beside_seen c.in-Ok-compile_beside.beside.items) ≡ list_all (has_look text) (map look_seen ls))
    c.deref-2.ensures.value c.in-Ok-compile_beside.ensures.searches)

pub returns-in-Err-compile_beside-clause-refused : goal.returns-in-Err-compile_beside-clause-refused
returns-in-Err-compile_beside-clause-refused c = λ memory.
    beside_unbuilt _ _ _
    (subst (λ (ls : List Look). IsUnbuilt (beside_sources (map look_seen ls)) c.in-Err-compile_beside.error) c.deref-2.ensures.value (c.in-Err-compile_beside.ensures.refused memory))
