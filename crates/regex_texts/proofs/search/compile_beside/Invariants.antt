use Rattle.std.proofs.Common.{◌≡◌, ◌&&◌, ℕ, List, drop, map}
use Rattle.std.specs.List.{list_all}
use Rattle.plain_patterns.specs.Ends.{look_seen}
use Rattle.regex_texts.specs.Search.{has_look}
use Rattle.regex_texts.specs.Searchers.{IsSmall, beside_seen, finds_beside}
use Rattle.regex_texts.proofs.search.compile_beside.Given as goal

abbrev pub invariant-loop-look : goal.invariant-loop-look
invariant-loop-look l =
    (text : List ℕ) → IsSmall text
    → (list_all (finds_beside text) (map beside_seen l.beside.items) && list_all (has_look text) (map look_seen (drop l.look-index l.looks))) ≡ list_all (has_look text) (map look_seen l.looks)
