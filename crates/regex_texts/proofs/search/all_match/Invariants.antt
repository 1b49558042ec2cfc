use Rattle.std.proofs.Common.{◌≡◌, take, map, true}
use Rattle.std.specs.List.{list_all}
use Rattle.regex_texts.specs.Searchers.{beside_seen, finds_beside}
use Rattle.regex_texts.proofs.search.all_match.Given as goal

abbrev pub invariant-loop-one : goal.invariant-loop-one
invariant-loop-one l =
    (map beside_seen l.beside ≡ map beside_seen l.fn.beside)
    × (list_all (finds_beside l.text) (take l.one-index (map beside_seen l.fn.beside)) ≡ true)
