use Rattle.std.proofs.Common.{◌≡◌, drop, map, string_bytes}
use Rattle.evolve_defs.specs.Rules.{all_within}
use Rattle.evolve_rows.proofs.rules.all_within.Given as goal

abbrev pub invariant-loop-text : goal.invariant-loop-text
invariant-loop-text l = all_within (map string_bytes l.texts) (map string_bytes l.others) ≡ all_within (map string_bytes (drop l.text-index l.texts)) (map string_bytes l.others)
