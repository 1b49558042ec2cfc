use Rattle.std.proofs.Common.{◌≡◌, ◌++◌, drop, map, string_bytes}
use Rattle.module_texts.specs.Rules.{more_parts}
use Rattle.module_texts.proofs.rules.push_more_parts.Given as goal

abbrev pub invariant-loop-pattern : goal.invariant-loop-pattern
invariant-loop-pattern l = string_bytes l.out ++ more_parts (map string_bytes (drop l.pattern-index l.patterns)) ≡ string_bytes l.initial.out ++ more_parts (map string_bytes l.patterns)
