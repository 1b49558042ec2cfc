use Rattle.std.proofs.Common.{◌≡◌, drop, map, string_bytes}
use Rattle.std.specs.List.{list_all}
use Rattle.module_texts.specs.Rules.{is_alone}
use Rattle.module_texts.proofs.rules.are_alone.Given as goal

abbrev pub invariant-loop-pattern : goal.invariant-loop-pattern
invariant-loop-pattern l = list_all is_alone (map string_bytes l.patterns) ≡ list_all is_alone (map string_bytes (drop l.pattern-index l.patterns))
