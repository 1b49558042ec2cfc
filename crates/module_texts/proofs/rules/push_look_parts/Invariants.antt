use Rattle.std.proofs.Common.{◌≡◌, ◌++◌, drop, map, string_bytes}
use Rattle.plain_patterns.specs.Ends.{look_seen}
use Rattle.module_texts.specs.Rules.{look_parts}
use Rattle.module_texts.proofs.rules.push_look_parts.Given as goal

abbrev pub invariant-loop-look : goal.invariant-loop-look
invariant-loop-look l = string_bytes l.out ++ look_parts (map look_seen (drop l.look-index l.looks)) ≡ string_bytes l.initial.out ++ look_parts (map look_seen l.looks)
