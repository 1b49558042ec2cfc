use Rattle.std.proofs.Common.{◌≡◌, ◌≤◌, drop, map, string_bytes}
use Rattle.std.specs.List.{list_any}
use Rattle.value_parts.proofs.rules.has_any.Given as goal

abbrev pub invariant-loop-pattern : goal.invariant-loop-pattern
invariant-loop-pattern g l = record {
  rest : list_any (λ p. (g.T.Texts.relations l.initial.texts).matches p l.text) (map string_bytes l.patterns)
      ≡ list_any (λ p. (g.T.Texts.relations l.initial.texts).matches p l.text) (map string_bytes (drop l.pattern-index l.patterns));
  keeps : g.T.Texts.relations l.texts ≡ g.T.Texts.relations l.initial.texts;
  counts : g.T.Texts.faults l.initial.texts ≤ g.T.Texts.faults l.texts;
}
