use Rattle.std.proofs.Common.{◌≡◌, ◌≤◌, drop, map, string_bytes}
use Rattle.std.specs.List.{list_all}
use Rattle.schema_texts.proofs.keywords.has_each.Given as goal

abbrev pub invariant-loop-pattern : goal.invariant-loop-pattern
invariant-loop-pattern g l = record {
  rest : list_all (λ p. (g.T.Texts.relations l.initial.texts).matches p l.text) (map string_bytes l.patterns.items)
      ≡ list_all (λ p. (g.T.Texts.relations l.initial.texts).matches p l.text) (map string_bytes (drop l.pattern-index l.patterns.items));
  keeps : g.T.Texts.relations l.texts ≡ g.T.Texts.relations l.initial.texts;
  counts : g.T.Texts.faults l.initial.texts ≤ g.T.Texts.faults l.texts;
}
