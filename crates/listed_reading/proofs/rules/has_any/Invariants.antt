use Rattle.std.proofs.Common.{◌≡◌, ◌≤◌}
use Rattle.std.specs.List.{list_any}
use Rattle.schema_types.specs.View.{properties_view}
use Rattle.convert_defs.specs.Owners.{pattern_names}
use Rattle.listed_reading.proofs.rules.has_any.Given as goal

abbrev pub invariant-loop-pattern : goal.invariant-loop-pattern
invariant-loop-pattern g l = record {
  rest : list_any (λ p. (g.T.Texts.relations l.initial.texts).matches p l.text) (pattern_names (properties_view l.patterns.entries))
      ≡ list_any (λ p. (g.T.Texts.relations l.initial.texts).matches p l.text) (pattern_names (properties_view l.pattern-iterator));
  keeps : g.T.Texts.relations l.texts ≡ g.T.Texts.relations l.initial.texts;
  counts : g.T.Texts.faults l.initial.texts ≤ g.T.Texts.faults l.texts;
}
