use Rattle.std.proofs.Common.{◌≡◌, ◌≤◌}
use Rattle.std.specs.List.{list_all}
use Rattle.schema_types.specs.View.{properties_view}
use Rattle.convert_defs.specs.Owners.{pattern_names}
use Rattle.tree_parts.proofs.texts.are_named_patterns.Given as goal

abbrev pub invariant-loop-pattern : goal.invariant-loop-pattern
invariant-loop-pattern g l = record {
  rest : list_all (g.T.Texts.relations l.initial.texts).is_pattern (pattern_names (properties_view l.patterns.entries))
      ≡ list_all (g.T.Texts.relations l.initial.texts).is_pattern (pattern_names (properties_view l.pattern-iterator));
  keeps : g.T.Texts.relations l.texts ≡ g.T.Texts.relations l.initial.texts;
  counts : g.T.Texts.faults l.initial.texts ≤ g.T.Texts.faults l.texts;
}
