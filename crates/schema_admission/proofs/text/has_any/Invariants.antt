use Rattle.std.proofs.Common.{◌≡◌, ◌≤◌}
use Rattle.schema_defs.specs.Layer.{has_any}
use Rattle.schema_types.specs.View.{properties_view}
use Rattle.schema_admission.proofs.text.has_any.Given as goal

abbrev pub invariant-loop-pattern : goal.invariant-loop-pattern
invariant-loop-pattern g l = record {
  rest : has_any (λ q. (g.T.Texts.relations l.initial.texts).matches q l.name) (properties_view l.patterns.entries)
      ≡ has_any (λ q. (g.T.Texts.relations l.initial.texts).matches q l.name) (properties_view l.pattern-iterator);
  keeps : g.T.Texts.relations l.texts ≡ g.T.Texts.relations l.initial.texts;
  counts : g.T.Texts.faults l.initial.texts ≤ g.T.Texts.faults l.texts;
}
