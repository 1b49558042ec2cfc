use Rattle.std.proofs.Common.{◌≡◌, ◌≤◌, length, map}
use Rattle.schema_defs.specs.Laws.{NamesRise}
use Rattle.schema_tree.specs.Document.{view as document_seen}
use Rattle.tree_types.specs.View.{target_entry}
use Rattle.convert_trees.specs.Keeping.{kept_view}
use Rattle.convert_trees.proofs.Documents.{Left}
use Rattle.convert_trees.proofs.table.definition_targets.Given as goal

abbrev pub invariant-loop-name : goal.invariant-loop-name
invariant-loop-name g l = record {
  left : Left (g.T.Texts.relations l.initial.texts) (document_seen l.document) l.depth l.levels l.names (map target_entry l.targets.items) (kept_view l.initial.kept) (kept_view l.kept);
  rise : NamesRise (map (λ e. e.name) (document_seen l.document).definitions);
  keeps : g.T.Texts.relations l.texts ≡ g.T.Texts.relations l.initial.texts;
  counts : g.T.Texts.faults l.initial.texts ≤ g.T.Texts.faults l.texts;
}

abbrev pub decreases-loop-name : goal.decreases-loop-name
decreases-loop-name g l = length l.names
