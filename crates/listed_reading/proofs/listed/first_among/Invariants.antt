use Rattle.std.proofs.Common.{◌≡◌, ◌≤◌, drop, map}
use Rattle.json_value.specs.View.{kept_view}
use Rattle.tree_types.specs.View.{table_view, tree_view}
use Rattle.listed_reading.specs.Unread.{first_of, standing_unread}
use Rattle.listed_reading.proofs.listed.first_among.Given as goal

abbrev pub invariant-loop-value : goal.invariant-loop-value
invariant-loop-value g l = record {
  rest : first_of (standing_unread (table_view l.table) (g.T.Texts.relations l.initial.texts) (tree_view l.tree) l.less_nulls (map kept_view l.listed.items))
      ≡ first_of (standing_unread (table_view l.table) (g.T.Texts.relations l.initial.texts) (tree_view l.tree) l.less_nulls (map kept_view (drop l.value-index l.listed.items)));
  keeps : g.T.Texts.relations l.texts ≡ g.T.Texts.relations l.initial.texts;
  counts : g.T.Texts.faults l.initial.texts ≤ g.T.Texts.faults l.texts;
}
