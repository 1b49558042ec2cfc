use Rattle.std.proofs.Common.{◌≡◌, ◌++◌, map, drop}
use Rattle.attr_defs.specs.Rows.{names_read}
use Rattle.attr_acts.specs.Views.{acts_view, text_view}
use Rattle.attr_acts.specs.HalfViews.{given_view}
use Rattle.attr_rows.proofs.row.read_names.Given as goal

abbrev pub invariant-loop-given : goal.invariant-loop-given
invariant-loop-given l = acts_view l.acts.items ++ names_read l.name.0.now (map (given_view text_view) (drop l.given-index l.texts)) ≡ acts_view l.initial.acts.items ++ names_read l.name.0.now (map (given_view text_view) l.texts)
