use Rattle.evolve_rows.specs.FormView.{form_view, home_view}
use Rattle.evolve_rows.specs.PlaceView.{place_view, table_view}
use Rattle.evolve_rows.proofs.AnyValue.{not_any}
use Rattle.evolve_rows.proofs.rows.rows.Goals as goal

pub returns : goal.returns
returns c = not_any (table_view c.args.tables.now.old) (table_view c.args.tables.now.new) (place_view c.args.pair.old) (place_view c.args.pair.new) (home_view c.args.old) (home_view c.args.new) (form_view c.args.old) (form_view c.args.new) c.is_any.result _ c.is_any.ensures c.if-is_any.false c.in_ok-turn.ensures
