use Rattle.std.proofs.Common.{◌≡◌, ◌+◌, arith}
use Rattle.model_defs.specs.Reads.{allowed}
use Rattle.value_models.specs.TypeView.{type_view}
use Rattle.evolve_rows.specs.PlaceView.{table_view}
use Rattle.evolve_rows.proofs.Looked.{form_fresh, home_fresh}
use Rattle.evolve_rows.proofs.look.look_fresh.Goals as goal

pub returns-clause-form : goal.returns-clause-form
returns-clause-form c =
    let h : c.count.result + 1 ≡ allowed (table_view c.args.table.now).models = omega (arith, c.count.ensures.count) in
    form_fresh (table_view c.args.table.now) (type_view c.args.ty.now) c.count.result _ h c.look_type.ensures.form

pub returns-clause-home : goal.returns-clause-home
returns-clause-home c =
    let h : c.count.result + 1 ≡ allowed (table_view c.args.table.now).models = omega (arith, c.count.ensures.count) in
    home_fresh (table_view c.args.table.now).models (type_view c.args.ty.now) c.count.result _ h c.look_type.ensures.home
