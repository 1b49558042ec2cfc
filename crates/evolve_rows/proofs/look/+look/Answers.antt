use Rattle.std.proofs.Common.{◌≡◌, ◌-◌, suc, arith}
use Rattle.value_models.specs.TypeView.{type_view}
use Rattle.evolve_defs.specs.Forms.{item_form}
use Rattle.evolve_defs.specs.Spots.{item_home}
use Rattle.evolve_rows.specs.PlaceView.{table_view}
use Rattle.evolve_rows.proofs.Looked.{form_by_item, form_known, home_by_item, home_known, form_entered, home_entered}
use Rattle.evolve_rows.proofs.look.+look.Goals as goal

pub look_item-returns-in-Some-clause-form : goal.look_item-returns-in-Some-clause-form
look_item-returns-in-Some-clause-form t c =
    let h : c.args.left ≡ suc (c.args.left - 1) = omega (arith, c.if-left-eq0.false) in
    form_entered (table_view c.args.table.now) (c.args.left - 1) c.args.left c.args.name.now _ _ h c.in-Some.ensures c.look_container.ensures.form

pub look_item-returns-in-Some-clause-home : goal.look_item-returns-in-Some-clause-home
look_item-returns-in-Some-clause-home t c =
    let h : c.args.left ≡ suc (c.args.left - 1) = omega (arith, c.if-left-eq0.false) in
    home_entered (table_view c.args.table.now).models (c.args.left - 1) c.args.left c.args.name.now _ _ h c.in-Some.ensures c.look_container.ensures.home

pub look_type-returns-in-Item-clause-form : goal.look_type-returns-in-Item-clause-form
look_type-returns-in-Item-clause-form t c =
    form_by_item (item_form (table_view c.args.table.now) c.args.left) (type_view c.args.ty.now) c.in-Item.name.now _ c.in-Item.ensures.form c.look_item.ensures.form

pub look_type-returns-in-Item-clause-home : goal.look_type-returns-in-Item-clause-home
look_type-returns-in-Item-clause-home t c =
    home_by_item (item_home (table_view c.args.table.now).models c.args.left) (type_view c.args.ty.now) c.in-Item.name.now _ c.in-Item.ensures.form c.look_item.ensures.home

pub look_type-returns-in-Known-clause-form : goal.look_type-returns-in-Known-clause-form
look_type-returns-in-Known-clause-form t c = form_known (item_form (table_view c.args.table.now) c.args.left) (type_view c.args.ty.now) _ c.in-Known.ensures.form

pub look_type-returns-in-Known-clause-home : goal.look_type-returns-in-Known-clause-home
look_type-returns-in-Known-clause-home t c =
    home_known (item_home (table_view c.args.table.now).models c.args.left) (type_view c.args.ty.now) _ _ c.in-Known.ensures.form c.in-Known.ensures.home
