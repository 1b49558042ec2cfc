use Rattle.std.proofs.Common.{map}
use Rattle.syntax_trees.specs.Item.{item_view}
use Rattle.conversion_table.specs.Conversions.{conversions_view}
use Rattle.derive_model.proofs.Whys.{fit_models, tame_models, fitted_models}
use Rattle.derive_model.proofs.module.Module.new.Goals as goal

pub module_of-requires-clause-fit : goal.module_of-requires-clause-fit
module_of-requires-clause-fit g c =
    let formed = c.in-Ok-formed_items in
    fit_models g.R.Renamer.variant_name g.R.Renamer.field_name (conversions_view c.args.conversions.now) (map item_view c.args.items.now) formed.formed.table.containers.containers.items formed.ensures.models formed.ensures.inside

pub module_of-requires-clause-tame : goal.module_of-requires-clause-tame
module_of-requires-clause-tame g c =
    let formed = c.in-Ok-formed_items in
    tame_models g.R.Renamer.variant_name g.R.Renamer.field_name (conversions_view c.args.conversions.now) (map item_view c.args.items.now) formed.formed.table.containers.containers.items formed.ensures.models formed.ensures.inside
    c.in-Ok-read_items.ensures.told

pub module_of-requires-clause-fitted : goal.module_of-requires-clause-fitted
module_of-requires-clause-fitted g c =
    let formed = c.in-Ok-formed_items in
    fitted_models g.R.Renamer.variant_name g.R.Renamer.field_name (conversions_view c.args.conversions.now) (map item_view c.args.items.now) formed.formed.table.containers.containers.items formed.ensures.models formed.ensures.inside
    c.in-Ok-read_items.ensures.told
