-- The tables and places of the checker that those of the program stand for.
use Rattle.conversion_table.specs.Conversions.{conversions_view}
use Rattle.model_defs.specs.Types.{outside_type}
use Rattle.value_models.specs.ContainersView.{containers_in}
use Rattle.value_models.specs.TypeView.{type_view}
use Rattle.evolve_defs.specs.Forms as forms
use Rattle.evolve_defs.specs.Spots.{Spot, of_type, of_variant}
use Rattle.evolve_rows.specs.declared.place.Table.{Table}
use Rattle.evolve_rows.specs.declared.place.Place.{Place}
use Rattle.evolve_rows.specs.declared.place.Place.TheVariants.{Of, Variant, Nowhere}

abbrev pub table_view : Table → forms.Table
table_view t = record { models = containers_in t.models.now.containers; conversions = conversions_view t.conversions.now }

abbrev pub place_view : Place → Spot
place_view (Of t) = of_type (type_view t.now)
place_view (Variant n i) = of_variant n.now i
place_view Nowhere = of_type outside_type
