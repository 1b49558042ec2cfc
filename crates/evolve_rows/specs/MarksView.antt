-- What is told of steps, as the checker says it.
use Rattle.std.specs.Prelude.{List, map, Some, None}
use Rattle.std.specs.Borrow.{Bor}
use Rattle.model_defs.specs.Model.{VariantModel}
use Rattle.value_models.specs.VariantView.{variant_view}
use Rattle.value_models.specs.declared.variant.Variant.{Variant}
use Rattle.evolve_ways.specs.Ways as ways
use Rattle.evolve_ways.specs.Ways.{Told, field_mark, variant_mark, item_mark, place_mark, name_mark, value_mark, rest_mark}
use Rattle.evolve_rows.specs.declared.mark.Mark.{Mark}
use Rattle.evolve_rows.specs.declared.mark.Mark.TheVariants as seen
use Rattle.evolve_rows.specs.declared.mark.Step.{Step}
use Rattle.evolve_rows.specs.declared.mark.Step.TheVariants.{Inside, To}

abbrev pub mark_view : Mark → ways.Mark
mark_view (seen.Field n) = field_mark n.now
mark_view (seen.Variant n) = variant_mark n.now
mark_view seen.Item = item_mark
mark_view (seen.Place n) = place_mark n
mark_view seen.Name = name_mark
mark_view seen.Value = value_mark
mark_view seen.Rest = rest_mark

abbrev pub step_view : Step → Told
step_view Inside = None
step_view (To m) = Some (mark_view m)

abbrev pub steps_view : List Step → List Told
steps_view ss = map step_view ss

abbrev pub those_view : List (Bor Variant) → List VariantModel
those_view ws = map (λ w. variant_view w.now) ws
