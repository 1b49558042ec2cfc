-- What is left to merge of two sides' keywords of lists, and how it stands while places are merged.
use Rattle.std.specs.Prelude.{List, [], map, ◌++◌, Bool, true, false, Option, option_map}
use Rattle.schema_defs.specs.Schema.{Schema, Lists, schemas, schema_list}
use Rattle.schema_types.specs.declared.schema.ArrayValidation.{ArrayValidation}
use Rattle.schema_types.specs.View.{schema_view, schemas_view, array_view, lists_of, maybe_view}
use Rattle.merge_defs.specs.Outcome.{Outcome, answer, and_then, mapped}
use Rattle.merge_defs.specs.Arrays as defs
use Rattle.merge_defs.specs.Arrays.{Front, Merged, at_most, at_clash, goes_on, with_front, each_of_both, by_places, ending}
use Rattle.merge_leaves.specs.Sizes.{list_sizes_view}
use Rattle.merge_lists.specs.declared.plan.Pair.{Pair}
use Rattle.merge_lists.specs.declared.plan.Around.{Around}
use Rattle.merge_lists.specs.declared.plan.ListPlan.{ListPlan}
use Rattle.merge_lists.specs.declared.plan.ListPlan.TheVariants.{Told, Each, ByPlace}
use Rattle.merge_lists.specs.declared.merged.End.{End}
use Rattle.merge_lists.specs.declared.merged.End.TheVariants.{AtMost, AtClash, GoesOn}
use Rattle.merge_lists.specs.declared.merged.MergedPlaces.{MergedPlaces}

abbrev pub pair_view : Pair → Schema × Schema
pair_view p = (schema_view p.first, schema_view p.second)

abbrev pub pairs_view : List Pair → List (Schema × Schema)
pairs_view ps = map pair_view ps

abbrev pub end_view : End → defs.End
end_view AtMost = at_most
end_view (AtClash k) = at_clash k
end_view GoesOn = goes_on

abbrev pub merged_view : MergedPlaces → Merged
merged_view m = record { items = schemas (schemas_view m.items.items); end = end_view m.end }

abbrev pub does_go_on : defs.End → Bool
does_go_on goes_on = true
does_go_on _ = false

-- items before those of a merge
abbrev pub put_front : List Schema → Merged → Merged
put_front ss m = record { items = schemas (ss ++ schema_list m.items); end = m.end }

abbrev pub maybe_array : Option ArrayValidation → Lists
maybe_array a = lists_of (option_map array_view a)

-- contains and the sizes stand around the front
abbrev pub around_front : Around → Front → Lists
around_front r = with_front (maybe_view r.contains) (list_sizes_view r.sizes)

-- what is left to merge, for any merge of the parts
module _ (join : Schema → Schema → Outcome Schema) where
  abbrev pub each_outcome : Around → Outcome Schema → Outcome Lists
  each_outcome r o = mapped (around_front r) (each_of_both join r.is_array (list_sizes_view r.sizes) o)

  abbrev pub pairs_outcome : Around → List (Schema × Schema) → Outcome Merged
  pairs_outcome r ps = by_places join r.is_array (list_sizes_view r.sizes) 0 ps

  abbrev pub ending_outcome : Around → Bool → Outcome Schema → Merged → Outcome Lists
  ending_outcome r stays o m = mapped (around_front r) (ending join r.is_array (list_sizes_view r.sizes) stays o m)

  abbrev pub list_outcome : ListPlan → Outcome Lists
  list_outcome (Told a) = answer [] (maybe_array a)
  list_outcome (Each p r) = each_outcome r (join (schema_view p.first) (schema_view p.second))
  list_outcome (ByPlace p) = and_then (pairs_outcome p.around (pairs_view p.pairs.items)) (ending_outcome p.around p.is_placed (join (schema_view p.after.first) (schema_view p.after.second)))
