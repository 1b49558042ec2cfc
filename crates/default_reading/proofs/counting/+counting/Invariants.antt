use Rattle.std.proofs.Common.{◌≡◌, ◌+◌, drop, option_map}
use Rattle.entry_defs.specs.Entry.{no_fields}
use Rattle.tree_types.specs.View.{fields_view, parts_of}
use Rattle.default_defs.specs.Supplied.{stated_in_entries, stated_in_fields}
use Rattle.default_reading.specs.Counts.{stated_in_cases}
use Rattle.default_reading.specs.Seen.{places_in}
use Rattle.default_reading.proofs.Weights.{tree_weight, part_weight, parts_weight, maybe_weight, cases_weight}
use Rattle.default_reading.proofs.counting.+counting.Given as goal

abbrev pub decreases-count_tree : goal.decreases-count_tree
decreases-count_tree l = tree_weight l.tree.now

abbrev pub decreases-count_maybe : goal.decreases-count_maybe
decreases-count_maybe l = maybe_weight (option_map (λ x. x.now) l.tree)

abbrev pub decreases-count_places : goal.decreases-count_places
decreases-count_places l = 2 + parts_weight l.places.now

abbrev pub decreases-count_fields : goal.decreases-count_fields
decreases-count_fields l = 2 + parts_weight l.fields.now

abbrev pub decreases-count_field : goal.decreases-count_field
decreases-count_field l = part_weight l.field.now

abbrev pub decreases-count_variants : goal.decreases-count_variants
decreases-count_variants l = cases_weight l.variants.now

abbrev pub decreases-count_contents : goal.decreases-count_contents
decreases-count_contents l = 3 + parts_weight l.parts.now

abbrev pub invariant-count_places-loop-place : goal.invariant-count_places-loop-place
invariant-count_places-loop-place l = l.count + stated_in_entries (places_in (drop l.place-index l.places)) ≡ stated_in_entries (places_in l.places)

abbrev pub invariant-count_fields-loop-field : goal.invariant-count_fields-loop-field
invariant-count_fields-loop-field l = l.count + stated_in_fields (fields_view (parts_of (drop l.field-index l.fields)) no_fields) ≡ stated_in_fields (fields_view (parts_of l.fields) no_fields)

abbrev pub invariant-count_variants-loop-variant : goal.invariant-count_variants-loop-variant
invariant-count_variants-loop-variant l = l.count + stated_in_cases (drop l.variant-index l.variants) ≡ stated_in_cases l.variants
