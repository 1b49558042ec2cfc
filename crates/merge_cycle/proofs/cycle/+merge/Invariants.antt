use Rattle.std.proofs.Common.{◌+◌, ◌*◌, [], length, Bool}
use Rattle.std.specs.Vec.Iter.{into_iter_items}
use Rattle.schema_defs.specs.Schema.{no_properties, schemas}
use Rattle.schema_types.specs.View.{schema_view, schemas_view}
use Rattle.merge_defs.specs.Outcome.{answer, mapped}
use Rattle.merge_defs.specs.Arrays.{by_places}
use Rattle.merge_defs.specs.Members.{fates}
use Rattle.merge_apart.specs.View.{parted_view, IsSettled}
use Rattle.merge_leaves.specs.Sizes.{list_sizes_view}
use Rattle.merge_parts.specs.View.{notes_view}
use Rattle.merge_steps.specs.Ends.{Leads}
use Rattle.merge_lists.specs.Plans.{pairs_outcome, pairs_view, put_front}
use Rattle.merge_members.specs.Plans.{entries_then, gathered_outcome, properties_in}
use Rattle.merge_branches.specs.Kept.{fates_from, kept_view}
use Rattle.merge_cycle.specs.declared.how.How.TheVariants.{Join}
use Rattle.merge_cycle.specs.Within.{asked_in, folded}
use Rattle.merge_cycle.proofs.cycle.+merge.Given as goal

-- ---- measures

abbrev pub decreases-join : goal.decreases-join
decreases-join l = l.left * 20 + 0

abbrev pub decreases-less : goal.decreases-less
decreases-less l = l.left * 20 + 0

abbrev pub decreases-ask : goal.decreases-ask
decreases-ask l = l.left * 20 + 1

abbrev pub decreases-find : goal.decreases-find
decreases-find l = l.left * 20 + 2

abbrev pub decreases-fold_one : goal.decreases-fold_one
decreases-fold_one l = l.left * 20 + 2

abbrev pub decreases-fold : goal.decreases-fold
decreases-fold l = l.left * 20 + 3

abbrev pub decreases-join_bound : goal.decreases-join_bound
decreases-join_bound l = l.left * 20 + 3

abbrev pub decreases-join_pairs : goal.decreases-join_pairs
decreases-join_pairs l = l.left * 20 + 3

abbrev pub decreases-fates : goal.decreases-fates
decreases-fates l = l.left * 20 + 3

abbrev pub decreases-join_each : goal.decreases-join_each
decreases-join_each l = l.left * 20 + 4

abbrev pub decreases-join_places : goal.decreases-join_places
decreases-join_places l = l.left * 20 + 4

abbrev pub decreases-join_rest : goal.decreases-join_rest
decreases-join_rest l = l.left * 20 + 4

abbrev pub decreases-join_entries : goal.decreases-join_entries
decreases-join_entries l = l.left * 20 + 4

abbrev pub decreases-join_target : goal.decreases-join_target
decreases-join_target l = l.left * 20 + 4

abbrev pub decreases-join_lists : goal.decreases-join_lists
decreases-join_lists l = l.left * 20 + 5

abbrev pub decreases-join_both : goal.decreases-join_both
decreases-join_both l = l.left * 20 + 5

abbrev pub decreases-with_branches : goal.decreases-with_branches
decreases-with_branches l = l.left * 20 + 5

abbrev pub decreases-less_listed : goal.decreases-less_listed
decreases-less_listed l = l.left * 20 + 5

abbrev pub decreases-join_named : goal.decreases-join_named
decreases-join_named l = l.left * 20 + 6

abbrev pub decreases-with_parts : goal.decreases-with_parts
decreases-with_parts l = l.left * 20 + 6

abbrev pub decreases-less_all : goal.decreases-less_all
decreases-less_all l = l.left * 20 + 6

abbrev pub decreases-join_arrays : goal.decreases-join_arrays
decreases-join_arrays l = l.left * 20 + 7

abbrev pub decreases-join_members : goal.decreases-join_members
decreases-join_members l = l.left * 20 + 7

abbrev pub decreases-with_same : goal.decreases-with_same
decreases-with_same l = l.left * 20 + 7

abbrev pub decreases-less_object : goal.decreases-less_object
decreases-less_object l = l.left * 20 + 7

abbrev pub decreases-join_bodies : goal.decreases-join_bodies
decreases-join_bodies l = l.left * 20 + 8

abbrev pub decreases-less_met : goal.decreases-less_met
decreases-less_met l = l.left * 20 + 8

abbrev pub decreases-join_met : goal.decreases-join_met
decreases-join_met l = l.left * 20 + 9

-- ---- loops

abbrev pub invariant-fold-loop-schema : goal.invariant-fold-loop-schema
invariant-fold-loop-schema l =
    let f = asked_in l.scope l.left l.walk l.how in
    Leads (notes_view l.fn.notes.items) (notes_view l.notes.items) (folded f (schemas (schemas_view l.fn.list.items)) (schema_view l.fn.body))
    (folded f (schemas (schemas_view (into_iter_items l.schema-iterator))) (parted_view l.parted))
    × IsSettled l.parted.aside

abbrev pub invariant-join_pairs-loop-pair : goal.invariant-join_pairs-loop-pair
invariant-join_pairs-loop-pair l =
    let f = asked_in l.scope l.left l.walk Join in
    Leads (notes_view l.fn.notes.items) (notes_view l.notes.items) (pairs_outcome f l.around (pairs_view l.fn.pairs.items))
    (mapped (put_front (schemas_view l.items.items)) (by_places f l.around.is_array (list_sizes_view l.around.sizes) (length l.items.items) (pairs_view (into_iter_items l.pair-iterator))))

abbrev pub invariant-join_entries-loop-entry : goal.invariant-join_entries-loop-entry
invariant-join_entries-loop-entry l =
    let f = asked_in l.scope l.left l.walk l.how in
    (object_type : Bool) → Leads (notes_view l.fn.notes.items) (notes_view l.notes.items) (entries_then f object_type l.is_closed l.fn.entries.items (answer [] no_properties))
    (gathered_outcome object_type l.gathered.clashes (properties_in l.gathered) (entries_then f object_type l.is_closed (into_iter_items l.entry-iterator) (answer [] no_properties)))

abbrev pub invariant-fates-loop-place : goal.invariant-fates-loop-place
invariant-fates-loop-place l =
    let f = asked_in l.scope l.left l.walk Join in
    Leads (notes_view l.fn.notes.items) (notes_view l.notes.items) (fates f (schema_view l.body) [] (schemas_view l.members.items)) (fates_from f (schema_view l.body) (schemas_view l.members.items) l.place (kept_view l.kept))
