-- Two objects that are met, by their references.
use Rattle.std.specs.Prelude.{zero, ◌||◌, Bool, false, List, ℕ, Option, None, Some, option_map, bytes_eq, if◌then◌else◌}
use Rattle.schema_defs.specs.Schema.{Schema, Same, no_same, same_value, Document}
use Rattle.schema_defs.specs.Admits.{target, target_location}
use Rattle.merge_defs.specs.Outcome.{Outcome, answer, mapped, noted}
use Rattle.merge_defs.specs.Members.{stand_both, lost_sizes}
use Rattle.merge_defs.specs.Merge.{target_merged, two_objects, drops_siblings, reference_to}
use Rattle.merge_walks.specs.Carried.{Walk, own_walk, on_walk, to_target}
use Rattle.merge_walks.specs.Made.{longer, on_made, settled}
use Rattle.merge_walks.specs.Walked.{join_objects, join_sides}
use Rattle.schema_sameness.specs.Parts.{plain_in, same_in, lists_in, named_in}

abbrev pub reference_in : Schema → Option (List ℕ)
reference_in s = (plain_in s).reference

abbrev pub own_walk_in : Schema → Walk
own_walk_in s = own_walk (plain_in s)

-- the reference of a schema, and its walk
abbrev pub referred_in : Schema → Option (List ℕ × Walk)
referred_in s = option_map (λ q. (q, own_walk_in s)) (reference_in s)

abbrev pub walk_of_two : Schema → Schema → Walk
walk_of_two s t = longer (own_walk_in s) (own_walk_in t)

-- both refer to the same
abbrev pub refer_alike : Option (List ℕ) → Option (List ℕ) → Bool
refer_alike (Some f) (Some g) = bytes_eq f g
refer_alike _ _ = false

-- what stands beside a reference
abbrev pub drops_beside : Schema → Bool
drops_beside s = drops_siblings (plain_in s) (same_in s) (lists_in s) (named_in s)

-- anyOf beside oneOf
abbrev pub any_beside_one : Same → Bool
any_beside_one no_same = false
any_beside_one (same_value all any one none c) = stand_both any one

module _ (d : Document) (join less : Schema → Schema → Outcome Schema) where
  -- a reference beside another side
  abbrev pub target_outcome : List ℕ × Walk → Schema → Outcome Schema
  target_outcome r x = mapped (settled r.1) (target_merged r.0 (target d r.0) (λ t. join (on_walk (to_target r.1 (target_location d r.0)) t) x))

  -- where the first side is a reference
  abbrev pub first_outcome : List ℕ × Walk → Schema → Schema → Outcome Schema
  first_outcome r s t =
      if refer_alike (reference_in s) (reference_in t)
      then mapped (settled r.1) (answer (lost_sizes (drops_beside s || drops_beside t)) (reference_to r.0))
      else noted (lost_sizes (drops_beside s)) (target_outcome r t)

  -- where the second alone is
  abbrev pub second_outcome : List ℕ × Walk → Schema → Schema → Outcome Schema
  second_outcome r s t = noted (lost_sizes (drops_beside t)) (target_outcome r s)

  -- both sides; how many steps are allowed is asked before
  abbrev pub sides_outcome : Schema → Schema → Outcome Schema
  sides_outcome s t = join_sides d zero join less s t

  -- by whichever references there are
  abbrev pub referring_outcome : Schema → Schema → Outcome Schema
  referring_outcome s t =
      join_objects d zero join less (plain_in s) (same_in s) (lists_in s) (named_in s) (plain_in t) (same_in t) (lists_in t) (named_in t) (reference_in s) (reference_in t)

  -- as if there were none
  abbrev pub objects_outcome : Schema → Schema → Outcome Schema
  objects_outcome s t =
      mapped (settled (walk_of_two s t))
      (two_objects d (on_made (walk_of_two s t) join) (on_made (walk_of_two s t) less) (plain_in s) (same_in s) (lists_in s) (named_in s) (plain_in t) (same_in t) (lists_in t) (named_in t))

  -- where the first is none
  abbrev pub other_outcome : Schema → Schema → Option (List ℕ × Walk) → Outcome Schema
  other_outcome s t None = objects_outcome s t
  other_outcome s t (Some r) = second_outcome r s t
