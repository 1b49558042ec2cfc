-- Merging and subtraction by walks: Depth exactly where a walk is met that has more steps than are allowed.
use Rattle.std.specs.Prelude.{ℕ, zero, suc, List, [], Bool, true, false, Option, Some, None, is_some, if◌then◌else◌}
use Rattle.schema_defs.specs.Schema.{Plain, Schema, boolean, object, Same, Lists, Named, Schemas, Document}
use Rattle.schema_defs.specs.Admits.{target_location}
use Rattle.merge_defs.specs.Outcome.{Outcome, answer, never, fault, depth, mapped}
use Rattle.merge_defs.specs.Less.{merge_schemas}
use Rattle.merge_defs.specs.Merge.{Merger, two_objects, by_references, less_layer, with_subschemas_layer}
use Rattle.merge_walks.specs.Carried.{Walk, made_on, own_walk, on_walk, to_target, has_more_steps, opened, same_inside}
use Rattle.merge_walks.specs.Made.{longer, longest_or, walks_of, settled, on_made}

-- the walk of a side; a boolean has none
abbrev pub walk_of : Schema → Walk
walk_of s = longest_or [] (walks_of s)

-- a side that is met, unless its walk has more steps than are allowed
abbrev pub unless_deep : ℕ → Schema → (Schema → Outcome Schema) → Outcome Schema
unless_deep most s k = elim (has_more_steps most (walk_of s)) [ true ↦ fault (depth (walk_of s)) | false ↦ k (opened s) ]

abbrev pub has_reference : Schema → Bool
has_reference (boolean b) = false
has_reference (object p ss ls ns) = is_some p.reference

-- the walk of what is left of a schema: the longer of both; one with a reference keeps its own, which its target goes on with
abbrev pub walk_left : Schema → Schema → Walk
walk_left a b = if has_reference a then walk_of a else longer (walk_of a) (walk_of b)

-- what is left where an object is taken away is made; without a boolean a schema is left as it is
abbrev pub left_side : Schema → Walk → Schema → Schema
left_side (boolean b) w a = a
left_side (object q tt' ms os) w a = on_walk (made_on w) a

module _ (d : Document) (most : ℕ) (join less : Schema → Schema → Outcome Schema) where
  -- the target of a reference continues the reference's walk by one step
  abbrev pub join_target : Walk → List ℕ → Schema → Schema → Outcome Schema
  join_target w q t x = join (on_walk (to_target w (target_location d q)) t) x

  -- a reference that is answered keeps its own walk
  abbrev pub join_objects : Plain → Same → Lists → Named → Plain → Same → Lists → Named → Option (List ℕ) → Option (List ℕ) → Outcome Schema
  join_objects p ss ls ns q tt' ms os None None =
      mapped (settled (longer (own_walk p) (own_walk q))) (two_objects d (on_made (longer (own_walk p) (own_walk q)) join) (on_made (longer (own_walk p) (own_walk q)) less) p ss ls ns q tt' ms os)
  join_objects p ss ls ns q tt' ms os None (Some g) = mapped (settled (own_walk q)) (by_references d (join_target (own_walk q) g) less p ss ls ns q tt' ms os None (Some g))
  join_objects p ss ls ns q tt' ms os (Some f) g = mapped (settled (own_walk p)) (by_references d (join_target (own_walk p) f) less p ss ls ns q tt' ms os (Some f) g)

  abbrev pub join_sides : Schema → Schema → Outcome Schema
  join_sides (boolean false) b = never []
  join_sides (boolean true) b = answer [] b
  join_sides (object p ss ls ns) (boolean false) = never []
  join_sides (object p ss ls ns) (boolean true) = answer [] (object p ss ls ns)
  join_sides (object p ss ls ns) (object q tt' ms os) = join_objects p ss ls ns q tt' ms os p.reference q.reference

  -- the left side is met first
  abbrev pub walked_join : Schema → Schema → Outcome Schema
  walked_join a b = unless_deep most a (λ a'. unless_deep most b (join_sides a'))

  abbrev pub walked_less : Schema → Schema → Outcome Schema
  walked_less a b = unless_deep most a (λ a'. unless_deep most b (λ b'. less_layer d join less (left_side b' (walk_left a b) a') b'))

  -- the members stand in the body
  abbrev pub walked_with : Schema → Same → Outcome Schema
  walked_with b ss = mapped (settled (walk_of b)) (with_subschemas_layer d (on_made (walk_of b) join) (on_made (walk_of b) less) (opened b) (same_inside (walk_of b) ss))

-- ---- by so many levels

-- Depth without a walk, where there are too few levels
abbrev pub too_few : Schema → Schema → Outcome Schema
too_few a b = fault (depth [])

-- what merges the parts
abbrev pub parts_within : Document → ℕ → ℕ → Merger
parts_within d most zero = record { join = too_few; less = too_few }
parts_within d most (suc n) =
    record { join = λ a b. walked_join d most (parts_within d most n).join (parts_within d most n).less a b; less = λ a b. walked_less d most (parts_within d most n).join (parts_within d most n).less a b }

abbrev pub join_by_walks : Document → ℕ → ℕ → Schema → Schema → Outcome Schema
join_by_walks d most n = walked_join d most (parts_within d most n).join (parts_within d most n).less

abbrev pub less_by_walks : Document → ℕ → ℕ → Schema → Schema → Outcome Schema
less_by_walks d most n = walked_less d most (parts_within d most n).join (parts_within d most n).less

-- several, from the left
abbrev pub merge_by_walks : Document → ℕ → ℕ → Schemas → Outcome Schema
merge_by_walks d most n = merge_schemas (join_by_walks d most n) (less_by_walks d most n)

abbrev pub with_by_walks : Document → ℕ → ℕ → Schema → Same → Outcome Schema
with_by_walks d most n = walked_with d most (parts_within d most n).join (parts_within d most n).less
