-- What is left of a merge once both sides are met, for any merge and any subtraction of the parts.
use Rattle.std.specs.Prelude.{[], List, ℕ, Option, None, Some, option_map, string_bytes}
use Rattle.json_value.specs.Value.{Value}
use Rattle.schema_defs.specs.Schema.{Plain, Schema, boolean, object, no_same, Lists, Named, Document}
use Rattle.schema_defs.specs.Admits.{target, target_location}
use Rattle.schema_types.specs.View.{schema_view, array_view, members_view, subschemas_view, same_of, lists_of, named_of}
use Rattle.merge_defs.specs.Outcome.{Outcome, never, answer, and_then, mapped, where_both}
use Rattle.merge_defs.specs.Leaves.{two_lists}
use Rattle.merge_defs.specs.Arrays.{two_lists_parts}
use Rattle.merge_defs.specs.Objects.{no_plain, two_named}
use Rattle.merge_defs.specs.Members.{with_same}
use Rattle.merge_defs.specs.Merge.{stands_for_target, tidied}
use Rattle.merge_walks.specs.Carried.{Walk, on_walk, to_target}
use Rattle.merge_walks.specs.Made.{on_made, settled}
use Rattle.merge_sides.specs.Leaves.{LeavesOf, leaves_view}
use Rattle.merge_sides.specs.declared.met.Referred.{Referred}
use Rattle.merge_sides.specs.declared.met.Asked.{Asked}
use Rattle.merge_sides.specs.declared.met.Bodies.{Bodies}
use Rattle.merge_sides.specs.declared.met.Met.{Met}
use Rattle.merge_sides.specs.declared.met.Met.TheVariants.{Told, Target, Objects}

-- on a walk, if there is one
abbrev pub walk_or : (Walk → Schema → Schema) → Option Walk → Schema → Schema
walk_or f None s = s
walk_or f (Some w) s = f w s

-- ---- bodies

abbrev pub leaves_plain : LeavesOf → Option (List Value) → Plain
leaves_plain l vs = record no_plain { types = l.types; format = l.format; numbers = l.numbers; texts = l.texts; enum_values = vs }

-- the object of leaves, lists and members, and of the values that both list
abbrev pub body_outcome : LeavesOf → Lists → Named → Outcome Schema
body_outcome l ls ns = mapped (λ values. object (leaves_plain l values) no_same ls ns) (where_both two_lists l.values l.other_values)

-- with other listed values
abbrev pub listing : Option (List Value) → Schema → Schema
listing vs (boolean b) = boolean b
listing vs (object p ss ls ns) = object (record p { enum_values = vs }) ss ls ns

-- ---- references

-- a reference, and the walk of the schema that it stands in
abbrev pub referred_view : Referred → List ℕ × Walk
referred_view r = (string_bytes r.reference, r.walk)

-- what a reference that is merged with another side is answered as, where that is its target
abbrev pub referred_by : List ℕ × Walk → Schema → Option Schema → Outcome Schema
referred_by r m None = never []
referred_by r m (Some t) = mapped (settled r.1) (stands_for_target r.0 t m)

abbrev pub referred_outcome : Document → List ℕ × Walk → Schema → Outcome Schema
referred_outcome d r m = referred_by r m (target d r.0)

-- the target of a reference, on the reference's walk continued by one step
abbrev pub target_by : Document → List ℕ × Walk → (Schema → Outcome Schema) → Option Schema → Outcome Schema
target_by d r k None = never []
target_by d r k (Some t) = k (on_walk (to_target r.1 (target_location d r.0)) t)

abbrev pub target_then : Document → List ℕ × Walk → (Schema → Outcome Schema) → Outcome Schema
target_then d r k = target_by d r k (target d r.0)

-- ---- what is left

module _ (d : Document) (join less : Schema → Schema → Outcome Schema) where
  abbrev pub asked_outcome : Asked → Outcome Schema
  asked_outcome a = and_then (join (schema_view a.target) (schema_view a.other)) (referred_outcome d (referred_view a.rest))

  -- the body, then the subschemas of both sides
  abbrev pub bodies_outcome : Bodies → Outcome Schema
  bodies_outcome b =
      mapped (settled b.walk)
      (and_then (two_lists_parts (on_made b.walk join) b.is_array (lists_of (option_map array_view b.array)) (lists_of (option_map array_view b.other_array))) (λ lists.
      and_then (two_named (on_made b.walk join) b.has_nulls b.is_object (named_of (option_map members_view b.members)) (named_of (option_map members_view b.other_members))) (λ named.
      and_then (body_outcome (leaves_view b.leaves) lists named) (λ body.
      and_then (with_same d (on_made b.walk join) (on_made b.walk less) (same_of (option_map subschemas_view b.subschemas)) body) (λ body'.
      mapped tidied (with_same d (on_made b.walk join) (on_made b.walk less) (same_of (option_map subschemas_view b.other_subschemas)) body'))))))

  abbrev pub met_outcome : Met → Outcome Schema
  met_outcome (Told s) = answer [] (schema_view s)
  met_outcome (Target a) = asked_outcome a
  met_outcome (Objects b) = bodies_outcome b
