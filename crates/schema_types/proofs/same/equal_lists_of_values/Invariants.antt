use Rattle.std.proofs.Common.{◌≡◌, drop, map}
use Rattle.std.specs.Cmp.Lexicographic.{pointwise}
use Rattle.json_value.specs.Value.{same as same_value}
use Rattle.std.specs.Slice.Iter.{iter_rest}
use Rattle.json_value.specs.View.{kept_view}
use Rattle.schema_types.proofs.same.equal_lists_of_values.Given as goal

abbrev pub invariant-loop-x : goal.invariant-loop-x
invariant-loop-x l =
    pointwise same_value (map kept_view l.fn.a.items) (map kept_view l.fn.b.items) ≡ pointwise same_value (map kept_view (drop l.x-index l.x-items)) (map kept_view (iter_rest l.others))
