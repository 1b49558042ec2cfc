-- The parts of a merge that those of the program stand for.
use Rattle.std.specs.Prelude.{List, Option, Vec, map, option_map}
use Rattle.std.specs.declared.alloc.Global.{Global}
use Rattle.serde_json.specs.declared.value.Value as json
use Rattle.json_value.specs.Value.{Value}
use Rattle.json_value.specs.View.{kept_view}
use Rattle.merge_defs.specs.Leaves as defs
use Rattle.merge_defs.specs.Leaves.{unbounded, inclusive, exclusive}
use Rattle.merge_leaves.specs.declared.bounds.Bound.{Bound}
use Rattle.merge_leaves.specs.declared.bounds.Bound.TheVariants.{Unbounded, Inclusive, Exclusive}

abbrev pub bound_view : Bound → defs.Bound
bound_view Unbounded = unbounded
bound_view (Inclusive z) = inclusive z
bound_view (Exclusive z) = exclusive z

abbrev pub values_view : Option (Vec json.Value Global) → Option (List Value)
values_view o = option_map (λ v. map kept_view v.items) o
