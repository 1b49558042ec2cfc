use Rattle.std.proofs.Common.{◌≡◌, ◌++◌, map}
use Rattle.std.specs.Vec.Iter.{into_iter_items}
use Rattle.schema_types.specs.View.{schemas_view}
use Rattle.merge_defs.specs.Members.{left_schemas}
use Rattle.merge_branches.specs.Kept.{kept_view, left_view}
use Rattle.merge_branches.proofs.made.schemas_of.Given as goal

abbrev pub invariant-loop-left : goal.invariant-loop-left
invariant-loop-left l = schemas_view l.schemas.items ++ left_schemas (map left_view (into_iter_items l.left-iterator)) ≡ left_schemas (kept_view l.fn.kept).members
