use Rattle.std.proofs.Common.{option_map, rules}
use Rattle.schema_defs.specs.Schema.{object, no_same}
use Rattle.schema_types.specs.View.{array_view, members_view, lists_of, named_of}
use Rattle.merge_steps.proofs.Ending.{maps, memory}
use Rattle.merge_sides.specs.Leaves.{leaves_view}
use Rattle.merge_sides.specs.Met.{leaves_plain}
use Rattle.merge_sides.proofs.Going.{off_mapped}
use Rattle.merge_sides.proofs.body.body_of.Goals as goal

pub returns : goal.returns
returns c = λ ns.
    maps (λ values. object (leaves_plain (leaves_view c.args.leaves) values) no_same (lists_of (option_map array_view c.args.array)) (named_of (option_map members_view c.args.members))) c.in_ok-listed.listed _ (c.in_ok-listed.ensures ns)
    (search rules)

pub returns-in_err-listed : goal.returns-in_err-listed
returns-in_err-listed c = λ ns. off_mapped _ _ _ c.from_residual.ensures.1 (c.in_err-listed.ensures ns)

pub returns-in_err-boxed : goal.returns-in_err-boxed
returns-in_err-boxed c = λ ns. memory _ c.from_residual-in_err-boxed.ensures.1
