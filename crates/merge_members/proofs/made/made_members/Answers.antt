use Rattle.std.proofs.Common.{[]}
use Rattle.schema_defs.specs.Schema.{no_properties}
use Rattle.schema_types.specs.View.{maybe_view}
use Rattle.merge_defs.specs.Outcome.{answer}
use Rattle.merge_defs.specs.Objects.{two_member_rules}
use Rattle.merge_leaves.specs.Sizes.{merged_sizes_view}
use Rattle.merge_members.specs.Plans.{gathered_outcome, maybe_members, properties_in}
use Rattle.merge_members.proofs.Making.{props_stop, rules_stop, made_there}
use Rattle.merge_members.proofs.made.made_members.Goals as goal

pub returns-in_err-properties : goal.returns-in_err-properties
returns-in_err-properties c =
    props_stop c.args.frame.is_dropped (maybe_view c.args.rest) (gathered_outcome c.args.frame.is_object c.args.gathered.clashes (properties_in c.args.gathered) (answer [] no_properties))
    (two_member_rules c.args.frame.is_object (merged_sizes_view c.args.frame.sizes) (merged_sizes_view c.args.frame.others)) _ maybe_members _ _ _ c.in_err-properties.field-0.0 c.from_residual.ensures.1 c.in_err-properties.ensures

pub returns-in_err-sizes : goal.returns-in_err-sizes
returns-in_err-sizes c =
    rules_stop c.args.frame.is_dropped (maybe_view c.args.rest) (gathered_outcome c.args.frame.is_object c.args.gathered.clashes (properties_in c.args.gathered) (answer [] no_properties))
    (two_member_rules c.args.frame.is_object (merged_sizes_view c.args.frame.sizes) (merged_sizes_view c.args.frame.others)) _ maybe_members _ _ _ _ _ c.in_err-sizes.field-0.0 c.from_residual-in_err-sizes.ensures.1 c.in_ok-properties.ensures c.in_err-sizes.ensures

pub returns : goal.returns
returns c =
    made_there c.args.frame.is_dropped (maybe_view c.args.rest) (gathered_outcome c.args.frame.is_object c.args.gathered.clashes (properties_in c.args.gathered) (answer [] no_properties))
    (two_member_rules c.args.frame.is_object (merged_sizes_view c.args.frame.sizes) (merged_sizes_view c.args.frame.others)) _ maybe_members _ _ _ _ _ _ _ c.in_ok-properties.ensures c.in_ok-sizes.ensures c.object_of-members.ensures c.kept.ensures
