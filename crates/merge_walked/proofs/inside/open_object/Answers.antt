use Rattle.std.proofs.Common.{option_map}
use Rattle.schema_types.specs.View.{object_view, subschemas_view, array_view, members_view, same_of, lists_of, named_of}
use Rattle.merge_walked.proofs.Objects.{opens}
use Rattle.merge_walked.proofs.inside.open_object.Goals as goal

pub returns : goal.returns
returns c =
    let ss = same_of (option_map subschemas_view c.in_ok-subschemas.subschemas) in
    let ls = lists_of (option_map array_view c.in_ok-array.array) in
    let ns = named_of (option_map members_view c.in_ok-members.members) in
    opens c.args.object (object_view c.with_parts.result) c.in_ok-own.own c.in_ok-walk.walk ss ls ns
    c.with_parts.ensures
    c.in_ok-own.ensures
    c.in_ok-walk.ensures
    c.in_ok-subschemas.ensures
    c.in_ok-array.ensures
    c.in_ok-members.ensures
