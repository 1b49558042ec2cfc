use Rattle.std.proofs.Common.{map, string_bytes}
use Rattle.schema_types.specs.View.{maybe_view, properties_view}
use Rattle.merge_members.proofs.Entering.{one_more}
use Rattle.merge_members.proofs.entries.named_entries.Goals as goal

pub loop-name-preserved : goal.loop-name-preserved
loop-name-preserved c = λ join object_type closed.
    let l = c.loop-name in
    one_more join (properties_view c.args.first.now.properties.now.entries) (maybe_view c.args.first.now.rest.now) (properties_view c.args.second.now.properties.now.entries) (maybe_view c.args.second.now.rest.now) c.args.has_nulls object_type closed (map string_bytes c.args.needed.now.keys) _
    l.entries.items c.push.new.self.items c.in_ok-one.one c.as_str.result.now c.in-Some.name.now l.name-iterator c.next.new.self c.in_ok-push.ensures.items c.as_str.ensures.value c.in-Some.ensures.steps
    (c.in_ok-one.ensures join object_type closed) (l.invariant join object_type closed)
