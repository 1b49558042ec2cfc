use Rattle.std.proofs.Common.{map, string_bytes}
use Rattle.schema_types.specs.View.{properties_view}
use Rattle.merge_less.proofs.Naming.{one_more}
use Rattle.merge_less.proofs.entries.named_entries.Goals as goal

pub loop-name-preserved : goal.loop-name-preserved
loop-name-preserved c = λ less.
    let l = c.loop-name in
    one_more less (properties_view c.args.first.now.properties.now.entries) (properties_view c.args.second.now.properties.now.entries) (map string_bytes c.args.first.now.required.now.keys) (map string_bytes c.args.second.now.required.now.keys) _
    l.entries.items c.push.new.self.items c.in_ok-one.one c.as_str.result.now c.in-Some.name.now l.name-iterator c.next.new.self c.in_ok-push.ensures.items c.as_str.ensures.value c.in-Some.ensures.steps
    (c.in_ok-one.ensures less) (l.invariant less)
