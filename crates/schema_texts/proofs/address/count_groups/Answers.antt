use Rattle.std.proofs.Common.{rules, sym}
use Rattle.schema_texts.proofs.Addresses.{counted_stop, counted_more}
use Rattle.schema_texts.proofs.address.count_groups.Goals as goal

pub returns-then-not-is_group : goal.returns-then-not-is_group
returns-then-not-is_group c =
    counted_stop c.loop-group.invariant.counted c.in-Some.group.now c.in-Some.others.now c.in-Some.ensures.parts (sym c.if-not-is_group.ensures.group)

pub loop-group-preserved : goal.loop-group-preserved
loop-group-preserved c = record {
  counted = search (rules, counted_more c.loop-group.invariant.counted);
  room = search rules;
}
