use Rattle.std.proofs.Common.{◌≡◌, length, refl, sym, ◌∙◌}
use Rattle.row_findings.specs.View.{keyword_view}
use Rattle.member_rows.proofs.Places.{members_more, counted_more, members_done}
use Rattle.member_rows.proofs.members.members_in.Goals as goal

pub loop-schema-preserved : goal.loop-schema-preserved
loop-schema-preserved c = record {
  whole =
      c.loop-schema.invariant.whole
      ∙ members_more (keyword_view c.args.keyword) c.loop-schema.index c.in-Some.schema.now c.loop-schema.left.now c.in-Some.rest.now c.loop-schema.members.items c.push.new.self.items _
      c.in-Some.ensures.cases.0 c.in_ok-push.ensures.items refl;
  count = counted_more c.loop-schema.index (length c.args.list.now.items) c.in-Some.schema.now c.loop-schema.left.now c.in-Some.rest.now c.in-Some.ensures.cases.0 c.loop-schema.invariant.count;
}

pub returns : goal.returns
returns c =
    sym (c.loop-schema.invariant.whole ∙ members_done (keyword_view c.args.keyword) c.loop-schema.index c.loop-schema.left.now c.loop-schema.members.items c.in_default.ensures.cases)
