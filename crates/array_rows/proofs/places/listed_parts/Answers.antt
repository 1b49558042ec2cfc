use Rattle.std.proofs.Common.{◌≡◌, length, refl, sym, ◌∙◌}
use Rattle.array_rows.proofs.Sizes.{listed_more, counted_more, listed_done}
use Rattle.array_rows.proofs.places.listed_parts.Goals as goal

pub loop-schema-preserved : goal.loop-schema-preserved
loop-schema-preserved c = record {
  whole =
      c.loop-schema.invariant.whole
      ∙ listed_more c.loop-schema.place c.loop-schema.more c.in-Some.schema.now c.loop-schema.left.now c.in-Some.rest.now c.loop-schema.parts.items c.push.new.self.items _
      c.if-more-eq0.false c.in-Some.ensures.cases.0 c.in_ok-push.ensures.items refl;
  count = counted_more c.loop-schema.place (length c.args.listed.now.items) c.in-Some.schema.now c.loop-schema.left.now c.in-Some.rest.now c.in-Some.ensures.cases.0 c.loop-schema.invariant.count;
}

pub returns : goal.returns
returns c =
    sym (c.loop-schema.invariant.whole ∙ listed_done c.loop-schema.place c.loop-schema.more c.loop-schema.left.now c.loop-schema.parts.items c.in_default.ensures.cases)
