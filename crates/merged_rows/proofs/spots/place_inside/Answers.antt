use Rattle.std.proofs.Common.{ap, ◌∙◌}
use Rattle.merged_rows.specs.Starts.{spot_of}
use Rattle.merged_rows.proofs.Inside.{one_further, own_start}
use Rattle.merged_rows.proofs.spots.place_inside.Goals as goal

pub returns-in-Some : goal.returns-in-Some
returns-in-Some c = λ g h.
    ap (λ ks. spot_of c.in-Some.inside ks h) c.new.ensures.items
    ∙ own_start c.args.start.now c.args.trail.now.items c.args.steps c.in_ok-inside.field-0 _ h c.in-Some.inside c.in-Some.is (c.in_ok-inside.ensures g h)

pub returns-in_ok-trail-in-None : goal.returns-in_ok-trail-in-None
returns-in_ok-trail-in-None c = λ g h.
    one_further c.args.start.now c.args.trail.now.items c.args.steps c.in_ok-inside.field-0 _ h c.in_ok-trail-in-None.trail.items c.in-None.is c.in_ok-trail-in-None.ensures (c.in_ok-inside.ensures g h)
