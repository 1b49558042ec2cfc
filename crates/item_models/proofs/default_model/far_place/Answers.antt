use Rattle.item_models.proofs.Places.{zero_place, other_place}
use Rattle.item_models.proofs.default_model.far_place.Goals as goal

pub returns-then-first-eq48 : goal.returns-then-first-eq48
returns-then-first-eq48 c = zero_place c.args.digits.now c.in-Some.first.now c.in-Some.field-0-1.now c.in-Some.ensures.cases.0 c.if-first-eq48.true c.requires.number c.requires.large

pub returns : goal.returns
returns c = other_place c.args.digits.now c.in-Some.first.now c.in-Some.field-0-1.now c.in-Some.ensures.cases.0 c.if-first-eq48.false c.requires.number c.requires.large
