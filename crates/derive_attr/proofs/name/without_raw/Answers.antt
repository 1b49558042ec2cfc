use Rattle.derive_attr.proofs.Raw.{raw_stripped, raw_stays}
use Rattle.derive_attr.proofs.name.without_raw.Goals as goal

pub returns-in-Some : goal.returns-in-Some
returns-in-Some c = raw_stripped c.args.text.now c.in-Some.rest.now c.in-Some.ensures.cases

pub returns-in-None : goal.returns-in-None
returns-in-None c = raw_stays c.args.text.now c.in-None.ensures.cases
