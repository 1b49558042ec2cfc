use Rattle.typify_convert.proofs.Plainly.{plain_items_may_be_added}
use Rattle.typify_convert.proofs.laws.plain_items_may_be_added.Goals as goal

pub returns : goal.returns
returns c = plain_items_may_be_added
