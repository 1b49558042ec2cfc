use Rattle.rust_laws.proofs.Pages.{docs_stand_at_their_items}
use Rattle.rust_laws.proofs.laws.docs_stand_at_their_items.Goals as goal

pub returns : goal.returns
returns c = docs_stand_at_their_items
