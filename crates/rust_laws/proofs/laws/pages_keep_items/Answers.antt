use Rattle.rust_laws.proofs.Pages.{pages_keep_items}
use Rattle.rust_laws.proofs.laws.pages_keep_items.Goals as goal

pub returns : goal.returns
returns c = pages_keep_items
