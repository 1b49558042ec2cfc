use Rattle.module_laws.proofs.Items.{items_keep_tokens}
use Rattle.module_laws.proofs.laws.items_keep_tokens.Goals as goal

pub returns : goal.returns
returns c = items_keep_tokens
