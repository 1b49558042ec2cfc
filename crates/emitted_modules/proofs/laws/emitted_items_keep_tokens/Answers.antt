use Rattle.emitted_modules.proofs.Items.{emitted_items_keep_tokens}
use Rattle.emitted_modules.proofs.laws.emitted_items_keep_tokens.Goals as goal

pub returns : goal.returns
returns c = emitted_items_keep_tokens
