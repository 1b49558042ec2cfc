use Rattle.emitted_modules.proofs.Texts.{items_of_programs_keep_tokens}
use Rattle.emitted_modules.proofs.laws.items_of_programs_keep_tokens.Goals as goal

pub returns : goal.returns
returns c = items_of_programs_keep_tokens
