use Rattle.tidy_laws.proofs.Kept.{tidy_keeps_tokens}
use Rattle.tidy_laws.proofs.laws.tidy_keeps_tokens.Goals as goal

pub returns : goal.returns
returns c = tidy_keeps_tokens
