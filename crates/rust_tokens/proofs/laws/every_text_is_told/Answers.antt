use Rattle.rust_tokens.proofs.Every.{every_text}
use Rattle.rust_tokens.proofs.laws.every_text_is_told.Goals as goal

pub returns : goal.returns
returns c = every_text
