use Rattle.rust_tokens.proofs.Again.{printed_is_read_again}
use Rattle.rust_tokens.proofs.laws.printed_is_read_again.Goals as goal

pub returns : goal.returns
returns c = printed_is_read_again
