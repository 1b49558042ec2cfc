use Rattle.rust_tokens.proofs.Exact.{lexed_has_no_fault}
use Rattle.rust_tokens.proofs.laws.lexed_has_no_fault.Goals as goal

pub returns : goal.returns
returns c = lexed_has_no_fault
