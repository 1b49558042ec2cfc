use Rattle.rust_tokens.proofs.Unique.{first_fault_is_one}
use Rattle.rust_tokens.proofs.laws.first_fault_is_one.Goals as goal

pub returns : goal.returns
returns c = first_fault_is_one
