use Rattle.rust_tokens.proofs.Unique.{trees_are_one}
use Rattle.rust_tokens.proofs.laws.trees_are_one.Goals as goal

pub returns : goal.returns
returns c = trees_are_one
