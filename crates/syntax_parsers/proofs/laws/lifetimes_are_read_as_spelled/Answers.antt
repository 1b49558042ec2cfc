use Rattle.syntax_parsers.proofs.Spelled.{spelled_read, read_spelled}
use Rattle.syntax_parsers.proofs.laws.lifetimes_are_read_as_spelled.Goals as goal

pub returns : goal.returns
returns c = λ ts ls. (read_spelled ts ls, spelled_read ts ls)
