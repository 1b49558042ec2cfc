use Rattle.std.proofs.Common.{sym, ◌∙◌}
use Rattle.syntax_parsers.proofs.Spelled.{spelled_read}
use Rattle.syntax_parsers.proofs.Results.{ok_same}
use Rattle.syntax_parsers.proofs.laws.lifetimes_are_spelled_once.Goals as goal

pub returns : goal.returns
returns c = λ ts ls ms h k. ok_same ls ms (sym (spelled_read ts ls h) ∙ spelled_read ts ms k)
