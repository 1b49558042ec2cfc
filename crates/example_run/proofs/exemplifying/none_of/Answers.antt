use Rattle.std.proofs.Common.{string_bytes, rules}
use Rattle.example_run.proofs.Answered.{none_told}
use Rattle.example_run.proofs.exemplifying.none_of.Goals as goal

pub returns : goal.returns
returns c = none_told c.args.report.now (string_bytes c.in_ok-line.line) c.requires (search rules)
