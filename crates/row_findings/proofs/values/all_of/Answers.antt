use Rattle.std.proofs.Common.{◌≡◌, sym, ◌∙◌}
use Rattle.row_findings.specs.Kinds.{is_of_kind}
use Rattle.row_findings.proofs.LessNulls.{all_given}
use Rattle.row_findings.proofs.values.all_of.Goals as goal

pub returns : goal.returns
returns c = c.all_pass.ensures ∙ sym (all_given (is_of_kind c.args.kind) c.args.values)
