use Rattle.std.proofs.Common.{◌≡◌, sym, ◌∙◌}
use Rattle.row_findings.specs.Kinds.{is_of_kind}
use Rattle.row_findings.proofs.LessNulls.{any_given}
use Rattle.row_findings.proofs.values.any_of.Goals as goal

pub returns : goal.returns
returns c = c.any_stands.ensures ∙ sym (any_given (is_of_kind c.args.kind) c.args.values)
