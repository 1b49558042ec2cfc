use Rattle.std.proofs.Common.{◌≡◌, sym, ◌∙◌}
use Rattle.json_value.specs.Value.{same, boolean}
use Rattle.row_findings.proofs.LessNulls.{any_given}
use Rattle.row_findings.proofs.values.lists_boolean.Goals as goal

pub returns : goal.returns
returns c = c.has_boolean.ensures ∙ sym (any_given (same (boolean c.args.wanted)) c.args.values)
