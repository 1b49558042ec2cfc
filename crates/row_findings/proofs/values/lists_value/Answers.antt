use Rattle.std.proofs.Common.{◌≡◌, sym, ◌∙◌}
use Rattle.json_value.specs.Value.{same}
use Rattle.json_value.specs.View.{kept_view}
use Rattle.row_findings.proofs.LessNulls.{any_given}
use Rattle.row_findings.proofs.values.lists_value.Goals as goal

pub returns : goal.returns
returns c = c.has_value.ensures ∙ sym (any_given (same (kept_view c.args.wanted.now)) c.args.values)
