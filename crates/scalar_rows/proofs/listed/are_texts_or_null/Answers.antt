use Rattle.std.proofs.Common.{◌≡◌, sym, ◌∙◌}
use Rattle.row_findings.specs.Kinds.{is_text_or_null}
use Rattle.row_findings.proofs.LessNulls.{all_given}
use Rattle.scalar_rows.proofs.listed.are_texts_or_null.Goals as goal

pub returns : goal.returns
returns c = c.all_texts_or_null.ensures ∙ sym (all_given (is_text_or_null) c.args.values)
