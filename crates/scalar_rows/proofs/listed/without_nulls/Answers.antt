use Rattle.std.proofs.Common.{◌≡◌, Some, sym}
use Rattle.convert_defs.specs.Standing.{alone}
use Rattle.row_findings.specs.Given.{plain_view}
use Rattle.row_findings.proofs.LessNulls.{given_again}
use Rattle.scalar_rows.proofs.listed.without_nulls.Goals as goal

pub returns : goal.returns
returns c = λ i. alone (record (plain_view c.args.keywords.now) { enum_values = Some (sym (given_again c.args.values) i); default = c.less_null.ensures i })
