use Rattle.row_findings.specs.View.{keyword_view}
use Rattle.merged_rows.proofs.Branches.{other_number}
use Rattle.merged_rows.proofs.parts.same_member.Goals as goal

pub returns-else-index-place : goal.returns-else-index-place
returns-else-index-place c = other_number (keyword_view c.args.keyword) (keyword_view c.args.other) c.args.index c.args.place c.if-index-place.false
