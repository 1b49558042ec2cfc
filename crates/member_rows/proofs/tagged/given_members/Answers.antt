use Rattle.std.proofs.Common.{◌≡◌}
use Rattle.schema_types.specs.View.{members_view}
use Rattle.row_findings.proofs.Seen.{seen}
use Rattle.member_rows.proofs.tagged.given_members.Goals as goal

pub returns : goal.returns
returns c = seen members_view c.as_ref.result c.args.members.now c.as_ref.ensures.value
