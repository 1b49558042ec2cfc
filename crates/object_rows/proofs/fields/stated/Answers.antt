use Rattle.std.proofs.Common.{◌≡◌}
use Rattle.json_value.specs.View.{kept_view}
use Rattle.row_findings.proofs.Seen.{seen}
use Rattle.object_rows.proofs.fields.stated.Goals as goal

pub returns : goal.returns
returns c = seen kept_view c.as_ref.result c.args.default.now c.as_ref.ensures.value
