use Rattle.std.proofs.Common.{◌≡◌, map, sym, ap, ◌∙◌}
use Rattle.schema_defs.specs.Schema.{Named}
use Rattle.convert_defs.specs.Row.{noted}
use Rattle.convert_defs.specs.Owners.{map_of}
use Rattle.row_findings.specs.View.{note_view}
use Rattle.object_rows.specs.Parts.{rest_in, names_in}
use Rattle.object_rows.proofs.MemberViews.{members_seen}
use Rattle.object_rows.proofs.object.map_finding.Goals as goal

pub returns : goal.returns
returns c =
    λ r.
    c.noted.ensures r
    ∙ ap (noted (map note_view c.args.notes.items)) (c.in_ok-row.ensures r ∙ sym (ap (λ (n : Named). map_of (rest_in n) (names_in n)) (members_seen c.args.members.now)))
