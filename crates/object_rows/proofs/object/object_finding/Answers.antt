use Rattle.std.proofs.Common.{◌≡◌, map, option_map, sym, ap, ◌∙◌}
use Rattle.schema_types.specs.View.{members_view, named_of}
use Rattle.convert_defs.specs.Row.{add_notes}
use Rattle.convert_defs.specs.Owners.{object_finding}
use Rattle.row_findings.specs.View.{note_view}
use Rattle.object_rows.proofs.Notes.{parts_seen}
use Rattle.object_rows.proofs.object.object_finding.Goals as goal

pub returns-in_ok-finding-in-Some : goal.returns-in_ok-finding-in-Some
returns-in_ok-finding-in-Some c =
    let before = map note_view c.args.notes.items in
    λ r.
    c.in_ok-finding-in-Some.ensures r
    ∙ sym (ap (add_notes before) (parts_seen c.args.setting (members_view c.in-Some.members.now)))
    ∙ sym (ap (λ o. add_notes before (object_finding c.args.setting (named_of (option_map (λ m. members_view m.now) o)))) c.in-Some.is)
