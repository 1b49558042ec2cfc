use Rattle.std.proofs.Common.{◌∙◌, map, option_map}
use Rattle.json_value.specs.View.{kept_view}
use Rattle.value_writing.proofs.Lists.{object_kept}
use Rattle.described_values.specs.Seen.{kept_entries}
use Rattle.described_values.proofs.Members.{with_properties}
use Rattle.described_values.proofs.objects.full_object.Goals as goal

pub returns : goal.returns
returns c =
    object_kept c.put_rest.new.members
    ∙ with_properties c.args.properties.entries (map (λ e. e.0) (kept_entries c.args.required.now.entries)) (option_map kept_view c.args.rest) _ _ _ _ _ c.in_ok-members.ensures c.in_ok-put_required.ensures
    c.in_ok-put_member.ensures (object_kept c.args.properties) c.in_ok-put_rest.ensures
