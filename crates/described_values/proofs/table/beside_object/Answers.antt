use Rattle.std.proofs.Common.{◌∙◌}
use Rattle.json_value.specs.View.{kept_view}
use Rattle.value_writing.proofs.Lists.{object_kept}
use Rattle.described_values.proofs.Defined.{beside_members}
use Rattle.described_values.proofs.table.beside_object.Goals as goal

pub returns : goal.returns
returns c = object_kept c.add_member.new.members ∙ beside_members c.args.members.entries c.add_member.new.members.entries (kept_view c.args.definitions) c.in_ok-add_member.ensures
