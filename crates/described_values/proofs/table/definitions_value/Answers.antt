use Rattle.std.proofs.Common.{◌∙◌}
use Rattle.value_writing.proofs.Lists.{object_kept}
use Rattle.described_values.proofs.Defined.{definitions_seen}
use Rattle.described_values.proofs.table.definitions_value.Goals as goal

pub returns : goal.returns
returns c = object_kept c.in_ok-members.members ∙ definitions_seen c.in_ok-members.members.entries _ c.in_ok-members.ensures
