use Rattle.format_laws.proofs.Forms.{uuid_same}
use Rattle.format_laws.proofs.uuids_are_what_parses.Goals as goal

pub returns : goal.returns
returns c = uuid_same
