use Rattle.default_documents.proofs.Trees.{stated_defaults_end}
use Rattle.default_documents.proofs.laws.stated_defaults_end.Goals as goal

pub returns : goal.returns
returns c = stated_defaults_end
