use Rattle.doc_laws.proofs.Names.{item_names_differ}
use Rattle.doc_laws.proofs.laws.item_names_differ.Goals as goal

pub returns : goal.returns
returns c = item_names_differ
