use Rattle.doc_laws.proofs.Names.{docs_have_items_names}
use Rattle.doc_laws.proofs.laws.docs_have_items_names.Goals as goal

pub returns : goal.returns
returns c = docs_have_items_names
