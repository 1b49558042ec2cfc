use Rattle.merged_documents.proofs.Shaped.{read_tables_are_shaped}
use Rattle.merged_documents.proofs.laws.read_tables_are_shaped.Goals as goal

pub returns : goal.returns
returns c = read_tables_are_shaped
