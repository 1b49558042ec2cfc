use Rattle.merged_documents.proofs.Documents.{read_tables_are_fit}
use Rattle.merged_documents.proofs.laws.read_tables_are_fit.Goals as goal

pub returns : goal.returns
returns c = read_tables_are_fit
