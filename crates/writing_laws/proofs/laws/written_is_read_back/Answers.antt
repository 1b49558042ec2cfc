use Rattle.writing_laws.proofs.Again.{written_is_read_back}
use Rattle.writing_laws.proofs.laws.written_is_read_back.Goals as goal

pub returns : goal.returns
returns c = written_is_read_back
