use Rattle.admission_run.proofs.words.is_null_absent.Goals as goal

pub returns : goal.returns
returns c = c.eq.ensures
