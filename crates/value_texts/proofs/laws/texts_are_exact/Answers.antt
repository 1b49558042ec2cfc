use Rattle.value_texts.proofs.Exact.{texts_are_exact}
use Rattle.value_texts.proofs.laws.texts_are_exact.Goals as goal

pub returns : goal.returns
returns c = texts_are_exact
