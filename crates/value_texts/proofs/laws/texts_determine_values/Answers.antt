use Rattle.value_texts.proofs.Exact.{texts_determine_values}
use Rattle.value_texts.proofs.laws.texts_determine_values.Goals as goal

pub returns : goal.returns
returns c = texts_determine_values
