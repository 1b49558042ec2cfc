use Rattle.example_tries.proofs.Formats.{fixed_has}
use Rattle.example_tries.proofs.laws.fixed_texts_have_their_formats.Goals as goal

pub returns : goal.returns
returns c = fixed_has
