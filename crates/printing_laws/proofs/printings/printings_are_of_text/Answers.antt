use Rattle.printing_laws.proofs.PrintedParts.{printings_are_of_text}
use Rattle.printing_laws.proofs.printings.printings_are_of_text.Goals as goal

pub returns : goal.returns
returns c = printings_are_of_text
