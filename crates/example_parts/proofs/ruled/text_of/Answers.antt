use Rattle.example_parts.proofs.Copies.{text_of_copies}
use Rattle.example_parts.proofs.ruled.text_of.Goals as goal

pub returns : goal.returns
returns c = text_of_copies c.in_ok-copies.copies c.args.count c.in_ok-copies.ensures.bytes
