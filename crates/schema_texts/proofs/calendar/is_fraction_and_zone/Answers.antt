use Rattle.std.proofs.Common.{rules}
use Rattle.schema_texts.proofs.Parts.{fraction_by}
use Rattle.schema_texts.proofs.calendar.is_fraction_and_zone.Goals as goal

pub returns : goal.returns
returns c = fraction_by c.args.text.now _ (search rules) (search rules)
