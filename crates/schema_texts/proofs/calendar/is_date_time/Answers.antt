use Rattle.std.proofs.Common.{rules}
use Rattle.schema_texts.proofs.Parts.{date_time_by}
use Rattle.schema_texts.proofs.calendar.is_date_time.Goals as goal

pub returns : goal.returns
returns c = date_time_by c.args.text.now _ (search rules) (search rules) (search rules) (search rules)
