use Rattle.std.proofs.Common.{rules, refl}
use Rattle.schema_texts.proofs.calendar.is_offset.Goals as goal

pub returns-then-has_more : goal.returns-then-has_more
returns-then-has_more c = search (rules, (c.if-has_more.ensures.several refl).whole)
