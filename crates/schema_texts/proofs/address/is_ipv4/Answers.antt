use Rattle.std.proofs.Common.{rules, refl}
use Rattle.schema_defs.specs.Formats.{is_ipv4}
use Rattle.schema_texts.proofs.address.is_ipv4.Goals as goal

pub returns-then-has_more : goal.returns-then-has_more
unfolding is_ipv4
returns-then-has_more c = search (rules, (c.if-has_more.ensures.several refl).whole)
