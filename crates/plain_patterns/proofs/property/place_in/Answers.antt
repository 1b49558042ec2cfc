use Rattle.std.proofs.Common.{◌∙◌}
use Rattle.plain_patterns.specs.Properties.{names}
use Rattle.plain_patterns.proofs.Places.{position_mapped}
use Rattle.plain_patterns.proofs.property.place_in.Goals as goal

pub returns : goal.returns
returns c = c.place_among.ensures ∙ position_mapped c.args.text.now c.names_of.result.now (names c.args.table) c.names_of.ensures
