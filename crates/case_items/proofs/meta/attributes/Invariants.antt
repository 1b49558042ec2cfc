use Rattle.std.proofs.Common.{length}
use Rattle.case_items.proofs.meta.attributes.Given as goal

abbrev pub decreases-front : goal.decreases-front
decreases-front l = length l.rest
