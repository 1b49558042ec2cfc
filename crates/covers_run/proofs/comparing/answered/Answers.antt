use Rattle.std.proofs.Common.{subst}
use Rattle.model_evolve.specs.declared.node.Covered.{Covered}
use Rattle.covers_run.specs.Compares.{IsAnswer}
use Rattle.covers_run.proofs.comparing.answered.Goals as goal

pub yes_of-requires : goal.yes_of-requires
yes_of-requires c = subst (λ (a : Covered). IsAnswer c.args.old.now c.args.new.now a) c.in-Yes.is c.requires

pub no_of-requires : goal.no_of-requires
no_of-requires c = subst (λ (a : Covered). IsAnswer c.args.old.now c.args.new.now a) c.in-No.is c.requires
