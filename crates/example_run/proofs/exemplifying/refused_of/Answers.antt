use Rattle.std.proofs.Common.{subst}
use Rattle.example_values.specs.declared.errors.ExampleError.{ExampleError}
use Rattle.example_run.specs.Answers.{IsNoExample}
use Rattle.example_run.proofs.exemplifying.refused_of.Goals as goal

pub outside_of-requires : goal.outside_of-requires
outside_of-requires c = subst (λ (e : ExampleError). IsNoExample c.args.report.now e) c.in-Outside.is c.requires
