use Rattle.std.proofs.Common.{subst}
use Rattle.model_describe.specs.declared.errors.DescribeError.{DescribeError}
use Rattle.describe_run.specs.Answers.{IsNotPlain}
use Rattle.describe_run.proofs.describing.refused_of.Goals as goal

pub no_of-requires : goal.no_of-requires
no_of-requires c = subst (λ (e : DescribeError). IsNotPlain c.args.report.now e) c.in-NotPlain.is c.requires
