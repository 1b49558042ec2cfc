-- In a document that was read the first Depth is one step too deep.
use Rattle.std.proofs.Common.{List, subst, arith}
use Rattle.schema_defs.specs.Location.{Location}
use Rattle.convert_walks.specs.Told.{Reason}
use Rattle.depth_laws.specs.Laws.{DepthIsOneStepMore}
use Rattle.depth_laws.proofs.Fit.{FirstIsExact}
use Rattle.depth_laws.proofs.Tree.{first_depth_is_exact}
use Rattle.depth_laws.proofs.Fresh.{read_is_fresh}

pub depth_is_one_step_more : DepthIsOneStepMore
depth_is_one_step_more setting v d e r most n l w fs h = omega (arith, subst (λ (gs : List (Location × Reason)). FirstIsExact most gs) h (first_depth_is_exact r d most n (read_is_fresh setting v d e most)))
