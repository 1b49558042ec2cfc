use Rattle.std.proofs.Common.{◌≡◌, suc, ◌+◌, length, arith}
use Rattle.value_models.specs.ContainersView.{containers_in}
use Rattle.value_taking.proofs.taking.allowed.Goals as goal

pub returns : goal.returns
returns c = let k : c.count.result + 1 ≡ suc (length (containers_in c.args.setting.now.containers.now)) = omega (arith, c.count.ensures.count) in k
