use Rattle.walk_laws.proofs.Counts.{merges_by_walks_count}
use Rattle.walk_laws.proofs.laws.merges_by_walks_count.Goals as goal

pub returns : goal.returns
returns c = merges_by_walks_count
