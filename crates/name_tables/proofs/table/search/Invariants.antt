use Rattle.std.proofs.Common.{◌-◌, length}
use Rattle.name_tables.proofs.Names.{IsBetween, IsCheap}
use Rattle.name_tables.proofs.table.search.Given as goal

abbrev pub invariant-halves : goal.invariant-halves
invariant-halves g l = record { between : IsBetween l.names l.name l.low l.high; cheap : IsCheap (length l.names) l.fn.steps l.steps (l.high - l.low) }

abbrev pub decreases-halves : goal.decreases-halves
decreases-halves g l = l.high - l.low
