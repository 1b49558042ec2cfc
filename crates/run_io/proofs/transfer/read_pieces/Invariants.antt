-- What was read was taken off the source, and each read leaves less room below the limit.
use Rattle.std.proofs.Common.{◌-◌, ◌<◌, ◌≤◌, length, vec_len}
use Rattle.run_io.specs.Bytes.{Takes}
use Rattle.run_io.proofs.transfer.read_pieces.Given as goal

abbrev pub invariant-loop-count : goal.invariant-loop-count
invariant-loop-count g l = record {
  in_range : vec_len l.input ≤ l.limit;
  room : 0 < length l.buffer;
  taken : Takes (g.S.Source.left l.initial.source) (g.S.Source.left l.source) l.input.items;
  kept : g.S.Source.faults l.initial.source ≤ g.S.Source.faults l.source;
}

abbrev pub decreases-loop-count : goal.decreases-loop-count
decreases-loop-count g l = l.limit - vec_len l.input
