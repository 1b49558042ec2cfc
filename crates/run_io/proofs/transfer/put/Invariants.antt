-- What is done was appended, and each call leaves less to write.
use Rattle.std.proofs.Common.{◌-◌, ◌≤◌, length, take}
use Rattle.run_io.specs.Bytes.{Appends}
use Rattle.run_io.proofs.transfer.put.Given as goal

abbrev pub invariant-loop-done : goal.invariant-loop-done
invariant-loop-done g l = record {
  in_range : l.done ≤ length l.bytes;
  appended : Appends (g.K.Sink.written l.initial.sink) (g.K.Sink.written l.sink) (take l.done l.bytes);
  kept : g.K.Sink.faults l.initial.sink ≤ g.K.Sink.faults l.sink;
}

abbrev pub decreases-loop-done : goal.decreases-loop-done
decreases-loop-done g l = length l.bytes - l.done
