-- The line has begun, nothing is held, and each read leaves fewer bytes that may be read.
use Rattle.std.proofs.Common.{◌≡◌, ◌≤◌, ◌-◌, []}
use Rattle.line_reader.specs.Reading.{IsBegun}
use Rattle.line_reader.specs.State.{count_of, held, line_in}
use Rattle.line_reader.proofs.reader.LineReader.next_line.Given as goal

abbrev pub invariant-loop-found : goal.invariant-loop-found
invariant-loop-found g l = record {
  begun : IsBegun (held l.fn.self) (held l.self) (g.S.Source.left l.fn.source) (g.S.Source.left l.source) (count_of l.fn.self) (count_of l.self) (line_in l.self);
  none_held : held l.self ≡ [];
  kept : g.S.Source.faults l.fn.source ≤ g.S.Source.faults l.source;
}

abbrev pub decreases-loop-found : goal.decreases-loop-found
decreases-loop-found g l = 4294967296 - count_of l.self
