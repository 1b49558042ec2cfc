-- What the sources and sinks in memory hold, in the words of their callers.
use Rattle.std.specs.Prelude.{ℕ, List, drop}
use Rattle.run_io.specs.declared.memory.PlainSource.{PlainSource}
use Rattle.run_io.specs.declared.memory.MemorySource.{MemorySource}
use Rattle.run_io.specs.declared.memory.PlainSink.{PlainSink}
use Rattle.run_io.specs.declared.memory.MemorySink.{MemorySink}

-- the bytes that a plain source has left
abbrev pub plain_left : PlainSource → List ℕ
plain_left s = drop s.at s.bytes.items

-- the bytes that a source has left, the most that it gives a call, the numbers of the calls that fail, the number of
-- the next call, and how many calls failed
abbrev pub source_left : MemorySource → List ℕ
source_left s = plain_left s.inner

abbrev pub source_piece : MemorySource → ℕ
source_piece s = s.piece

abbrev pub source_failing : MemorySource → List ℕ
source_failing s = s.schedule.failing.items

abbrev pub source_next : MemorySource → ℕ
source_next s = s.schedule.calls

abbrev pub source_faults : MemorySource → ℕ
source_faults s = s.schedule.faults

-- the bytes that a plain sink has taken
abbrev pub plain_written : PlainSink → List ℕ
plain_written s = s.bytes.items

-- the bytes that a sink has taken, the most that it takes a call, the numbers of the calls that fail, the number of the
-- next call, and how many calls failed or took nothing
abbrev pub sink_written : MemorySink → List ℕ
sink_written s = plain_written s.inner

abbrev pub sink_piece : MemorySink → ℕ
sink_piece s = s.piece

abbrev pub sink_failing : MemorySink → List ℕ
sink_failing s = s.schedule.failing.items

abbrev pub sink_next : MemorySink → ℕ
sink_next s = s.schedule.calls

abbrev pub sink_faults : MemorySink → ℕ
sink_faults s = s.schedule.faults
