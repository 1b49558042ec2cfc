-- What a reader of lines holds, in the words of its callers.
use Rattle.std.specs.Prelude.{ℕ, List, drop, take, Option, Some, None, if◌then◌else◌}
use Rattle.line_reader.specs.declared.window.Window.{Window}
use Rattle.line_reader.specs.declared.buffer.LineBuffer.{LineBuffer}
use Rattle.line_reader.specs.declared.reader.LineReader.{LineReader}

-- the bytes that were read and not yet looked at
abbrev pub window_held : Window → List ℕ
window_held w = drop w.at (take w.end w.bytes.items)

-- the line so far; none where it has more bytes than are kept
abbrev pub buffer_line : LineBuffer → Option (List ℕ)
buffer_line b = if b.is_long then None else Some b.bytes.items

-- the bytes that were read beyond the lines that were given, the line that was given last, and how many bytes were read
abbrev pub held : LineReader → List ℕ
held r = window_held r.window

abbrev pub line_in : LineReader → Option (List ℕ)
line_in r = buffer_line r.line

abbrev pub count_of : LineReader → ℕ
count_of r = r.count
