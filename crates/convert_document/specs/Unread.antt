-- What is told of a stated value that isn't read.
use Rattle.std.specs.Prelude.{◌≡◌, ◌⊎◌, Option, Some}
use Rattle.schema_tree.specs.Fault.{FaultD, memory, invalid_value}
pub use Rattle.convert_trees.specs.Unread.{At, first_kept, unread_in_document, unread_in}

-- its place and itself, or want of memory
abbrev pub TellsUnread : At → FaultD → Type 0
TellsUnread at f = (f ≡ memory) ⊎ (f ≡ invalid_value at.0 at.1)

abbrev pub IsToldUnread : Option At → FaultD → Type 0
IsToldUnread o f = (at : At) × (o ≡ Some at) × TellsUnread at f
