-- What came to a space so far, and what the space keeps of it.
use Rattle.std.specs.Prelude.{◌≡◌, ℕ, List, [], Option, None, Bool, option_map}
use Rattle.schema_defs.specs.Schema.{Document}
use Rattle.entry_defs.specs.Space as space
use Rattle.entry_defs.specs.Table.{Table}
use Rattle.convert_walks.specs.Told.{Note}
use Rattle.schema_tree.specs.Document.{view as document_seen}
use Rattle.schema_tree.specs.Fault.{FaultD, fault_view}
use Rattle.note_order.specs.Notes.{notes_view}
use Rattle.convert_document.specs.Unread.{At, first_kept}
use Rattle.entry_space.specs.Seen.{seen}
use Rattle.typify_convert.specs.Placing.{Plans}
use Rattle.typify_convert.specs.declared.keeping.Held.{Held}
use Rattle.typify_convert.specs.Kept.{listed_view}
use Rattle.typify_convert.specs.declared.space.TypeSpace.{TypeSpace}

-- the items that references lead to and the trees, before they are named; the notes, and the stated values that aren't read
pub record History : Type 0 where
  pub table : Table
  pub notes : List Note
  pub unread : List At

abbrev pub nothing : History
nothing = record { table = record { targets = []; trees = [] }; notes = []; unread = [] }

-- the entries are those of the table, which gets its names; the notes are kept, and the first of the stated values
pub record Keeps (k : Held) (h : History) : Type 0 where
  pub plans : Plans k.plan h.table
  pub notes : notes_view k.notes.items ≡ h.notes
  pub unread : option_map listed_view k.unread ≡ first_kept None h.unread

-- ---- a space

abbrev pub document_in : TypeSpace → Document
document_in s = document_seen s.document.now

abbrev pub depth_in : TypeSpace → ℕ
depth_in s = s.depth

-- whether the items that references lead to were asked for
abbrev pub is_begun : TypeSpace → Bool
is_begun s = s.begun

abbrev pub entries_in : TypeSpace → space.Space
entries_in s = seen s.held.plan.space

-- why it refused
abbrev pub refusal_in : TypeSpace → Option FaultD
refusal_in s = option_map fault_view s.refusal

-- all that came to it is there
abbrev pub Holds : TypeSpace → History → Type 0
Holds s h = Keeps s.held h

-- the document and the steps that walks may have stay
pub record IsOfSame (s t : TypeSpace) : Type 0 where
  pub document : document_in t ≡ document_in s
  pub depth : depth_in t ≡ depth_in s
