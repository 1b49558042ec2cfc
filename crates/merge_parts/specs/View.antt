-- The notes and faults that those of the program stand for.
use Rattle.std.specs.Prelude.{List, map, Option, Some, None}
use Rattle.merge_defs.specs.Outcome as defs
use Rattle.merge_defs.specs.Outcome.{Note, Fault, Kind, narrowed, widened, of_integer, of_names, of_reference, of_formats, of_clash, of_members, of_subtract, of_absent, conditional, any_one, pattern_names, subtracting, depth, unsupported}
use Rattle.merge_parts.specs.declared.notes.Way.{Way}
use Rattle.merge_parts.specs.declared.notes.Way.TheVariants.{Narrowed, Widened}
use Rattle.merge_parts.specs.declared.notes.MergeKind.{MergeKind}
use Rattle.merge_parts.specs.declared.notes.MergeKind.TheVariants.{Integer, Names, Reference, Formats, Clash, Members, Subtract, Absent}
use Rattle.merge_parts.specs.declared.notes.MergeNote.{MergeNote}
use Rattle.merge_parts.specs.declared.fault.UnsupportedMerge.{UnsupportedMerge}
use Rattle.merge_parts.specs.declared.fault.UnsupportedMerge.TheVariants.{Conditional, AnyBesideOne, PatternNames, Subtracting}
use Rattle.merge_parts.specs.declared.fault.MergeFault.{MergeFault}
use Rattle.merge_parts.specs.declared.fault.MergeFault.TheVariants.{Memory, Depth, Unsupported}

abbrev pub way_view : Way → defs.Way
way_view Narrowed = narrowed
way_view Widened = widened

abbrev pub kind_view : MergeKind → Kind
kind_view Integer = of_integer
kind_view Names = of_names
kind_view Reference = of_reference
kind_view Formats = of_formats
kind_view Clash = of_clash
kind_view Members = of_members
kind_view Subtract = of_subtract
kind_view Absent = of_absent

abbrev pub noted_as : Way → MergeKind → Note
noted_as w k = record { way = way_view w; kind = kind_view k }

abbrev pub note_view : MergeNote → Note
note_view n = noted_as n.way n.kind

abbrev pub notes_view : List MergeNote → List Note
notes_view ns = map note_view ns

abbrev pub unsupported_view : UnsupportedMerge → defs.Unsupported
unsupported_view Conditional = conditional
unsupported_view AnyBesideOne = any_one
unsupported_view PatternNames = pattern_names
unsupported_view Subtracting = subtracting

-- want of memory is no fault of the merge
abbrev pub fault_view : MergeFault → Option Fault
fault_view Memory = None
fault_view (Depth w) = Some (depth w)
fault_view (Unsupported u) = Some (unsupported (unsupported_view u))
