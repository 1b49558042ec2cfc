use Rattle.std.proofs.Common.{drop}
use Rattle.std.specs.BTreeSet.{contains_text}
use Rattle.emit_types.proofs.RestNames.{Taken}
use Rattle.emit_types.proofs.rest.take_names.Given as goal

abbrev pub invariant-loop-field : goal.invariant-loop-field
invariant-loop-field l = Taken (contains_text l.initial.names) (contains_text l.names) (drop l.field-index l.fields) l.fields
