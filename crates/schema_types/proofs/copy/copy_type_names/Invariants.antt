use Rattle.std.proofs.Common.{◌≡◌, take}
use Rattle.schema_types.proofs.copy.copy_type_names.Given as goal

abbrev pub invariant-loop-name : goal.invariant-loop-name
invariant-loop-name l = l.copies.items ≡ take l.name-index l.name-items
