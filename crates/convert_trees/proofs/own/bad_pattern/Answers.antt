use Rattle.std.proofs.Common.{[], refl, ap}
use Rattle.schema_defs.specs.Location.{Location}
use Rattle.convert_defs.specs.Row.{bad_pattern}
use Rattle.schema_tree.specs.declared.fault.InvalidKind.TheVariants as invalid
use Rattle.schema_tree.specs.Fault.{invalid_schema}
use Rattle.convert_trees.specs.Told as told
use Rattle.convert_trees.proofs.own.bad_pattern.Goals as goal

pub returns-in-Ok : goal.returns-in-Ok
returns-in-Ok c = λ r old new. told.by_cause bad_pattern [] refl (ap (λ (l : Location). invalid_schema l invalid.Pattern) c.in-Ok.ensures)
