-- How a merge ends whose never is nothing, and no stop.
use Rattle.std.specs.Prelude.{◌≡◌, List, true, false, Option, option_map, Result, Ok, Err}
use Rattle.std.specs.Option.{IfSome}
use Rattle.schema_defs.specs.Schema.{Schema}
use Rattle.schema_types.specs.declared.schema.Schema as tree
use Rattle.schema_types.specs.View.{schema_view}
use Rattle.merge_defs.specs.Outcome.{Note, Outcome, fault, noted}
use Rattle.merge_parts.specs.View.{fault_view}
use Rattle.merge_parts.specs.Steps.{given}
use Rattle.merge_steps.specs.declared.stop.Stop.{Stop}
use Rattle.merge_steps.specs.declared.stop.Stop.TheVariants.{Never, Fault}

abbrev pub IsFound : List Note → List Note → Outcome Schema → Result (Option tree.Schema) Stop → Type 0
IsFound before after o (Ok found) = noted before o ≡ given after (option_map schema_view found)
IsFound before after o (Err Never) = false ≡ true
IsFound before after o (Err (Fault f)) = IfSome (fault_view f) (λ g. o ≡ fault g)

pub record Finds (before after : List Note) (o : Outcome Schema) (r : Result (Option tree.Schema) Stop) : Type 0 where
  pub told : IsFound before after o r
