use Rattle.enum_defs.proofs.Constants.{null_schemas_are_null}
use Rattle.enum_defs.proofs.laws.null_schemas_are_null.Goals as goal

pub returns : goal.returns
returns c = null_schemas_are_null
