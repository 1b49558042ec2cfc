use Rattle.schema_types.specs.View.{schema_view}
use Rattle.object_rows.proofs.Named.{same_decided}
use Rattle.object_rows.proofs.members.same.Goals as goal

pub returns : goal.returns
returns c = same_decided c.same.result (schema_view c.args.schema.now) (schema_view c.args.other.now) c.same.ensures
