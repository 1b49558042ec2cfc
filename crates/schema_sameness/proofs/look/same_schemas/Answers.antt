use Rattle.schema_types.specs.View.{schema_view}
use Rattle.schema_sameness.proofs.SameSchemas.{decided}
use Rattle.schema_sameness.proofs.look.same_schemas.Goals as goal

pub returns : goal.returns
returns c = decided c.same.result (schema_view c.args.a.now) (schema_view c.args.b.now) c.same.ensures
