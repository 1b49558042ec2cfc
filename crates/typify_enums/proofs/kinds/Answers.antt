use Rattle.std.proofs.Common.{ap, ◌∙◌}
use Rattle.schema_defs.specs.Schema.{Document}
use Rattle.schema_types.specs.View.{schema_view}
use Rattle.enum_defs.specs.Kinds.{kinds}
use Rattle.typify_enums.proofs.kinds.Goals as goal

pub returns : goal.returns
returns c = c.kinds.ensures ∙ ap (λ (d : Document). kinds d (schema_view c.args.schema.now)) c.parts.ensures.document
