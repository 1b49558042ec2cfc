use Rattle.std.proofs.Common.{ap, ◌∙◌}
use Rattle.schema_defs.specs.Schema.{Document}
use Rattle.schema_types.specs.View.{schema_view}
use Rattle.enum_defs.specs.Kinds.{null_free}
use Rattle.typify_enums.proofs.null_free.Goals as goal

pub returns : goal.returns
returns c = c.null_free.ensures ∙ ap (λ (d : Document). null_free d (schema_view c.args.schema.now)) c.parts.ensures.document
