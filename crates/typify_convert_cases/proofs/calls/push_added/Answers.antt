use Rattle.std.proofs.Common.{sym, ap, ◌∙◌}
use Rattle.std.specs.Prelude.{is_some}
use Rattle.schema_defs.specs.Schema.{Document}
use Rattle.schema_defs.specs.Children.{schema_at}
use Rattle.typify_convert_cases.proofs.calls.push_added.Goals as goal

pub added-requires-clause-there : goal.added-requires-clause-there
added-requires-clause-there c = ap (λ (d : Document). is_some (schema_at d c.in_ok-at.at)) c.requires.document ∙ sym c.is_schema.ensures ∙ c.if-is_schema.true
