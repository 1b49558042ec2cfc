use Rattle.std.proofs.Common.{ap, ◌∙◌}
use Rattle.schema_types.specs.View.{schema_view}
use Rattle.row_findings.specs.Given.{source_view}
use Rattle.merged_rows.proofs.Standings.{boolean_stands}
use Rattle.merged_rows.proofs.Written.{boolean_seen}
use Rattle.merged_rows.proofs.answered.answered.Goals as goal

pub returns-in_ok-start-in-Bool : goal.returns-in_ok-start-in-Bool
returns-in_ok-start-in-Bool c = λ h.
    let seen = boolean_seen c.in-Bool.b in
    boolean_stands c.args.start.now c.args.trail.now.items h (source_view c.args.source.now) c.in_ok-start-in-Bool.start c.in-Bool.b _ _ (ap schema_view c.in-Bool.is ∙ seen) seen c.in_ok-start-in-Bool.ensures
