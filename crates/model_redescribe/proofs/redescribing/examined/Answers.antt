use Rattle.std.proofs.Common.{map}
use Rattle.serde_json.specs.View.{view}
use Rattle.json_value.specs.View.{kept_view}
use Rattle.schema_tree.specs.Fault.{fault_view}
use Rattle.model_redescribe.proofs.Counted.{unnoted, untold}
use Rattle.model_redescribe.proofs.redescribing.examined.Goals as goal

pub returns-in-Ok-examine-clause-report : goal.returns-in-Ok-examine-clause-report
returns-in-Ok-examine-clause-report g c = (
  c.in-Ok-examine.ensures.report,
  unnoted (g.T.Texts.relations c.args.texts.now) c.in-Ok.depth (g.T.Texts.faults c.args.texts.now) (g.T.Texts.faults c.examine.new.texts) (kept_view c.args.description.now) (map view c.args.values.now)
      c.in-Ok.ensures.count c.in-Ok-examine.report c.in-Ok-examine.ensures.examined c.in-Ok-examine.ensures.plain_unnoted,
)

pub returns-in-Err-examine-clause-refused : goal.returns-in-Err-examine-clause-refused
returns-in-Err-examine-clause-refused g c =
    untold (g.T.Texts.relations c.args.texts.now) c.in-Ok.depth (g.T.Texts.faults c.args.texts.now) (g.T.Texts.faults c.examine.new.texts) (kept_view c.args.description.now) (map view c.args.values.now)
    c.in-Ok.ensures.count (fault_view c.in-Err-examine.fault) c.in-Err-examine.ensures.refused c.in-Err-examine.ensures.plain_refused
