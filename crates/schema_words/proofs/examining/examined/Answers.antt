use Rattle.std.proofs.Common.{map}
use Rattle.serde_json.specs.View.{view}
use Rattle.json_value.specs.View.{value_of}
use Rattle.schema_tree.specs.Fault.{fault_view}
use Rattle.schema_words.specs.Words.{asking}
use Rattle.schema_words.proofs.Endings.{report_on, caused_by}
use Rattle.schema_words.proofs.examining.examined.Goals as goal

pub returns-in-Ok-clause-report : goal.returns-in-Ok-clause-report
returns-in-Ok-clause-report g c = λ before after.
    report_on (asking c.args.depth c.args.setting (g.T.Texts.relations c.args.texts.now) before after) (value_of (view c.args.schema.now)) (map view c.no_values-values.result.now) c.no_values-values.ensures c.in-Ok.report
    c.in-Ok.ensures.report c.in-Ok.ensures.examined c.in-Ok.ensures.accepted c.in-Ok.ensures.emission c.in-Ok.ensures.judges c.in-Ok.ensures.plain_unnoted

pub returns-in-Ok-clause-ends : goal.returns-in-Ok-clause-ends
returns-in-Ok-clause-ends g c = c.in-Ok.ensures.judges.ends

pub returns-in-Err-clause-refused : goal.returns-in-Err-clause-refused
returns-in-Err-clause-refused g c = λ other before le.
    caused_by (asking c.args.depth c.args.setting (g.T.Texts.relations c.args.texts.now) before (g.T.Texts.faults c.examine_with.new.texts)) (value_of (view c.args.schema.now)) (map view c.no_values-values.result.now) c.no_values-values.ensures
    (g.T.Texts.faults c.args.texts.now) (fault_view c.in-Err.fault) other le c.in-Err.ensures.refused c.in-Err.ensures.plain_refused
