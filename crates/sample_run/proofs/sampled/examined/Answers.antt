use Rattle.std.proofs.Common.{◌∙◌, map}
use Rattle.serde_json.specs.View.{view}
use Rattle.json_value.specs.View.{kept_view}
use Rattle.schema_texts.specs.Table.{plain_relations}
use Rattle.schema_tree.specs.Fault.{fault_view}
use Rattle.sample_run.proofs.Fresh.{bare, kept, sampled, memory_alone}
use Rattle.sample_run.proofs.sampled.examined.Goals as goal

pub returns-in-Ok-clause-report : goal.returns-in-Ok-clause-report
returns-in-Ok-clause-report c =
    let e = c.in-Ok.ensures in
    sampled c.args.number c.requires.number.0 c.requires.number.1 (kept_view c.args.schema.now) (map view c.args.values.now) c.requires.schema (kept c.args.values.now ∙ c.requires.values)
    (plain_relations c.new-texts.result) (bare c.new-texts.result c.new-texts.ensures.no_pattern c.new-texts.ensures.no_text) c.in-Ok.report e.report e.emission e.plain_unnoted

pub returns-clause-memory : goal.returns-clause-memory
returns-clause-memory c =
    memory_alone c.args.number c.requires.number.0 c.requires.number.1 (kept_view c.args.schema.now) (map view c.args.values.now) c.requires.schema (kept c.args.values.now ∙ c.requires.values)
    (plain_relations c.new-texts.result) (bare c.new-texts.result c.new-texts.ensures.no_pattern c.new-texts.ensures.no_text) (fault_view c.in-Err.fault) c.in-Err.ensures.plain_refused
