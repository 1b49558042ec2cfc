use Rattle.serde_json.specs.View.{view}
use Rattle.json_value.specs.View.{value_of}
use Rattle.schema_words.specs.Words.{asking}
use Rattle.pair_words.proofs.Known.{root_is_known}
use Rattle.pair_words.proofs.examining.report_of.Goals as goal

pub returns-in-Ok-clause-comparable : goal.returns-in-Ok-clause-comparable
returns-in-Ok-clause-comparable g c = record {
  ends = c.in-Ok.ensures.ends;
  known =
      root_is_known (asking c.args.depth c.args.setting (g.T.Texts.relations c.args.texts.now) 0 0) (value_of (view c.args.schema.now)) c.in-Ok.report c.names_differ.ensures
      (c.in-Ok.ensures.report 0 0);
}
