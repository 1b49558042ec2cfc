use Rattle.std.proofs.Common.{Option, option_map, subst}
use Rattle.serde_json.specs.declared.value.Value.{Value}
use Rattle.json_value.specs.View.{kept_view}
use Rattle.example_run.specs.Answers.{IsAnswered}
use Rattle.example_run.proofs.exemplifying.made_of.Goals as goal

pub page_of-requires : goal.page_of-requires
page_of-requires c = subst (λ (o : Option Value). IsAnswered c.args.report.now (option_map kept_view o)) c.in-Some.is c.requires

pub none_of-requires : goal.none_of-requires
none_of-requires c = subst (λ (o : Option Value). IsAnswered c.args.report.now (option_map kept_view o)) c.in-None.is c.requires
