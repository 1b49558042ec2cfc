use Rattle.std.proofs.Common.{List, map, subst}
use Rattle.serde_json.specs.declared.value.Value.{Value}
use Rattle.json_value.specs.View.{kept_view}
use Rattle.writing_laws.specs.Tables.{AllOrdered}
use Rattle.typify_run.proofs.Once.{all_ordered}
use Rattle.typify_run.proofs.examination.see_names.Goals as goal

pub returns : goal.returns
returns c = subst (λ (vs : List Value). AllOrdered (map kept_view vs)) c.deref.ensures.value (all_ordered c.deref.result.now c.names_of_each_rise.ensures)
