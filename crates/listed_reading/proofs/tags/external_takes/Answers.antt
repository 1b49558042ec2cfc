use Rattle.std.proofs.Common.{rules}
use Rattle.json_value.specs.View.{kept_view}
use Rattle.model_defs.specs.Model.{external_tag}
use Rattle.tree_types.specs.View.{cases_of, variants_view}
use Rattle.listed_reading.proofs.Tagged.{external_named}
use Rattle.listed_reading.proofs.tags.external_takes.Goals as goal

pub returns-in-Some-clause-taken : goal.returns-in-Some-clause-taken
returns-in-Some-clause-taken c =
    external_named (kept_view c.args.value.now) c.in-Some.text.now (variants_view external_tag (cases_of c.args.variants.now.items)) c.names_unit.result (search rules) c.names_unit.ensures
