use Rattle.std.proofs.Common.{sym, ap, ◌∙◌}
use Rattle.serde_json.specs.View.{view}
use Rattle.serde_json.proofs.Views.{view-Object}
use Rattle.json_value.specs.View.{value_of}
use Rattle.schema_faults.specs.Faults.{first, malformed_keywords}
use Rattle.schema_faults.proofs.search.malformed_keyword.Goals as goal

pub returns-in-Object : goal.returns-in-Object
returns-in-Object c =
    c.first_broken.ensures ∙ sym (ap (λ v. first (malformed_keywords c.args.at_root c.args.keyword.now (value_of v))) (ap view c.in-Object.is ∙ view-Object c.in-Object.members))
