use Rattle.std.proofs.Common.{◌≡◌, Some, true, sym, ap, ◌∙◌}
use Rattle.serde_json.specs.View.{view}
use Rattle.serde_json.proofs.Views.{view-Array}
use Rattle.json_value.specs.View.{value_of}
use Rattle.json_value.specs.Value.{is_whole}
use Rattle.schema_reading.proofs.Lists.{kept_values}
use Rattle.schema_reading.proofs.list.values.Goals as goal

pub returns-in_ok-copies-in-Array : goal.returns-in_ok-copies-in-Array
returns-in_ok-copies-in-Array c =
    let whole : is_whole (value_of (view c.args.value.now)) ≡ true = sym c.is_whole.ensures ∙ c.if-is_whole.true in
    sym (kept_values (value_of (view c.args.value.now)) c.in-Array.items.items (ap (λ v. value_of (view v)) c.in-Array.is ∙ ap value_of (view-Array c.in-Array.items)) whole ∙ ap Some (sym c.in_ok-copies-in-Array.ensures))
