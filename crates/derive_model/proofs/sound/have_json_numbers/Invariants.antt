use Rattle.std.proofs.Common.{◌≡◌, map, drop}
use Rattle.std.specs.List.{list_all}
use Rattle.reading_defs.specs.Proper.{has_json_numbers}
use Rattle.json_value.specs.View.{kept_view}
use Rattle.derive_model.proofs.sound.have_json_numbers.Given as goal

abbrev pub invariant-loop-value : goal.invariant-loop-value
invariant-loop-value l = list_all has_json_numbers (map kept_view (drop l.value-index l.values)) ≡ list_all has_json_numbers (map kept_view l.values)
