use Rattle.std.proofs.Common.{◌≡◌, ◌++◌, drop, map, string_bytes}
use Rattle.serde_json.specs.View.{view}
use Rattle.module_texts.specs.Values.{more_values}
use Rattle.module_texts.proofs.values.push_more.Given as goal

abbrev pub invariant-loop-value : goal.invariant-loop-value
invariant-loop-value l = string_bytes l.out ++ more_values (map view (drop l.value-index l.values)) ≡ string_bytes l.initial.out ++ more_values (map view l.values)
