use Rattle.std.proofs.Common.{◌≡◌, ◌++◌, drop, map, string_bytes}
use Rattle.serde_json.specs.View.{view}
use Rattle.module_texts.specs.Defaults.{defaults_from}
use Rattle.module_texts.proofs.defaults.push_each.Given as goal

abbrev pub invariant-loop-number : goal.invariant-loop-number
invariant-loop-number l = string_bytes l.out ++ defaults_from l.number (map view (drop l.number l.values)) ≡ string_bytes l.initial.out ++ defaults_from 0 (map view l.values)
