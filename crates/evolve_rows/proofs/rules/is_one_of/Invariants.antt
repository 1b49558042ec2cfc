use Rattle.std.proofs.Common.{◌≡◌, bytes_eq, drop, map, string_bytes}
use Rattle.std.specs.List.{list_any}
use Rattle.evolve_rows.proofs.rules.is_one_of.Given as goal

abbrev pub invariant-loop-other : goal.invariant-loop-other
invariant-loop-other l = list_any (bytes_eq l.text) (map string_bytes l.texts) ≡ list_any (bytes_eq l.text) (map string_bytes (drop l.other-index l.texts))
