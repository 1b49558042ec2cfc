use Rattle.std.proofs.Common.{◌≡◌, bytes_eq, drop, map, string_bytes}
use Rattle.std.specs.List.{list_any}
use Rattle.evolve_rows.proofs.fields.is_name_of.Given as goal

abbrev pub invariant-loop-name : goal.invariant-loop-name
invariant-loop-name l = list_any (λ n. bytes_eq n l.text) (map string_bytes l.names) ≡ list_any (λ n. bytes_eq n l.text) (map string_bytes (drop l.name-index l.names))
