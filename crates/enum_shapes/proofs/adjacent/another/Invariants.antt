use Rattle.std.proofs.Common.{◌≡◌, map, drop, not, bytes_eq}
use Rattle.std.specs.Prelude.{find}
use Rattle.enum_shapes.proofs.adjacent.another.Given as goal

abbrev pub invariant-loop-name : goal.invariant-loop-name
invariant-loop-name l = find (λ n. not (bytes_eq n l.first)) (map (λ n. n.now) l.names) ≡ find (λ n. not (bytes_eq n l.first)) (map (λ n. n.now) (drop l.name-index l.names))
