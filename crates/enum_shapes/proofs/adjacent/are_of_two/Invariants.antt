use Rattle.std.proofs.Common.{◌≡◌, ◌||◌, map, drop, bytes_eq}
use Rattle.std.specs.List.{list_all}
use Rattle.enum_shapes.proofs.adjacent.are_of_two.Given as goal

abbrev pub invariant-loop-name : goal.invariant-loop-name
invariant-loop-name l =
    list_all (λ n. bytes_eq n l.first || bytes_eq n l.second) (map (λ n. n.now) l.names)
    ≡ list_all (λ n. bytes_eq n l.first || bytes_eq n l.second) (map (λ n. n.now) (drop l.name-index l.names))
