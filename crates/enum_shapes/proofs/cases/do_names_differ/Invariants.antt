use Rattle.std.proofs.Common.{◌≡◌, ◌++◌, map, drop}
use Rattle.enum_shapes.proofs.cases.do_names_differ.Given as goal

abbrev pub invariant-loop-case : goal.invariant-loop-case
invariant-loop-case l = map (λ c. c.name.now) l.cases.items ≡ map (λ n. n.now) l.names.items ++ map (λ c. c.name.now) (drop l.case-index l.cases.items)
