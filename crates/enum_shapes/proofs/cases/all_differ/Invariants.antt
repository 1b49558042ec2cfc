use Rattle.std.proofs.Common.{◌≡◌, drop}
use Rattle.enum_defs.specs.Words.{is_name, all_differ}
use Rattle.enum_shapes.proofs.Fresh.{all_fresh, texts}
use Rattle.enum_shapes.proofs.cases.all_differ.Given as goal

abbrev pub invariant-loop-name : goal.invariant-loop-name
invariant-loop-name l = all_differ (texts l.names) ≡ all_fresh (λ m. is_name m (texts l.seen.keys)) (texts (drop l.name-index l.names))
