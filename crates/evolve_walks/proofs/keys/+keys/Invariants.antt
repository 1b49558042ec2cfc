use Rattle.std.proofs.Common.{◌≡◌, ◌++◌, drop, string_bytes}
use Rattle.evolve_walks.proofs.Parts.{keys_of}
use Rattle.evolve_walks.proofs.keys.+keys.Given as goal

abbrev pub invariant-push_types-loop-part : goal.invariant-push_types-loop-part
invariant-push_types-loop-part l = string_bytes l.text ++ keys_of (drop l.part-index l.parts) ≡ string_bytes l.fn.text ++ keys_of l.parts
