use Rattle.std.proofs.Common.{◌≡◌, take, map, string_bytes}
use Rattle.syntax_trees.specs.View.{generic_view}
use Rattle.derive_receiver.specs.Own.{lifetime_at}
use Rattle.derive_receiver.proofs.own.lifetimes_there.Given as goal

abbrev pub invariant-loop-name : goal.invariant-loop-name
invariant-loop-name l = map generic_view l.arguments.items ≡ map (lifetime_at l.at) (map string_bytes (take l.name-index l.name-items))
