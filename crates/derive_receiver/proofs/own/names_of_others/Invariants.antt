use Rattle.std.proofs.Common.{◌≡◌, take, map, string_bytes}
use Rattle.std.specs.Prelude.{flat_map}
use Rattle.syntax_trees.specs.Item.{param_view}
use Rattle.derive_receiver.specs.Own.{other_name}
use Rattle.derive_receiver.proofs.own.names_of_others.Given as goal

abbrev pub invariant-loop-param : goal.invariant-loop-param
invariant-loop-param l = map string_bytes l.names.items ≡ flat_map other_name (map param_view (take l.param-index l.param-items))
