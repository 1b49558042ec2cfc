-- What the values of the walk stand for.
use Rattle.std.specs.Prelude.{map, string_bytes}
use Rattle.syntax_trees.specs.Syntax.{ExprPathD, expr_path}
use Rattle.syntax_trees.specs.View.{path_view, maybe_qself_view}
use Rattle.derive_receiver.specs.Own.{Own}
use Rattle.derive_receiver.specs.declared.own.Receiver.{Receiver}
use Rattle.derive_receiver.specs.declared.head.Place.{Place}

abbrev pub own_view : Receiver → Own
own_view r = record { name = string_bytes r.name; lifetimes = map string_bytes r.lifetimes.items; others = map string_bytes r.others.items }

-- a path with its qualified self
abbrev pub place_view : Place → ExprPathD
place_view p = expr_path (maybe_qself_view p.qself) (path_view p.path)
