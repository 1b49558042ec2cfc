use Rattle.std.proofs.Common.{◌≡◌, ◌++◌, drop, map}
use Rattle.entry_types.specs.View.{id_view}
use Rattle.emit_types.proofs.used.add_ids.Given as goal

abbrev pub invariant-loop-id : goal.invariant-loop-id
invariant-loop-id l = l.ids.items ++ map id_view (drop l.id-index l.from) ≡ l.initial.ids.items ++ map id_view l.from
