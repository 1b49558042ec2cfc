use Rattle.std.proofs.Common.{◌≡◌, ◌++◌, drop}
use Rattle.space_defs.specs.Leads.{nexts_from}
use Rattle.emit_types.specs.Asked.{space_view, same_part}
use Rattle.emit_types.proofs.leads.nexts.Given as goal

abbrev pub invariant-loop-id : goal.invariant-loop-id
invariant-loop-id l =
    l.next.items ++ nexts_from (space_view l.entries) (same_part l.parts) l.id (space_view (drop l.id l.entries))
    ≡ nexts_from (space_view l.entries) (same_part l.parts) 0 (space_view l.entries)
