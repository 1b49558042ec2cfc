use Rattle.std.proofs.Common.{◌≡◌, ◌++◌, ◌+◌, ◌*◌, drop, map}
use Rattle.syntax_trees.specs.View.{ty}
use Rattle.entry_types.specs.View.{id_view}
use Rattle.space_defs.specs.Types.{ty_within}
use Rattle.emit_types.specs.Asked.{space_view, boxed_in}
use Rattle.emit_types.proofs.types.+types.Given as goal

abbrev pub invariant-types_within-loop-id : goal.invariant-types_within-loop-id
invariant-types_within-loop-id l =
    map ty l.types.items ++ map (ty_within (space_view l.entries) l.depth (boxed_in l.parts l.owner)) (map id_view (drop l.id-index l.ids))
    ≡ map (ty_within (space_view l.entries) l.depth (boxed_in l.parts l.owner)) (map id_view l.ids)

abbrev pub decreases-type_within : goal.decreases-type_within
decreases-type_within l = l.depth * 3

abbrev pub decreases-type_of_form : goal.decreases-type_of_form
decreases-type_of_form l = l.depth * 3 + 2

abbrev pub decreases-types_within : goal.decreases-types_within
decreases-types_within l = l.depth * 3 + 1
