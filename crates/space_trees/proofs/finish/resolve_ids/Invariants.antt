use Rattle.std.proofs.Common.{◌≡◌, ◌≤◌, ◌++◌, map, drop, option_map}
use Rattle.entry_types.specs.View.{id_view}
use Rattle.space_trees.specs.Parts.{resolved}
use Rattle.space_trees.proofs.PartSteps.{waits}
use Rattle.space_trees.proofs.finish.resolve_ids.Given as goal

abbrev pub invariant-loop-id : goal.invariant-loop-id
invariant-loop-id l = record {
  fits : l.waiting ≤ l.id-index;
  told :
      map id_view l.resolved.items ++ waits l.waiting (map (option_map id_view) (drop l.id-index l.ids.items)) (option_map id_view l.fn.rest)
      ≡ resolved (map (option_map id_view) l.ids.items) (option_map id_view l.fn.rest);
}
