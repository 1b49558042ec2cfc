use Rattle.std.proofs.Common.{map, ap, ◌∙◌}
use Rattle.reference_graph.specs.Graph.{graph_of}
use Rattle.value_models.specs.ContainersView.{containers_in}
use Rattle.value_models.specs.TypeView.{type_view}
use Rattle.item_uses.specs.Uses.{body_places}
use Rattle.item_uses.proofs.ComeTo.{are_come}
use Rattle.item_uses.proofs.coming.come.Goals as goal

pub returns : goal.returns
returns c =
    let ms = containers_in c.args.places.now.containers.now in
    are_come ms (type_view c.args.ty.now) (graph_of c.deref.result.now) c.deref-2.result.now c.in_ok-flags.flags.items
    (ap graph_of c.deref.ensures.value ∙ c.in_ok-rows.ensures ∙ ap (map (body_places ms)) c.containers.ensures)
    (c.deref-2.ensures.value ∙ c.in_ok-starts.ensures)
    c.in_ok-flags.ensures.sound c.in_ok-flags.ensures.closed
