use Rattle.std.proofs.Common.{◌≡◌, map, length, sym, rules}
use Rattle.std.proofs.lemmas.List.{length-map}
use Rattle.reference_graph.specs.Graph.{graph_of}
use Rattle.value_models.specs.ContainerView.{container_view, containers_view}
use Rattle.value_kinds.specs.Claims.{own_kinds}
use Rattle.value_kinds.proofs.Found.{all_rounds, as_many}
use Rattle.value_kinds.proofs.table.kinds_of.Goals as goal

pub returns : goal.returns
returns c =
    let ms = containers_view c.args.containers.now in
    let owns : c.deref.result.now ≡ map own_kinds ms = search rules in
    all_rounds ms c.deref.result.now c.in_ok-kinds.kinds.items (graph_of c.args.rows.now) (length c.args.containers.now) owns c.requires (sym (length-map c.args.containers.now container_view)) c.in_ok-kinds.ensures

pub kinds_after-requires : goal.kinds_after-requires
kinds_after-requires c =
    let ms = containers_view c.args.containers.now in
    let owns : c.deref.result.now ≡ map own_kinds ms = search rules in
    as_many c.deref.result.now c.args.rows.now ms owns c.requires
