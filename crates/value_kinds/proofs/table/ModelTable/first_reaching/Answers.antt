use Rattle.std.proofs.Common.{◌≡◌, map, ap, ◌∙◌, rules}
use Rattle.reference_graph.specs.Graph.{graph_of}
use Rattle.value_models.specs.ContainersView.{containers_in}
use Rattle.value_kinds.specs.Rounds.{asked_places}
use Rattle.value_kinds.proofs.Found.{by_names}
use Rattle.value_kinds.proofs.Graphs.{first_reaches}
use Rattle.value_kinds.proofs.table.ModelTable.first_reaching.Goals as goal

pub returns : goal.returns
returns c =
    let m = c.args.self.now in
    let ms = containers_in m.containers in
    let lent : c.deref.result.now ≡ c.in_ok-rows.rows.items = search rules in
    let rows = ap graph_of lent ∙ c.in_ok-rows.ensures ∙ ap (map (asked_places m.names)) c.containers.ensures ∙ by_names ms m.names m.named in
    first_reaches ms (graph_of c.deref.result.now) c.in_ok-found.found rows c.in_ok-found.ensures
