use Rattle.std.proofs.Common.{◌≡◌, [], map, sym, ap, subst, ◌∙◌, rules}
use Rattle.name_tables.specs.Names.{all_entered}
use Rattle.reference_graph.specs.Graph.{graph_of}
use Rattle.value_models.specs.ContainersView.{containers_in}
use Rattle.value_models.specs.Names.{container_names}
use Rattle.value_kinds.specs.Rounds.{AreKinds, asked_graph, asked_places}
use Rattle.value_kinds.proofs.Found.{by_names}
use Rattle.value_kinds.proofs.Graphs.{reaching_is_leading}
use Rattle.value_kinds.proofs.table.ModelTable.new.Goals as goal

pub kinds_of-requires : goal.kinds_of-requires
kinds_of-requires c =
    let ms = containers_in c.args.containers in
    let names = c.in_ok-names.names in
    let named = c.in_ok-names.ensures ∙ ap (λ ms. all_entered (container_names 0 ms) []) c.containers.ensures in
    let lent : c.deref.result.now ≡ c.in_ok-rows.rows.items = search rules in
    ap graph_of lent ∙ c.in_ok-rows.ensures ∙ ap (map (asked_places names)) c.containers-2.ensures ∙ by_names ms names named ∙ sym (ap asked_graph c.containers-3.ensures)

pub invariant_of-result : goal.invariant_of-result
invariant_of-result c =
    let ms = containers_in c.args.containers in
    let names = c.in_ok-names.names in
    let named = c.in_ok-names.ensures ∙ ap (λ ms. all_entered (container_names 0 ms) []) c.containers.ensures in
    let lent : c.deref-2.result.now ≡ c.in_ok-rows.rows.items = search rules in
    let rows = ap graph_of lent ∙ c.in_ok-rows.ensures ∙ ap (map (asked_places names)) c.containers-2.ensures ∙ by_names ms names named in
    record {
      named = named;
      read = subst (λ ms. AreKinds ms c.in_ok-kinds.kinds.items) c.containers-3.ensures c.in_ok-kinds.ensures;
      reaching = reaching_is_leading ms c.in_ok-loops.loops (graph_of c.deref-2.result.now) rows c.in_ok-loops.ensures;
    }
