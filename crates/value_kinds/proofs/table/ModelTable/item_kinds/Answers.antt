use Rattle.std.proofs.Common.{◌≡◌, Some, None, sym, ◌∙◌, rules}
use Rattle.value_models.specs.ContainersView.{containers_in}
use Rattle.value_kinds.specs.Rounds.{kinds_of_place}
use Rattle.value_kinds.proofs.Found.{by_name}
use Rattle.value_kinds.proofs.table.ModelTable.item_kinds.Goals as goal

pub returns-in-Some : goal.returns-in-Some
returns-in-Some c =
    let m = c.args.self.now in
    let found : c.kinds_at.result ≡ kinds_of_place m.kinds.items (Some c.in-Some.place) = search rules in
    by_name (containers_in m.containers) m.kinds.items m.read c.args.name.now m.names (Some c.in-Some.place) c.kinds_at.result m.named (sym c.in-Some.is ∙ c.place.ensures) found

pub returns-in-None : goal.returns-in-None
returns-in-None c =
    let m = c.args.self.now in
    by_name (containers_in m.containers) m.kinds.items m.read c.args.name.now m.names None c.none.result m.named (sym c.in-None.is ∙ c.place.ensures) c.none.ensures
