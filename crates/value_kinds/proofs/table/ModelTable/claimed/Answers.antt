use Rattle.std.proofs.Common.{[], option_map, sym, ap, ◌∙◌}
use Rattle.std.specs.List.{cons_option}
use Rattle.value_models.specs.ContainersView.{containers_in}
use Rattle.value_kinds.specs.Rounds.{claimed_kinds}
use Rattle.value_kinds.proofs.Splits.{claims_item}
use Rattle.value_kinds.proofs.table.ModelTable.claimed.Goals as goal

pub returns-in-Some : goal.returns-in-Some
returns-in-Some c =
    let ms = containers_in c.args.self.now.containers in
    let own = c.args.claim.own in
    claims_item ms own c.item_kinds.result c.either.result c.in-Some.name.now c.item_kinds.ensures c.either.ensures
    ∙ ap (λ o. claimed_kinds ms (record { own = own; asked = cons_option (option_map (λ n. n.now) o) [] })) (sym c.in-Some.is)
