use Rattle.std.proofs.Common.{◌≡◌, ◌||◌, not, string_bytes, sym, ap, rules}
use Rattle.conversion_table.specs.Conversions.{conversions_view}
use Rattle.value_models.specs.ContainerView.{container_view}
use Rattle.value_models.specs.ContainersView.{containers_in}
use Rattle.plain_tables.specs.Apart.{is_entered}
use Rattle.plain_tables.proofs.Failing.{fails_is}
use Rattle.plain_tables.proofs.table.item_fails.Goals as goal

pub returns-else-not-plain : goal.returns-else-not-plain
returns-else-not-plain c =
    let entered : c.is_some.result ≡ is_entered (string_bytes c.args.container.now.name) c.args.again.now = search rules in
    fails_is (containers_in c.args.table.now.containers) (conversions_view c.args.conversions.now) (container_view c.args.container.now) c.args.again.now c.args.first c.args.place c.is_some.result c.in_ok-plain.plain
    c.is_there.result c.is_there.result c.requires.twice c.requires.reaching c.requires.before c.requires.here entered c.if-is_some.false c.in_ok-plain.ensures c.is_there.ensures
    (ap (λ z. not z || c.is_there.result) (sym c.if-not-plain.false))
