use Rattle.std.proofs.Common.{◌≡◌, length, arith}
use Rattle.value_models.specs.TypeView.{type_view}
use Rattle.evolve_rows.specs.FormView.{places_view}
use Rattle.evolve_rows.proofs.Listed.{to_each_says}
use Rattle.evolve_rows.proofs.lists.array_to_tuple.Goals as goal

pub returns : goal.returns
returns c =
    let same : c.args.length ≡ length (places_view c.args.new) = omega (arith, c.if-length_of-length.false, c.length_of.ensures) in
    λ o n. to_each_says (type_view c.args.old.now) (places_view c.args.new) c.args.length _ same c.in_ok-turn.ensures
