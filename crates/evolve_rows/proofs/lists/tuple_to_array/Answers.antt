use Rattle.std.proofs.Common.{◌≡◌, length, arith}
use Rattle.value_models.specs.TypeView.{type_view}
use Rattle.evolve_rows.specs.FormView.{places_view}
use Rattle.evolve_rows.proofs.Listed.{each_to_says}
use Rattle.evolve_rows.proofs.lists.tuple_to_array.Goals as goal

pub returns : goal.returns
returns c =
    let same : length (places_view c.args.old) ≡ c.args.length = omega (arith, c.if-length_of-length.false, c.length_of.ensures) in
    λ o n. each_to_says (places_view c.args.old) (type_view c.args.new.now) c.args.length _ same c.in_ok-turn.ensures
