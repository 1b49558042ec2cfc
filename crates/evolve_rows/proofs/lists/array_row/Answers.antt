use Rattle.std.proofs.Common.{ap, sym, ◌∙◌}
use Rattle.value_models.specs.TypeView.{type_view}
use Rattle.evolve_defs.specs.Forms.{array_form}
use Rattle.evolve_defs.specs.Steps.{plain_row}
use Rattle.evolve_defs.specs.Spots.{typed}
use Rattle.evolve_rows.specs.FormView.{form_view}
use Rattle.evolve_rows.proofs.lists.array_row.Goals as goal

pub returns-in_ok-turn-in-Tuple : goal.returns-in_ok-turn-in-Tuple
returns-in_ok-turn-in-Tuple c =
    λ o n. c.in_ok-turn-in-Tuple.ensures o n ∙ ap (λ f. typed (plain_row o n (array_form (type_view c.args.old.now) c.args.length) (form_view f))) (sym c.in-Tuple.is)

pub returns-in_ok-turn-in-Array : goal.returns-in_ok-turn-in-Array
returns-in_ok-turn-in-Array c =
    λ o n. c.in_ok-turn-in-Array.ensures o n ∙ ap (λ f. typed (plain_row o n (array_form (type_view c.args.old.now) c.args.length) (form_view f))) (sym c.in-Array.is)
