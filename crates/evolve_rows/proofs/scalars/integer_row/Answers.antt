use Rattle.std.proofs.Common.{ap, sym, ◌∙◌}
use Rattle.evolve_defs.specs.Forms.{integer_form}
use Rattle.evolve_defs.specs.Steps.{plain_row}
use Rattle.evolve_rows.specs.FormView.{form_view, range_view}
use Rattle.evolve_rows.proofs.scalars.integer_row.Goals as goal

pub returns-in-Integer : goal.returns-in-Integer
returns-in-Integer c = λ o n. c.range_broken.ensures o n ∙ ap (λ f. plain_row o n (integer_form (range_view c.args.range)) (form_view f)) (sym c.in-Integer.is)
