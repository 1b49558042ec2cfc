use Rattle.std.proofs.Common.{ap, sym, ◌∙◌}
use Rattle.evolve_defs.specs.Forms.{native_form}
use Rattle.evolve_defs.specs.Steps.{plain_row}
use Rattle.evolve_rows.specs.FormView.{form_view}
use Rattle.evolve_rows.proofs.scalars.native_row.Goals as goal

pub returns-in-Native : goal.returns-in-Native
returns-in-Native c = λ o n. c.format_broken.ensures o n ∙ ap (λ f. plain_row o n (native_form c.args.format) (form_view f)) (sym c.in-Native.is)
