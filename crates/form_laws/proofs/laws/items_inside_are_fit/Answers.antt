use Rattle.form_laws.proofs.Inside.{items_fit}
use Rattle.form_laws.proofs.laws.items_inside_are_fit.Goals as goal

pub returns : goal.returns
returns c = items_fit
