use Rattle.bound_names.proofs.Bindable.{derived_names_are_free}
use Rattle.bound_names.proofs.laws.derived_names_are_free.Goals as goal

pub returns : goal.returns
returns c = derived_names_are_free
