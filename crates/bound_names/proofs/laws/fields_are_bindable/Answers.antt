use Rattle.bound_names.proofs.Bindable.{fields_are_bindable}
use Rattle.bound_names.proofs.laws.fields_are_bindable.Goals as goal

pub returns : goal.returns
returns c = fields_are_bindable
