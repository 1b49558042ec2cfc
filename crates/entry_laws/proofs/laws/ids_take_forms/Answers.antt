use Rattle.entry_laws.proofs.Alike.{ids_take_forms}
use Rattle.entry_laws.proofs.laws.ids_take_forms.Goals as goal

pub returns : goal.returns
returns c = ids_take_forms
