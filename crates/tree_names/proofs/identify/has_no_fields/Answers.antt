use Rattle.std.proofs.Common.{sym}
use Rattle.tree_names.proofs.Parts.{without_field}
use Rattle.tree_names.proofs.identify.has_no_fields.Goals as goal

pub returns-in-None : goal.returns-in-None
returns-in-None c = without_field c.deref.result.now c.args.fields.now.items c.args.rest.now c.has_no_rest.result c.deref.ensures.value (sym c.in-None.ensures.value) c.has_no_rest.ensures
