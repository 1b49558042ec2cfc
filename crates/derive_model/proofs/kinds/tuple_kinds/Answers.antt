use Rattle.derive_model.proofs.Asked.{many_places}
use Rattle.derive_model.proofs.kinds.tuple_kinds.Goals as goal

pub returns-in-len1-up : goal.returns-in-len1-up
returns-in-len1-up c = λ ms. many_places ms c.args.parts.now c.only-in-len1-up.result c.in-len1-up.len_at_least c.only-in-len1-up.ensures
