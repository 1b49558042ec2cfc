use Rattle.space_items.proofs.Readable.{spaces_emit_modules}
use Rattle.space_items.proofs.laws.spaces_emit_modules.Goals as goal

pub returns : goal.returns
returns c = spaces_emit_modules c.tables_are_emitted.ensures
