use Rattle.entry_space.proofs.Grown.{apart-by-keys}
use Rattle.entry_space.proofs.space.EntrySpace.iter.Goals as goal

pub returns-clause-apart : goal.returns-clause-apart
returns-clause-apart c = apart-by-keys c.args.self.now.entries.entries c.args.self.now.keyed c.iter.ensures.unique
