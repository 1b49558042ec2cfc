use Rattle.std.proofs.Common.{sym, ap, ◌∙◌}
use Rattle.std.specs.Prelude.{option_map}
use Rattle.entry_space.proofs.Grown.{pair_entry, got}
use Rattle.entry_space.proofs.space.EntrySpace.get.Goals as goal

pub returns-in-Some : goal.returns-in-Some
returns-in-Some c = sym (ap (option_map pair_entry) c.in-Some.is) ∙ got c.args.self.now.entries.entries c.args.id.0 c.get_index.result c.get_index.ensures.entry

pub returns-in-None : goal.returns-in-None
returns-in-None c = sym (ap (option_map pair_entry) c.in-None.is) ∙ got c.args.self.now.entries.entries c.args.id.0 c.get_index.result c.get_index.ensures.entry
