-- A key that is found is that of an equal entry.
use Rattle.std.proofs.Common.{refl, sym}
use Rattle.std.specs.Map.{lookup}
use Rattle.entry_types.specs.View.{entry_view}
use Rattle.entry_space.specs.contracts.key.KeyPartialEq.TheImpl as I
use Rattle.entry_space.proofs.Grown.{entries_in, there, entered-there, apart-by-keys}
use Rattle.entry_space.proofs.space.EntrySpace.enter.Goals as goal

pub returns-in-Some-clause-entered : goal.returns-in-Some-clause-entered
returns-in-Some-clause-entered c =
    sym (entered-there (entry_view c.args.entry) (entries_in c.args.self.now.entries.entries)
    (there c.in_ok-key.key (entry_view c.args.entry) c.in_ok-key.ensures c.args.self.now.entries.entries (lookup (I.eq-value.it c.in_ok-key.key) c.args.self.now.entries.entries) c.args.self.now.keyed refl (sym c.in-Some.ensures.found)).0)

pub returns-in-Some-clause-stands : goal.returns-in-Some-clause-stands
returns-in-Some-clause-stands c =
    (there c.in_ok-key.key (entry_view c.args.entry) c.in_ok-key.ensures c.args.self.now.entries.entries (lookup (I.eq-value.it c.in_ok-key.key) c.args.self.now.entries.entries) c.args.self.now.keyed refl (sym c.in-Some.ensures.found)).1
    c.in-Some.index c.in-Some.ensures.value

pub returns-in-Some-clause-apart : goal.returns-in-Some-clause-apart
returns-in-Some-clause-apart c = apart-by-keys c.args.self.now.entries.entries c.args.self.now.keyed c.get_index_of.ensures.unique
