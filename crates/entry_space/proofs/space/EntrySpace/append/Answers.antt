-- What `insert` makes of the map, seen as a space.
use Rattle.std.proofs.Common.{◌<◌, length, ◌∙◌, arith}
use Rattle.entry_space.proofs.Grown.{apart-by-keys}
use Rattle.entry_space.proofs.Appended.{inserted-end, kept-after, keyed-after, seen-after, at-end}
use Rattle.entry_space.proofs.space.EntrySpace.append.Goals as goal

pub invariant_of-self : goal.invariant_of-self
invariant_of-self c =
    let few : length c.args.self.now.entries.entries < 4294967295 = omega (arith, c.len-index.ensures.len, c.if-index-ge4294967295.false) in
    let h =
    kept-after c.insert.result c.args.self.now.entries.entries c.insert.new.self.entries c.args.key c.args.entry c.insert.ensures.entries c.insert.ensures.err c.requires.absent c.requires.keyed
    c.args.self.now.keyed few
    in record { keyed = h.0; few = h.1 }

pub returns-clause-entered : goal.returns-clause-entered
returns-clause-entered c =
    seen-after c.args.self.now.entries.entries c.insert.new.self.entries c.args.key c.args.entry (c.in_ok-insert.ensures.entries ∙ inserted-end c.args.key c.args.entry c.args.self.now.entries.entries c.requires.absent)
    c.requires.keyed c.args.self.now.keyed c.requires.absent

pub returns-clause-stands : goal.returns-clause-stands
returns-clause-stands c =
    at-end c.args.self.now.entries.entries c.insert.new.self.entries c.args.key c.args.entry (c.in_ok-insert.ensures.entries ∙ inserted-end c.args.key c.args.entry c.args.self.now.entries.entries c.requires.absent)
    c.requires.keyed c.len-index.result c.len-index.ensures.len

pub returns-clause-apart : goal.returns-clause-apart
returns-clause-apart c =
    apart-by-keys c.insert.new.self.entries
    (keyed-after c.args.self.now.entries.entries c.insert.new.self.entries c.args.key c.args.entry (c.in_ok-insert.ensures.entries ∙ inserted-end c.args.key c.args.entry c.args.self.now.entries.entries c.requires.absent)
    c.requires.keyed c.args.self.now.keyed) c.insert.ensures.unique
