use Rattle.std.proofs.Common.{string_bytes}
use Rattle.std.specs.Prelude.{is_ok}
use Rattle.evolve_walks.proofs.Found.{pushed_keyed}
use Rattle.evolve_walks.proofs.entered.Seen.enter.Goals as goal

pub invariant_of-self-2 : goal.invariant_of-self-2
invariant_of-self-2 c = record {
  keyed = pushed_keyed (is_ok c.push.result) (string_bytes c.in_ok-key.key) c.args.self.now.last c.insert.new.self c.len.result c.args.self.now.pairs.items c.push.new.self.items c.args.pair
      c.in_ok-key.ensures c.push.ensures.items c.in_ok-insert.ensures.updates c.args.self.now.keyed;
}
