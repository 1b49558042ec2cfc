use Rattle.std.proofs.Common.{string_bytes}
use Rattle.good_names.proofs.First.{item_is_given}
use Rattle.good_names.proofs.given.GivenNames.give_item.Goals as goal

pub returns : goal.returns
returns c =
    item_is_given c.args.self.now c.give_by.new.self c.take_value.new.self (string_bytes c.in_ok-name.name) c.deref.result.now c.args.wanted.now c.args.is_value c.in_ok-good.good c.in_ok-name.ensures c.in_ok-good.ensures c.deref.ensures
    c.in_ok-take_value.ensures
