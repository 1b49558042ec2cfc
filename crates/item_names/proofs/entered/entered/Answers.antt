use Rattle.std.proofs.Common.{[]}
use Rattle.name_tables.specs.Names.{all_entered}
use Rattle.value_models.specs.Names.{at_one_place}
use Rattle.item_names.proofs.EnteredNames.{names_in, item_turn}
use Rattle.item_names.proofs.Counted.{count_turn}
use Rattle.item_names.proofs.entered.entered.Goals as goal

pub loop-item-preserved : goal.loop-item-preserved
loop-item-preserved c =
    let l = c.loop-item in
    let is = c.args.items.now in
    let x = c.item-item.result in
    let n = c.name_of.result.now in
    let whole = all_entered (at_one_place 0 (names_in is)) [] in
    record {
      names = item_turn is l.item-index x n l.names c.enter.new.names whole c.loop-item-test.true c.item-item.is c.name_of.ensures c.in_ok-enter.ensures.names l.invariant.names;
      counted = count_turn (names_in is) is l.item-index x n l.names l.again c.enter.new.names c.enter.new.again c.loop-item-test.true c.item-item.is c.name_of.ensures c.in_ok-enter.ensures.names c.in_ok-enter.ensures.again l.invariant.counted;
    }
