use Rattle.std.proofs.Common.{◌≡◌, [], drop}
use Rattle.name_tables.specs.Names.{all_entered}
use Rattle.value_models.specs.Names.{at_one_place}
use Rattle.item_names.proofs.EnteredNames.{names_in}
use Rattle.item_names.proofs.Counted.{AreLeft}
use Rattle.item_names.proofs.entered.entered.Given as goal

abbrev pub invariant-loop-item : goal.invariant-loop-item
invariant-loop-item l = record {
  names : all_entered (at_one_place 0 (names_in (drop l.item-index l.items))) l.names ≡ all_entered (at_one_place 0 (names_in l.items)) [];
  counted : AreLeft (names_in l.items) l.names l.again (drop l.item-index l.items);
}
