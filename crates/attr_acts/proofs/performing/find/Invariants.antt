use Rattle.std.proofs.Common.{◌≡◌, map, drop}
use Rattle.attr_defs.specs.Acts.{first_of}
use Rattle.attr_acts.specs.Views.{setting_view, slot_view}
use Rattle.attr_acts.proofs.performing.find.Given as goal

abbrev pub invariant-loop-setting : goal.invariant-loop-setting
invariant-loop-setting l = first_of (slot_view l.slot) (map setting_view l.settings) ≡ first_of (slot_view l.slot) (map setting_view (drop l.setting-index l.settings))
