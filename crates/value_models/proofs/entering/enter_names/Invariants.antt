use Rattle.std.proofs.Common.{◌≡◌, drop, map, string_bytes}
use Rattle.name_tables.specs.Names.{all_entered}
use Rattle.value_models.specs.Names.{at_one_place}
use Rattle.value_models.proofs.entering.enter_names.Given as goal

abbrev pub invariant-loop-name : goal.invariant-loop-name
invariant-loop-name l = all_entered (at_one_place l.place (map string_bytes (drop l.name-index l.several))) l.names ≡ all_entered (at_one_place l.place (map string_bytes l.several)) l.initial.names
