use Rattle.std.proofs.Common.{◌≡◌, take}
use Rattle.locations.proofs.location.Walk.try_clone.Given as goal

abbrev pub invariant-loop-location : goal.invariant-loop-location
invariant-loop-location l = l.locations.items ≡ take l.location-index l.location-items
