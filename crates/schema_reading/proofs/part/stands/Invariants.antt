use Rattle.std.proofs.Common.{◌≡◌, drop, map}
use Rattle.schema_defs.specs.Read.{any_stands}
use Rattle.schema_reading.specs.Reading.{looked_up}
use Rattle.schema_reading.proofs.part.stands.Given as goal

abbrev pub invariant-loop-keyword : goal.invariant-loop-keyword
invariant-loop-keyword l = any_stands (map (λ k. k.now) l.keywords) (looked_up l.members.entries) ≡ any_stands (map (λ k. k.now) (drop l.keyword-index l.keywords)) (looked_up l.members.entries)
