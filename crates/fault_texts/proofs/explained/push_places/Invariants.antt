use Rattle.std.proofs.Common.{◌≡◌, ◌++◌, take, string_bytes}
use Rattle.fault_texts.specs.Explained.{step_lines}
use Rattle.fault_texts.proofs.explained.push_places.Given as goal

abbrev pub invariant-loop-place : goal.invariant-loop-place
invariant-loop-place l = string_bytes l.out ≡ string_bytes l.initial.out ++ step_lines (take l.place-index l.places)
