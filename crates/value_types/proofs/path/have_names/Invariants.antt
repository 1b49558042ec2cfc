use Rattle.std.proofs.Common.{◌≡◌, drop}
use Rattle.type_spellings.specs.Types.{same_names}
use Rattle.value_types.specs.Paths.{names_of, symbols}
use Rattle.value_types.proofs.path.have_names.Given as goal

abbrev pub invariant-loop-segment : goal.invariant-loop-segment
invariant-loop-segment l = same_names (names_of (drop l.segment-index l.segments)) (symbols l.left) ≡ same_names (names_of l.segments) (symbols l.names)
