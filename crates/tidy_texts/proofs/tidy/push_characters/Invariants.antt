use Rattle.std.proofs.Common.{◌≡◌, ◌++◌, length, string_bytes}
use Rattle.tidy_texts.specs.Tidy.{tidied, start}
use Rattle.tidy_texts.proofs.tidy.push_characters.Given as goal

abbrev pub invariant-loop-first : goal.invariant-loop-first
invariant-loop-first l = string_bytes l.out ++ tidied l.spot l.left ≡ string_bytes l.initial.out ++ tidied start l.text

abbrev pub decreases-loop-first : goal.decreases-loop-first
decreases-loop-first l = length l.left
