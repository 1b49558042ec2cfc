use Rattle.std.proofs.Common.{◌≡◌, ◌++◌, length, true, string_bytes}
use Rattle.tidy_texts.specs.Comment.{documented}
use Rattle.tidy_texts.proofs.comment.push_doc_lines.Given as goal

abbrev pub invariant-loop-first : goal.invariant-loop-first
invariant-loop-first l = string_bytes l.out ++ documented l.begins l.left ≡ string_bytes l.initial.out ++ documented true l.text

abbrev pub decreases-loop-first : goal.decreases-loop-first
decreases-loop-first l = length l.left
