use Rattle.std.proofs.Common.{◌+◌, ◌*◌}
use Rattle.evolve_rows.proofs.question.+answers.Given as goal

abbrev pub decreases-type_answer : goal.decreases-type_answer
decreases-type_answer l = 3 * l.left + 1

abbrev pub decreases-item_answer : goal.decreases-item_answer
decreases-item_answer l = 3 * l.left

abbrev pub decreases-container_answer : goal.decreases-container_answer
decreases-container_answer l = 3 * l.left + 2
