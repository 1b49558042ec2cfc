use Rattle.merge_steps.proofs.Ending.{memory_goes}
use Rattle.merge_sides.proofs.Leaving.{to_end, to_leaves, off_types, off_format, off_numbers, off_texts}
use Rattle.merge_sides.proofs.Going.{handed_on}
use Rattle.merge_sides.proofs.leaves.leaves.Goals as goal

pub returns : goal.returns
returns c = λ k.
    to_leaves c.args.first.now c.args.second.now k _ _ _
    (to_end c.args.first.now c.args.second.now k _ c.in_ok-types.types c.in_ok-types.ensures _ c.in_ok-format.format c.in_ok-format.ensures _ _ c.in_ok-number.number c.is_only-is_integer.ensures c.in_ok-number.ensures _ _ c.in_ok-string.string c.is_only-is_text.ensures c.in_ok-string.ensures)
    c.in_ok-values.ensures c.in_ok-other_values.ensures

pub returns-in_err-types : goal.returns-in_err-types
returns-in_err-types c = λ k. handed_on _ _ c.from_residual.ensures.1 (off_types c.args.first.now c.args.second.now k _ _ c.in_err-types.ensures)

pub returns-in_err-format : goal.returns-in_err-format
returns-in_err-format c = λ k. handed_on _ _ c.from_residual-in_err-format.ensures.1 (off_format c.args.first.now c.args.second.now k _ c.in_ok-types.types c.in_ok-types.ensures _ _ c.in_err-format.ensures)

pub returns-in_err-number : goal.returns-in_err-number
returns-in_err-number c = λ k.
    handed_on _ _ c.from_residual-in_err-number.ensures.1
    (off_numbers c.args.first.now c.args.second.now k _ c.in_ok-types.types c.in_ok-types.ensures _ c.in_ok-format.format c.in_ok-format.ensures _ _ _ c.is_only-is_integer.ensures c.in_err-number.ensures)

pub returns-in_err-string : goal.returns-in_err-string
returns-in_err-string c = λ k.
    handed_on _ _ c.from_residual-in_err-string.ensures.1
    (off_texts c.args.first.now c.args.second.now k _ c.in_ok-types.types c.in_ok-types.ensures _ c.in_ok-format.format c.in_ok-format.ensures _ _ c.in_ok-number.number c.is_only-is_integer.ensures c.in_ok-number.ensures _ _ _
    c.is_only-is_text.ensures c.in_err-string.ensures)

pub returns-in_err-values : goal.returns-in_err-values
returns-in_err-values c = λ k. memory_goes _ c.from_residual-in_err-values.ensures.1

pub returns-in_err-other_values : goal.returns-in_err-other_values
returns-in_err-other_values c = λ k. memory_goes _ c.from_residual-in_err-other_values.ensures.1
