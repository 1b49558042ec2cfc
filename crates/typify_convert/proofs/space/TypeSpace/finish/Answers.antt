use Rattle.std.proofs.Common.{List, map, ap, ◌∙◌}
use Rattle.convert_walks.specs.Told.{Note, ordered}
use Rattle.convert_document.proofs.Ends.{if_err}
use Rattle.convert_document.specs.Note.{note_of}
use Rattle.typify_convert.proofs.Refusals.{told_again, finish_cause, read_so}
use Rattle.typify_convert.proofs.Plainly.{finished_quietly}
use Rattle.typify_convert.proofs.space.TypeSpace.finish.Goals as goal

pub returns-clause-notes : goal.returns-clause-notes
returns-clause-notes g c h keeps = c.in_ok-emitted.ensures.notes ∙ ap (λ (ns : List Note). map note_of (ordered ns)) keeps.notes

pub returns-clause-read : goal.returns-clause-read
returns-clause-read g c h keeps = read_so c.args.self.held h keeps c.in_ok-emitted.ensures.read

pub returns-in_err-check-clause-refused : goal.returns-in_err-check-clause-refused
returns-in_err-check-clause-refused g c =
    if_err c.from_residual.result c.in_err-check.field-0.0 _ c.from_residual.ensures.1 (told_again _ _ _ c.in_err-check.ensures.told)

pub returns-in_err-emitted-clause-refused : goal.returns-in_err-emitted-clause-refused
returns-in_err-emitted-clause-refused g c =
    if_err c.from_residual-in_err-emitted.result c.in_err-emitted.field-0.0 _ c.from_residual-in_err-emitted.ensures.1
    (finish_cause _ c.args.self.held _ c.in_ok-check.ensures.before c.in_err-emitted.ensures.refused)

pub returns-clause-quiet_unnoted : goal.returns-clause-quiet_unnoted
returns-clause-quiet_unnoted g c h keeps quiet = c.in_ok-emitted.ensures.notes ∙ ap (λ (ns : List Note). map note_of (ordered ns)) (keeps.notes ∙ quiet.notes)

pub returns-in_err-check-clause-quiet_refused : goal.returns-in_err-check-clause-quiet_refused
returns-in_err-check-clause-quiet_refused g c = if_err c.from_residual.result c.in_err-check.field-0.0 _ c.from_residual.ensures.1 (λ h keeps quiet. c.in_err-check.ensures.told)

pub returns-in_err-emitted-clause-quiet_refused : goal.returns-in_err-emitted-clause-quiet_refused
returns-in_err-emitted-clause-quiet_refused g c =
    if_err c.from_residual-in_err-emitted.result c.in_err-emitted.field-0.0 _ c.from_residual-in_err-emitted.ensures.1 (finished_quietly _ c.args.self.held _ c.in_err-emitted.ensures.refused)
