use Rattle.std.proofs.Common.{sym, ap, subst, ◌∙◌}
use Rattle.evolve_defs.specs.Forms.{Table}
use Rattle.model_defs.specs.Reach.{NoneReachesItself}
use Rattle.container_defs.specs.Forms.{is_known, names_of}
use Rattle.typify_run.specs.Headline.{root_of}
use Rattle.model_evolve.specs.Answer.{table_in}
use Rattle.covers_run.proofs.Answered.{answer_of}
use Rattle.covers_run.proofs.comparing.compared.Goals as goal

pub covers-requires-clause-old_known : goal.covers-requires-clause-old_known
covers-requires-clause-old_known c = ap (λ is. is_known (names_of is) (root_of c.args.old.now)) c.in_ok-from.ensures.items ∙ c.requires.old.known

pub covers-requires-clause-new_known : goal.covers-requires-clause-new_known
covers-requires-clause-new_known c = ap (λ is. is_known (names_of is) (root_of c.args.new.now)) c.in_ok-to.ensures.items ∙ c.requires.new.known

pub covers-requires-clause-old_ends : goal.covers-requires-clause-old_ends
covers-requires-clause-old_ends c = subst (λ (t : Table). NoneReachesItself t.models) (sym c.in_ok-from.ensures.table) c.requires.old.ends

pub covers-requires-clause-new_ends : goal.covers-requires-clause-new_ends
covers-requires-clause-new_ends c = subst (λ (t : Table). NoneReachesItself t.models) (sym c.in_ok-to.ensures.table) c.requires.new.ends

pub returns : goal.returns
returns c =
    answer_of c.args.old.now c.args.new.now c.in_ok-answer.answer (table_in c.in_ok-from.from) (table_in c.in_ok-to.to) c.in_ok-from.ensures.table c.in_ok-to.ensures.table
    c.in_ok-answer.ensures.answer c.in_ok-answer.ensures.yes c.in_ok-answer.ensures.no c.in_ok-answer.ensures.way c.in_ok-answer.ensures.exact c.in_ok-answer.ensures.plain
