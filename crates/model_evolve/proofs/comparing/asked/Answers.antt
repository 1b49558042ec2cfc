use Rattle.syntax_trees.specs.View.{ty as ty_view}
use Rattle.type_spellings.specs.Types.{type_of}
use Rattle.value_models.specs.TypeView.{type_view}
use Rattle.model_evolve.specs.Answer.{table_in}
use Rattle.model_evolve.proofs.Right.{led_moved, moved}
use Rattle.model_evolve.proofs.comparing.asked.Goals as goal

pub returns-clause-answer : goal.returns-clause-answer
returns-clause-answer c =
    moved _ (table_in c.args.old.now) _ (table_in c.args.new.now) (type_view c.in_ok-from.from) (type_of (ty_view c.args.old_root.now)) (type_view c.in_ok-to.to) (type_of (ty_view c.args.new_root.now)) c.in_ok-answer.answer
    (λ i. record { models = c.table.ensures i; conversions = c.conversions.ensures i }) (λ i. record { models = c.table-2.ensures i; conversions = c.conversions-2.ensures i })
    c.in_ok-from.ensures c.in_ok-to.ensures c.in_ok-answer.ensures.answer

pub returns-clause-way : goal.returns-clause-way
returns-clause-way c =
    led_moved _ (table_in c.args.old.now) _ (table_in c.args.new.now) (type_view c.in_ok-from.from) (type_of (ty_view c.args.old_root.now)) (type_view c.in_ok-to.to) (type_of (ty_view c.args.new_root.now)) c.in_ok-answer.answer
    (λ i. record { models = c.table.ensures i; conversions = c.conversions.ensures i }) (λ i. record { models = c.table-2.ensures i; conversions = c.conversions-2.ensures i })
    c.in_ok-from.ensures c.in_ok-to.ensures c.in_ok-answer.ensures.way
