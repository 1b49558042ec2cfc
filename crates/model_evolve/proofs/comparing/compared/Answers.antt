use Rattle.value_models.specs.TypeView.{type_view}
use Rattle.evolve_rows.specs.PlaceView.{table_view}
use Rattle.evolve_walks.specs.Walking.{walked_view}
use Rattle.model_evolve.proofs.Right.{is_found, is_led_to}
use Rattle.model_evolve.proofs.comparing.compared.Goals as goal

pub returns-clause-answer : goal.returns-clause-answer
returns-clause-answer c =
    is_found (table_view c.args.tables.now.old) (table_view c.args.tables.now.new) (type_view c.args.old_root.now) (type_view c.args.new_root.now) c.in_ok-answer.answer (walked_view c.in_ok-walked.walked)
    c.in_ok-walked.ensures.ends c.in_ok-answer.ensures.answer

pub returns-clause-way : goal.returns-clause-way
returns-clause-way c =
    is_led_to (table_view c.args.tables.now.old) (table_view c.args.tables.now.new) (type_view c.args.old_root.now) (type_view c.args.new_root.now) c.in_ok-answer.answer c.in_ok-walked.walked
    c.in_ok-walked.ensures.way c.in_ok-answer.ensures.answer c.in_ok-answer.ensures.way
