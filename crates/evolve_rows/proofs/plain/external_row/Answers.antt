use Rattle.std.proofs.Common.{ap, sym, ◌∙◌, false}
use Rattle.value_models.specs.ContainerView.{variants_in}
use Rattle.evolve_defs.specs.Forms.{external_form}
use Rattle.evolve_defs.specs.Spots.{plain_turn}
use Rattle.evolve_rows.specs.FormView.{form_view, home_view}
use Rattle.evolve_rows.specs.Led.{all_led}
use Rattle.evolve_rows.specs.PlaceView.{table_view}
use Rattle.evolve_rows.proofs.Leading.{variants_say}
use Rattle.evolve_rows.proofs.plain.external_row.Goals as goal

pub returns-in_ok-turn-in-External : goal.returns-in_ok-turn-in-External
returns-in_ok-turn-in-External c =
    c.in_ok-turn-in-External.ensures
    ∙ ap (λ ws. all_led false c.args.home.now c.in-External.new_home.now 0 ws (variants_in c.in-External.new.now)) c.variants.ensures
    ∙ variants_say c.args.closed _ c.args.home.now c.in-External.new_home.now (variants_in c.in-External.new.now) 0 (variants_in c.args.variants.now)
    ∙ ap (λ f. plain_turn (table_view c.args.tables.now.old) (table_view c.args.tables.now.new) c.args.home.now (home_view f) (external_form c.args.closed (variants_in c.args.variants.now)) (form_view f)) (sym c.in-External.is)
