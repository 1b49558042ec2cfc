use Rattle.std.proofs.Common.{rules, ◌≡◌, bytes_eq, ap, sym, ◌∙◌, true}
use Rattle.value_models.specs.ContainerView.{variants_in}
use Rattle.evolve_defs.specs.Forms.{internal_form}
use Rattle.std.specs.Prelude.{if◌then◌else◌}
use Rattle.evolve_defs.specs.Spots.{beside_spots, plain_turn, renamed}
use Rattle.evolve_defs.specs.Steps.{besides_verdict, fails, tag_differs}
use Rattle.evolve_rows.specs.FormView.{form_view, home_view}
use Rattle.evolve_rows.specs.Led.{all_led}
use Rattle.evolve_rows.specs.PlaceView.{table_view}
use Rattle.evolve_rows.proofs.Leading.{besides_say}
use Rattle.evolve_rows.proofs.plain.internal_row.Goals as goal

pub returns-in_ok-turn-in-Internal : goal.returns-in_ok-turn-in-Internal
returns-in_ok-turn-in-Internal c =
    let same : bytes_eq c.args.tag.now c.in-Internal.new_tag.now ≡ true = search rules in
    c.in_ok-turn-in-Internal.ensures
    ∙ ap (λ ws. all_led true c.args.home.now c.in-Internal.new_home.now 0 ws (variants_in c.in-Internal.new.now)) c.variants.ensures
    ∙ besides_say c.args.closed c.in-Internal.closed c.args.home.now c.in-Internal.new_home.now (variants_in c.in-Internal.new.now) 0 (variants_in c.args.variants.now)
    ∙ ap (λ b. renamed (if b then besides_verdict c.args.closed c.in-Internal.closed (variants_in c.args.variants.now) (variants_in c.in-Internal.new.now) else fails tag_differs)
    (beside_spots c.args.home.now c.in-Internal.new_home.now 0 (variants_in c.args.variants.now) (variants_in c.in-Internal.new.now))) (sym same)
    ∙ ap (λ f. plain_turn (table_view c.args.tables.now.old) (table_view c.args.tables.now.new) c.args.home.now (home_view f) (internal_form c.args.closed c.args.tag.now (variants_in c.args.variants.now)) (form_view f)) (sym c.in-Internal.is)
