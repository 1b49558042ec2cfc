use Rattle.std.proofs.Common.{rules, ◌≡◌, ◌&&◌, bytes_eq, ap, sym, ◌∙◌, true, false}
use Rattle.value_models.specs.ContainerView.{variants_in}
use Rattle.evolve_defs.specs.Forms.{adjacent_form}
use Rattle.std.specs.Prelude.{if◌then◌else◌}
use Rattle.evolve_defs.specs.Spots.{plain_turn, renamed, variant_spots}
use Rattle.evolve_defs.specs.Steps.{variants_verdict, fails, tag_differs}
use Rattle.evolve_rows.specs.FormView.{form_view, home_view}
use Rattle.evolve_rows.specs.Led.{all_led}
use Rattle.evolve_rows.specs.PlaceView.{table_view}
use Rattle.evolve_rows.proofs.Leading.{variants_say}
use Rattle.evolve_rows.proofs.plain.adjacent_row.Goals as goal

pub returns-in_ok-turn-in-Adjacent : goal.returns-in_ok-turn-in-Adjacent
returns-in_ok-turn-in-Adjacent c =
    let tags : bytes_eq c.args.names.0.now c.in-Adjacent.new_tag.now ≡ true = search rules in
    let contents : bytes_eq c.args.names.1.now c.in-Adjacent.new_content.now ≡ true = search rules in
    c.in_ok-turn-in-Adjacent.ensures
    ∙ ap (λ ws. all_led false c.args.home.now c.in-Adjacent.new_home.now 0 ws (variants_in c.in-Adjacent.new.now)) c.variants.ensures
    ∙ variants_say c.args.closed c.in-Adjacent.closed c.args.home.now c.in-Adjacent.new_home.now (variants_in c.in-Adjacent.new.now) 0 (variants_in c.args.variants.now)
    ∙ (λ i. renamed (if sym tags i && sym contents i then variants_verdict c.args.closed c.in-Adjacent.closed (variants_in c.args.variants.now) (variants_in c.in-Adjacent.new.now) else fails tag_differs)
    (variant_spots c.args.home.now c.in-Adjacent.new_home.now 0 (variants_in c.args.variants.now) (variants_in c.in-Adjacent.new.now)))
    ∙ ap (λ f. plain_turn (table_view c.args.tables.now.old) (table_view c.args.tables.now.new) c.args.home.now (home_view f) (adjacent_form c.args.closed c.args.names.0.now c.args.names.1.now (variants_in c.args.variants.now)) (form_view f)) (sym c.in-Adjacent.is)
