use Rattle.std.proofs.Common.{ap, sym, ◌∙◌}
use Rattle.value_models.specs.TypeView.{type_view}
use Rattle.evolve_defs.specs.Forms.{tuple_form}
use Rattle.evolve_defs.specs.Steps.{plain_row}
use Rattle.evolve_defs.specs.Walk.{goes}
use Rattle.evolve_defs.specs.Spots.{typed}
use Rattle.evolve_rows.specs.FormView.{form_view, places_view}
use Rattle.evolve_rows.proofs.Finding.{each_spots}
use Rattle.evolve_rows.proofs.Listed.{by_lengths_says}
use Rattle.evolve_rows.proofs.lists.tuple_row.Goals as goal

pub returns-in_ok-turn-in-Tuple : goal.returns-in_ok-turn-in-Tuple
returns-in_ok-turn-in-Tuple c =
    λ o n. c.in_ok-turn-in-Tuple.ensures ∙ by_lengths_says (places_view c.args.old) (places_view c.in-Tuple.new)
    ∙ ap (λ f. typed (plain_row o n (tuple_form (places_view c.args.old)) (form_view f))) (sym c.in-Tuple.is)

pub returns-in_ok-turn-in-Array : goal.returns-in_ok-turn-in-Array
returns-in_ok-turn-in-Array c = λ o n. c.in_ok-turn-in-Array.ensures o n ∙ ap (λ f. typed (plain_row o n (tuple_form (places_view c.args.old)) (form_view f))) (sym c.in-Array.is)

pub returns-in_ok-turn-in-List : goal.returns-in_ok-turn-in-List
returns-in_ok-turn-in-List c =
    λ o n. c.in_ok-turn-in-List.ensures ∙ ap goes (each_spots (places_view c.args.old) (type_view c.in-List.new.now))
    ∙ ap (λ f. typed (plain_row o n (tuple_form (places_view c.args.old)) (form_view f))) (sym c.in-List.is)

pub returns-in_ok-turn-in-Set : goal.returns-in_ok-turn-in-Set
returns-in_ok-turn-in-Set c =
    λ o n. c.in_ok-turn-in-Set.ensures ∙ ap goes (each_spots (places_view c.args.old) (type_view c.in-Set.new.now))
    ∙ ap (λ f. typed (plain_row o n (tuple_form (places_view c.args.old)) (form_view f))) (sym c.in-Set.is)
