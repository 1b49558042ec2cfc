use Rattle.std.proofs.Common.{ap, sym, ◌∙◌, true, false}
use Rattle.evolve_defs.specs.Spots.{plain_turn, typed}
use Rattle.evolve_rows.specs.FormView.{form_view, home_view}
use Rattle.evolve_rows.specs.PlaceView.{table_view}
use Rattle.evolve_rows.proofs.plain.plain_row.Goals as goal

pub returns-in-Boolean : goal.returns-in-Boolean
returns-in-Boolean c =
    c.checked.ensures ∙ ap typed (c.boolean_row.ensures (table_view c.args.tables.now.old) (table_view c.args.tables.now.new))
    ∙ ap (λ f. plain_turn (table_view c.args.tables.now.old) (table_view c.args.tables.now.new) (home_view f) (home_view c.args.new) (form_view f) (form_view c.args.new)) (sym c.in-Boolean.is)

pub returns-in-Unit : goal.returns-in-Unit
returns-in-Unit c =
    c.checked-in-Unit.ensures ∙ ap typed (c.unit_row.ensures (table_view c.args.tables.now.old) (table_view c.args.tables.now.new))
    ∙ ap (λ f. plain_turn (table_view c.args.tables.now.old) (table_view c.args.tables.now.new) (home_view f) (home_view c.args.new) (form_view f) (form_view c.args.new)) (sym c.in-Unit.is)

pub returns-in-Integer : goal.returns-in-Integer
returns-in-Integer c =
    c.checked-in-Integer.ensures ∙ ap typed (c.integer_row.ensures (table_view c.args.tables.now.old) (table_view c.args.tables.now.new))
    ∙ ap (λ f. plain_turn (table_view c.args.tables.now.old) (table_view c.args.tables.now.new) (home_view f) (home_view c.args.new) (form_view f) (form_view c.args.new)) (sym c.in-Integer.is)

pub returns-in-Text : goal.returns-in-Text
returns-in-Text c =
    c.checked-in-Text.ensures ∙ ap typed (c.text_row.ensures (table_view c.args.tables.now.old) (table_view c.args.tables.now.new))
    ∙ ap (λ f. plain_turn (table_view c.args.tables.now.old) (table_view c.args.tables.now.new) (home_view f) (home_view c.args.new) (form_view f) (form_view c.args.new)) (sym c.in-Text.is)

pub returns-in-Native : goal.returns-in-Native
returns-in-Native c =
    c.checked-in-Native.ensures ∙ ap typed (c.native_row.ensures (table_view c.args.tables.now.old) (table_view c.args.tables.now.new))
    ∙ ap (λ f. plain_turn (table_view c.args.tables.now.old) (table_view c.args.tables.now.new) (home_view f) (home_view c.args.new) (form_view f) (form_view c.args.new)) (sym c.in-Native.is)

pub returns-in_ok-turn-in-Tuple : goal.returns-in_ok-turn-in-Tuple
returns-in_ok-turn-in-Tuple c =
    c.in_ok-turn-in-Tuple.ensures (table_view c.args.tables.now.old) (table_view c.args.tables.now.new)
    ∙ ap (λ f. plain_turn (table_view c.args.tables.now.old) (table_view c.args.tables.now.new) (home_view f) (home_view c.args.new) (form_view f) (form_view c.args.new)) (sym c.in-Tuple.is)

pub returns-in_ok-turn-in-Array : goal.returns-in_ok-turn-in-Array
returns-in_ok-turn-in-Array c =
    c.in_ok-turn-in-Array.ensures (table_view c.args.tables.now.old) (table_view c.args.tables.now.new)
    ∙ ap (λ f. plain_turn (table_view c.args.tables.now.old) (table_view c.args.tables.now.new) (home_view f) (home_view c.args.new) (form_view f) (form_view c.args.new)) (sym c.in-Array.is)

pub returns-in_ok-turn-in-Map : goal.returns-in_ok-turn-in-Map
returns-in_ok-turn-in-Map c =
    c.in_ok-turn-in-Map.ensures (table_view c.args.tables.now.old) (table_view c.args.tables.now.new)
    ∙ ap (λ f. plain_turn (table_view c.args.tables.now.old) (table_view c.args.tables.now.new) (home_view f) (home_view c.args.new) (form_view f) (form_view c.args.new)) (sym c.in-Map.is)

pub returns-in_ok-turn-in-Struct : goal.returns-in_ok-turn-in-Struct
returns-in_ok-turn-in-Struct c =
    c.in_ok-turn-in-Struct.ensures (home_view c.args.old) (home_view c.args.new)
    ∙ ap (λ f. plain_turn (table_view c.args.tables.now.old) (table_view c.args.tables.now.new) (home_view f) (home_view c.args.new) (form_view f) (form_view c.args.new)) (sym c.in-Struct.is)

pub returns-in_ok-turn-in-List : goal.returns-in_ok-turn-in-List
returns-in_ok-turn-in-List c =
    c.in_ok-turn-in-List.ensures (table_view c.args.tables.now.old) (table_view c.args.tables.now.new) false
    ∙ ap (λ f. plain_turn (table_view c.args.tables.now.old) (table_view c.args.tables.now.new) (home_view f) (home_view c.args.new) (form_view f) (form_view c.args.new)) (sym c.in-List.is)

pub returns-in_ok-turn-in-Set : goal.returns-in_ok-turn-in-Set
returns-in_ok-turn-in-Set c =
    c.in_ok-turn-in-Set.ensures (table_view c.args.tables.now.old) (table_view c.args.tables.now.new) true
    ∙ ap (λ f. plain_turn (table_view c.args.tables.now.old) (table_view c.args.tables.now.new) (home_view f) (home_view c.args.new) (form_view f) (form_view c.args.new)) (sym c.in-Set.is)
