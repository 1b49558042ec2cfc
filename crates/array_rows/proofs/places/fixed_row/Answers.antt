use Rattle.std.proofs.Common.{◌≡◌, option_map, sym, ap, ◌∙◌}
use Rattle.schema_types.specs.View.{places_of, items_view, maybe_view}
use Rattle.schema_types.specs.declared.schema.ArrayValidation.{out-ArrayValidation}
use Rattle.convert_defs.specs.Owners.{fixed_row}
use Rattle.array_rows.specs.Parts.{places_in, rest_in}
use Rattle.array_rows.proofs.ArrayViews.{array_seen}
use Rattle.array_rows.proofs.places.fixed_row.Goals as goal

pub returns-in_ok-row-in-Some : goal.returns-in_ok-row-in-Some
returns-in_ok-row-in-Some c =
    let a = c.args.lists.now in
    let x = out-ArrayValidation a in
    λ r.
    c.in_ok-row-in-Some.ensures r
    ∙ sym (
    ap (λ l. fixed_row c.args.places (places_in l) (rest_in l)) (array_seen a)
    ∙ ap (λ o. fixed_row c.args.places (places_of (option_map items_view o)) (maybe_view x.additional_items)) c.in-Some.is
    )
