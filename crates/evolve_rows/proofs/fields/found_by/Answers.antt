use Rattle.std.proofs.Common.{◌≡◌, ◌&&◌, ◌||◌, ◌++◌, not, map, ap, ◌∙◌}
use Rattle.std.specs.List.{list_any}
use Rattle.model_defs.specs.Layer.{may_be_missing, present_type}
use Rattle.model_defs.specs.Reads.{leads_to_option}
use Rattle.value_models.specs.FieldView.{field_view}
use Rattle.evolve_defs.specs.Spots.{of_type}
use Rattle.evolve_defs.specs.Steps.{at_most_one, other_fields, own_fields}
use Rattle.evolve_rows.specs.Found.{refs_view, written_spots}
use Rattle.evolve_rows.specs.PlaceView.{place_view, table_view}
use Rattle.evolve_rows.specs.TurnView.{pairs_view, to_one}
use Rattle.evolve_rows.proofs.fields.found_by.Goals as goal

pub returns : goal.returns
returns c =
    let leads = leads_to_option (table_view c.args.table.now).models in
    let g = field_view c.args.new.now in
    let fs = refs_view c.args.before.left.items in
    let own : refs_view c.in_ok-own.own.items ≡ own_fields g fs = c.in_ok-own.ensures ∙ ap (λ xs. own_fields g (refs_view xs)) c.deref.ensures.value in
    let left : refs_view c.in_ok-left.left.items ≡ other_fields g fs = c.in_ok-left.ensures ∙ ap (λ xs. other_fields g (refs_view xs)) c.deref-2.ensures.value in
    let once : c.is_once.result ≡ (c.args.before.once && at_most_one (own_fields g fs)) =
    c.is_once.ensures ∙ ap (λ xs. c.args.before.once && at_most_one (refs_view xs)) c.deref-5.ensures.value ∙ ap (λ xs. c.args.before.once && at_most_one xs) own in
    let present : c.is_present.result ≡ (c.args.before.present && (may_be_missing leads g || list_any (λ f. not f.skip) (own_fields g fs))) =
    c.is_present.ensures
    ∙ ap (λ xs. c.args.before.present && (may_be_missing leads g || list_any (λ f. not f.skip) (refs_view xs))) c.deref-6.ensures.value
    ∙ ap (λ xs. c.args.before.present && (may_be_missing leads g || list_any (λ f. not f.skip) xs)) own in
    let written : map place_view c.deref-4.result.now ≡ written_spots (own_fields g fs) =
    ap (map place_view) c.deref-4.ensures.value ∙ c.in_ok-written.ensures ∙ ap (λ xs. written_spots (refs_view xs)) c.deref-3.ensures.value ∙ ap written_spots own in
    let pairs : pairs_view c.push_each.new.pairs.items ≡ pairs_view c.args.before.pairs.items ++ to_one (written_spots (own_fields g fs)) (of_type (present_type g)) =
    c.in_ok-push_each.ensures ∙ (λ i. pairs_view c.args.before.pairs.items ++ to_one (written i) (c.present_place.ensures i)) in
    λ i. record { left = left i; once = once i; present = present i; pairs = pairs i }
