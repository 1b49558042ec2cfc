use Rattle.std.proofs.Common.{◌≡◌, ◌&&◌, ◌||◌, ◌++◌, not, Some, None, refl, ap, ◌∙◌}
use Rattle.model_defs.specs.Reads.{leads_to_option}
use Rattle.value_models.specs.FieldView.{fields_view}
use Rattle.evolve_defs.specs.Steps.{is_none, names_within, plain_fields, rests}
use Rattle.evolve_rows.specs.Found.{broken_by, found_view, gathered, refs_view, rest_spots, start, with_rests, written_spots}
use Rattle.evolve_rows.specs.PlaceView.{table_view}
use Rattle.evolve_rows.specs.TurnView.{broken_view, pairs_view}
use Rattle.evolve_rows.proofs.Finding.{fields_say}
use Rattle.evolve_rows.proofs.fields.fields_turn.Goals as goal

pub returns-in-Some : goal.returns-in-Some
returns-in-Some c =
    let leads = leads_to_option (table_view c.args.table.now).models in
    let fs = plain_fields (fields_view c.args.old.now) in
    let rs = rests (fields_view c.args.old.now) in
    let gs = plain_fields (fields_view c.args.new.now) in
    let qs = rests (fields_view c.args.new.now) in
    let news : refs_view c.deref.result.now ≡ gs = ap refs_view c.deref.ensures.value ∙ c.in_ok-plain.ensures in
    let found : found_view c.in_ok-found.found ≡ gathered leads gs (start fs) = c.in_ok-found.ensures ∙ ap (λ xs. gathered leads xs (start fs)) news in
    let rest : refs_view c.deref-2.result.now ≡ rs = ap refs_view c.deref-2.ensures.value ∙ c.in_ok-old_rests.ensures in
    let olds : refs_view c.deref-3.result.now ≡ fs = ap refs_view c.deref-3.ensures.value ∙ c.in_ok-old_plain.ensures in
    let plain : refs_view c.deref-4.result.now ≡ gs = ap refs_view c.deref-4.ensures.value ∙ c.in_ok-plain.ensures in
    let taken : c.is_rest_taken-taken.result ≡ (not (is_none rs) && (c.args.closed || not (names_within fs gs))) =
    c.is_rest_taken-taken.ensures ∙ (λ i. not (is_none (rest i)) && (c.args.closed || not (names_within (olds i) (plain i)))) in
    let lost : c.is_lost-lost.result ≡ (c.args.closed && not (is_none (refs_view c.in_ok-found.found.left.items))) =
    c.is_lost-lost.ensures ∙ ap (λ xs. c.args.closed && not (is_none (refs_view xs))) c.deref-5.ensures.value in
    let f = found_view c.in_ok-found.found in
    fields_say leads c.args.closed fs rs gs qs f (Some (broken_view c.in-Some.broken)) (f.pairs ++ (with_rests (written_spots f.left) qs ++ with_rests (rest_spots rs) qs)) found
    (c.in-Some.ensures ∙ (λ i. broken_by (lost i) f.once f.present (taken i))) refl

pub returns : goal.returns
returns c =
    let leads = leads_to_option (table_view c.args.table.now).models in
    let fs = plain_fields (fields_view c.args.old.now) in
    let rs = rests (fields_view c.args.old.now) in
    let gs = plain_fields (fields_view c.args.new.now) in
    let qs = rests (fields_view c.args.new.now) in
    let news : refs_view c.deref.result.now ≡ gs = ap refs_view c.deref.ensures.value ∙ c.in_ok-plain.ensures in
    let found : found_view c.in_ok-found.found ≡ gathered leads gs (start fs) = c.in_ok-found.ensures ∙ ap (λ xs. gathered leads xs (start fs)) news in
    let rest : refs_view c.deref-2.result.now ≡ rs = ap refs_view c.deref-2.ensures.value ∙ c.in_ok-old_rests.ensures in
    let olds : refs_view c.deref-3.result.now ≡ fs = ap refs_view c.deref-3.ensures.value ∙ c.in_ok-old_plain.ensures in
    let plain : refs_view c.deref-4.result.now ≡ gs = ap refs_view c.deref-4.ensures.value ∙ c.in_ok-plain.ensures in
    let taken : c.is_rest_taken-taken.result ≡ (not (is_none rs) && (c.args.closed || not (names_within fs gs))) =
    c.is_rest_taken-taken.ensures ∙ (λ i. not (is_none (rest i)) && (c.args.closed || not (names_within (olds i) (plain i)))) in
    let lost : c.is_lost-lost.result ≡ (c.args.closed && not (is_none (refs_view c.in_ok-found.found.left.items))) =
    c.is_lost-lost.ensures ∙ ap (λ xs. c.args.closed && not (is_none (refs_view xs))) c.deref-5.ensures.value in
    let f = found_view c.in_ok-found.found in
    let held : refs_view c.deref-in-None.result.now ≡ rs = ap refs_view c.deref-in-None.ensures.value ∙ c.in_ok-old_rests.ensures in
    let new_rests : refs_view c.deref-in-None-2.result.now ≡ qs = ap refs_view c.deref-in-None-2.ensures.value ∙ c.in_ok-rests.ensures in
    fields_say leads c.args.closed fs rs gs qs f None (pairs_view c.in_ok-pairs-in-None.pairs.items) found
    (c.in-None.ensures ∙ (λ i. broken_by (lost i) f.once f.present (taken i)))
    (c.in_ok-pairs-in-None.ensures ∙ (λ i. f.pairs ++ (with_rests (written_spots f.left) (new_rests i) ++ with_rests (rest_spots (held i)) (new_rests i))))
