use Rattle.std.proofs.Common.{◌≡◌, [], ◌++◌, ap, ◌∙◌, append_assoc}
use Rattle.value_models.specs.FieldView.{fields_view}
use Rattle.evolve_defs.specs.Steps.{lost_fields, plain_fields, rests}
use Rattle.evolve_ways.specs.Ways.{each_rest, field_marks, found_marks, rest_marks}
use Rattle.evolve_rows.specs.Found.{refs_view}
use Rattle.evolve_rows.specs.MarksView.{steps_view}
use Rattle.evolve_rows.proofs.marks.fields_steps.Goals as goal

pub returns : goal.returns
returns c =
    let fs = plain_fields (fields_view c.args.old.now) in
    let rs = rests (fields_view c.args.old.now) in
    let gs = plain_fields (fields_view c.args.new.now) in
    let qs = rests (fields_view c.args.new.now) in
    let olds : refs_view c.in_ok-plain.plain.items ≡ fs = c.in_ok-plain.ensures in
    let news : refs_view c.deref.result.now ≡ gs = ap refs_view c.deref.ensures.value ∙ c.in_ok-new_plain.ensures in
    let lost : refs_view c.deref-2.result.now ≡ lost_fields gs fs = ap refs_view c.deref-2.ensures.value ∙ c.in_ok-lost.ensures.left ∙ (λ i. lost_fields (news i) (olds i)) in
    let new_rests : refs_view c.deref-3.result.now ≡ qs = ap refs_view c.deref-3.ensures.value ∙ c.in_ok-rests.ensures in
    let held : refs_view c.deref-4.result.now ≡ rs = ap refs_view c.deref-4.ensures.value ∙ c.in_ok-held.ensures in
    let same_rests : refs_view c.deref-5.result.now ≡ qs = ap refs_view c.deref-5.ensures.value ∙ c.in_ok-rests.ensures in
    let none : steps_view c.new-steps.result.items ≡ [] = ap steps_view c.new-steps.ensures.items in
    let found : steps_view c.push_found.new.steps.items ≡ found_marks gs fs = c.in_ok-lost.ensures.steps ∙ (λ i. none i ++ found_marks (news i) (olds i)) in
    let more : steps_view c.push_lost.new.steps.items ≡ found_marks gs fs ++ each_rest (field_marks (lost_fields gs fs)) qs =
    c.in_ok-push_lost.ensures ∙ (λ i. found i ++ each_rest (field_marks (lost i)) (new_rests i)) in
    c.in_ok-push_held.ensures ∙ (λ i. more i ++ each_rest (rest_marks (held i)) (same_rests i))
    ∙ append_assoc (found_marks gs fs) (each_rest (field_marks (lost_fields gs fs)) qs) (each_rest (rest_marks rs) qs)
