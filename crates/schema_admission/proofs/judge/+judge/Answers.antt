use Rattle.std.proofs.Common.{◌≡◌, ◌&&◌, ◌||◌, ◌≤◌, ◌+◌, suc, sym, ap, ◌∙◌, refl, arith, rules, length, drop, option_map, map, not, bytes_eq, string_bytes}
use Rattle.std.specs.Prelude.{nat_lt, ◌==◌, if◌then◌else◌}
use Rattle.std.specs.Option.{option_copied}
use Rattle.std.specs.List.{list_all, list_any}
use Rattle.serde_json.specs.View.{items_view as items_seen, members_view as members_seen}
use Rattle.json_value.specs.Value.{value_size, items_size, members_size, text as text_value}
use Rattle.json_value.specs.View.{items_of, members_of, kept_view}
use Rattle.schema_defs.specs.Schema.{schemas}
use Rattle.schema_defs.specs.Layer.{property_at, parts_agree as parts_say, patterns_agree as patterns_say, contains_agrees as contains_says, items_agree as items_say, maybe, has_any}
use Rattle.schema_defs.specs.Admits.{counts_as_absent, admits, admits_with, allowed, parts_of, item_judges, member_parts}
use Rattle.schema_types.specs.declared.schema.Subschemas.{out-Subschemas}
use Rattle.schema_types.specs.declared.schema.ArrayValidation.{out-ArrayValidation}
use Rattle.schema_types.specs.declared.schema.ObjectValidation.{out-ObjectValidation}
use Rattle.schema_types.specs.View.{schema_view, object_view, maybe_view, maybe_list_view, same_of, subschemas_view, schemas_view, items_view, places_of, lists_of, array_view, named_of, members_view, properties_view}
use Rattle.schema_types.specs.DocumentView.{document_view}
use Rattle.schema_admission.specs.declared.wanted.Wanted.TheVariants.{Any, One}
use Rattle.schema_defs.specs.Counts.{schema_nodes, maybe_nodes, maybe_list_nodes, same_nodes, nodes as document_nodes, schemas_nodes, places_nodes, lists_nodes, named_nodes, properties_nodes}
use Rattle.schema_admission.specs.Judging.{reference_agrees, same_agrees, list_agrees as list_says, negation_agrees, admitted_count, admitting_count, maybe_seen, member_part, named_member, rules_part, places_from}
use Rattle.schema_admission.proofs.Order.{by_value, by_references, by_schema, by_rank}
use Rattle.schema_admission.proofs.Measure.{work}
use Rattle.schema_admission.proofs.Views.{plain_of, same_part, lists_part, named_part, object_size, judged-out, same-out, same_small, lists-out, array_small, members_small, object_less, one_less, one_there, many_less, items_counted, member-out, list_small, list_there}
use Rattle.schema_admission.proofs.Turns.{schemas_turn, items_turn, schemas_end, count_step, count_within, finished, enough, some_is_count, each_is_count, places_start, place_small}
use Rattle.schema_admission.proofs.Members.{given_at, property_small, unless_small, unless_maybe, both_hold, first_fails}
use Rattle.schema_admission.proofs.Parts.{array_size, object_size as members_less, target_size, anew_admits, named_split}
use Rattle.schema_admission.proofs.judge.+judge.Goals as goal

pub admits_part-judge-requires : goal.admits_part-judge-requires
admits_part-judge-requires g t c =
    let d = document_view c.args.document.now in
    let e : work d (value_size (kept_view c.args.value.now)) (allowed d) (document_nodes d) 2 ≡ t = c.decreases in
    λ κs within. (by_rank _ _ _ _ _ _ _ _ _ _ _ e (omega arith) (omega (arith, c.in_ok-left.ensures.answer)) (omega arith) (omega arith), (within, ((omega arith), omega (arith, c.in_ok-left.ensures.answer))))

pub admits_part-returns-clause-answer : goal.admits_part-returns-clause-answer
admits_part-returns-clause-answer g t c =
    c.in_ok-admitted.ensures.answer ∙ anew_admits (g.T.Texts.relations c.args.texts.now) (document_view c.args.document.now) (kept_view c.args.value.now) c.in_ok-left.left (schema_view c.args.schema.now) c.in_ok-left.ensures.answer

pub contains_agrees-count_admitted-requires : goal.contains_agrees-count_admitted-requires
contains_agrees-count_admitted-requires g t c =
    let d = document_view c.args.document.now in
    let e : work d (items_size (items_of (items_seen c.args.values.now.items))) (allowed d) (document_nodes d) 5 ≡ t = c.decreases in
    λ κs within. (by_rank _ _ _ _ _ _ _ _ _ _ _ e (omega arith) (omega arith) (omega arith) (omega arith), (within, omega (arith, ap (λ o. maybe_nodes (maybe_view o)) c.in-Some.is, ap (λ s. schema_nodes (schema_view s)) c.deref.ensures)))

pub contains_agrees-returns-in_ok-count-in-Some-clause-answer : goal.contains_agrees-returns-in_ok-count-in-Some-clause-answer
contains_agrees-returns-in_ok-count-in-Some-clause-answer g t c =
    let r = g.T.Texts.relations c.args.texts.now in
    let d = document_view c.args.document.now in
    let xs = items_of (items_seen c.args.values.now.items) in
    let s = schema_view c.in-Some.schema.value in
    let count = c.in_ok-count-in-Some.ensures.answer ∙ ap (λ b. admitted_count r d (schema_view b) xs) c.deref.ensures in
    ap (nat_lt 0) count ∙ sym (some_is_count r d s xs) ∙ ap (λ o. contains_says (item_judges r d xs) (maybe_view o)) (sym c.in-Some.is)

pub items_agree-count_admitted-requires : goal.items_agree-count_admitted-requires
items_agree-count_admitted-requires g t c =
    let d = document_view c.args.document.now in
    let e : work d (items_size (items_of (items_seen c.args.values.now.items))) (allowed d) (document_nodes d) 5 ≡ t = c.decreases in
    λ κs within. (by_rank _ _ _ _ _ _ _ _ _ _ _ e (omega arith) (omega arith) (omega arith) (omega arith), (within, omega (arith, ap (λ o. places_nodes (places_of (option_map items_view o))) c.in-Some.is, one_less c.in-Some.places c.in-One.schema c.in-One.is, ap (λ s. schema_nodes (schema_view s)) c.deref.ensures)))

pub items_agree-by_places-requires : goal.items_agree-by_places-requires
items_agree-by_places-requires g t c =
    let d = document_view c.args.document.now in
    let e : work d (items_size (items_of (items_seen c.args.values.now.items))) (allowed d) (document_nodes d) 5 ≡ t = c.decreases in
    λ κs within. (by_rank _ _ _ _ _ _ _ _ _ _ _ e (omega arith) (omega arith) (omega arith) (omega arith), (within, (omega (arith, ap (λ o. places_nodes (places_of (option_map items_view o))) c.in-Some.is, many_less c.in-Some.places c.in-Many.schemas c.in-Many.is), (omega arith))))

pub count_admitted-admits_part-requires : goal.count_admitted-admits_part-requires
count_admitted-admits_part-requires g t c =
    let d = document_view c.args.document.now in
    let e : work d (items_size (items_of (items_seen c.args.values.now.items))) (allowed d) (document_nodes d) 4 ≡ t = c.decreases in
    let turn = items_turn c.deref-value-items.result.now c.args.values.now.items c.loop-value.value-index c.value-item.result c.deref-value-items.ensures.value (omega arith) c.value-item.is in
    λ κs within. (by_rank _ _ _ _ _ _ _ _ _ _ _ e (omega (arith, ap items_size turn)) (omega arith) (omega arith) (omega arith), (within, (omega arith)))

pub count_admitted-loop-value-preserved : goal.count_admitted-loop-value-preserved
count_admitted-loop-value-preserved g t c =
    let r = g.T.Texts.relations c.args.texts.now in
    let d = document_view c.args.document.now in
    let s = schema_view c.args.schema.now in
    let x = kept_view c.value-item.result in
    let turn = items_turn c.deref-value-items.result.now c.args.values.now.items c.loop-value.value-index c.value-item.result c.deref-value-items.ensures.value (omega arith) c.value-item.is in
    let n = c.loop-value.count in
    let m = admitted_count r d s (items_of (items_seen (drop (c.loop-value.value-index + 1) c.args.values.now.items))) in
    let b = c.in_ok-admitted.admitted in
    let said = c.in_ok-admitted.ensures.answer ∙ ap (λ q. admits q d x s) c.loop-value.invariant.keeps in
    let counted = ap (λ q. n + (if q then suc m else m)) said ∙ ap (λ vs. n + admitted_count r d s vs) (sym turn) ∙ c.loop-value.invariant.counted in record {
      counted = count_step b n m c.counted-count.result _ c.counted-count.ensures counted;
      within = count_within b n c.counted-count.result c.loop-value.value-index c.counted-count.ensures c.loop-value.invariant.within;
      small = omega (arith, ap items_size turn, c.loop-value.invariant.small);
      keeps = c.in_ok-admitted.ensures.keeps ∙ c.loop-value.invariant.keeps;
      counts = omega (arith, c.in_ok-admitted.ensures.counts, c.loop-value.invariant.counts);
    }

pub by_places-maybe_agrees-requires : goal.by_places-maybe_agrees-requires
by_places-maybe_agrees-requires g t c =
    let d = document_view c.args.document.now in
    let e : work d (items_size (items_of (items_seen c.args.values.now.items))) (allowed d) (document_nodes d) 4 ≡ t = c.decreases in
    let turn = items_turn c.deref-value-items.result.now c.args.values.now.items c.loop-place.place c.value-item.result c.deref-value-items.ensures.value (omega arith) c.value-item.is in
    λ κs within. (by_rank _ _ _ _ _ _ _ _ _ _ _ e (omega (arith, ap items_size turn)) (omega arith) (omega arith) (omega arith), (within, omega (arith, ap maybe_nodes c.at_place-schema.ensures, place_small (schemas (schemas_view c.args.schemas.now.items)) (maybe_view c.args.rest.now) c.loop-place.place (document_nodes d) c.requires.places c.requires.rest)))

pub items_agree-returns-in_ok-count-in-One-clause-answer : goal.items_agree-returns-in_ok-count-in-One-clause-answer
items_agree-returns-in_ok-count-in-One-clause-answer g t c =
    let r = g.T.Texts.relations c.args.texts.now in
    let d = document_view c.args.document.now in
    let xs = items_of (items_seen c.args.values.now.items) in
    let s = schema_view c.in-One.schema.value in
    let count = c.in_ok-count-in-One.ensures.answer ∙ ap (λ b. admitted_count r d (schema_view b) xs) c.deref.ensures in
    let held : c.len.result ≡ length c.args.values.now.items = omega (arith, c.len.ensures, c.args.values.now.ok.0) in
    let most = held ∙ items_counted c.args.values.now.items in
    (λ i. count i == most i) ∙ sym (each_is_count r d s xs)
    ∙ ap (λ p. items_say (item_judges r d xs) p (maybe_view c.args.rest.now)) (sym (one_there c.args.items.now c.in-Some.places c.in-One.schema c.in-Some.is c.in-One.is))

pub by_places-loop-place-preserved : goal.by_places-loop-place-preserved
by_places-loop-place-preserved g t c =
    let r = g.T.Texts.relations c.args.texts.now in
    let d = document_view c.args.document.now in
    let turn = items_turn c.deref-value-items.result.now c.args.values.now.items c.loop-place.place c.value-item.result c.deref-value-items.ensures.value (omega arith) c.value-item.is in
    let n = c.loop-place.place in
    let x = kept_view c.value-item.result in
    let ss = schemas (schemas_view c.args.schemas.now.items) in
    let last = maybe_view c.args.rest.now in
    let others = items_of (items_seen (drop (n + 1) c.args.values.now.items)) in
    let said = c.in_ok-maybe_agrees.ensures.answer ∙ ap (λ q. maybe (admits q d x) (maybe_seen (option_copied c.at_place-schema.result))) c.loop-place.invariant.keeps ∙ ap (maybe (admits r d x)) c.at_place-schema.ensures in
    let holds = sym said ∙ c.if-not-branch.false in
    let next : suc n ≡ n + 1 = omega arith in record {
      judged = c.loop-place.invariant.judged ∙ ap (λ vs. places_from (item_judges r d vs) ss last n) turn ∙ ap (λ b. b && places_from (item_judges r d others) ss last (suc n)) holds ∙ ap (places_from (item_judges r d others) ss last) next;
      small = omega (arith, ap items_size turn, c.loop-place.invariant.small);
      keeps = c.in_ok-maybe_agrees.ensures.keeps ∙ c.loop-place.invariant.keeps;
      counts = omega (arith, c.in_ok-maybe_agrees.ensures.counts, c.loop-place.invariant.counts);
    }

pub by_places-loop-place-init : goal.by_places-loop-place-init
by_places-loop-place-init g t c =
    let r = g.T.Texts.relations c.args.texts.now in
    let d = document_view c.args.document.now in
    let xs = items_of (items_seen c.args.values.now.items) in
    record { judged = places_start (item_judges r d xs) (schemas (schemas_view c.args.schemas.now.items)) (maybe_view c.args.rest.now); small = search rules; keeps = refl; counts = search rules }

pub follow-judge-requires : goal.follow-judge-requires
follow-judge-requires g t c =
    let d = document_view c.args.document.now in
    let e : work d (value_size (kept_view c.args.value.now)) c.args.left 0 0 ≡ t = c.decreases in
    let small = target_size d c.deref.result.now (schema_view c.in-Some-target.schema.now) (sym c.in-Some-target.ensures) in
    λ κs within. (by_references _ _ _ _ _ _ _ _ _ _ _ e (omega arith) (omega (arith, c.if-left-eq0.false)) small (omega arith), (within, (small, (omega arith))))

pub judge-judge_object-requires : goal.judge-judge_object-requires
judge-judge_object-requires g t c =
    let d = document_view c.args.document.now in
    let e : work d (value_size (kept_view c.args.value.now)) c.args.left (schema_nodes (schema_view c.args.schema.now)) 1 ≡ t = c.decreases in
    let less : schema_nodes (schema_view c.args.schema.now) ≡ schema_nodes (object_view c.deref.result.now) = object_less c.args.schema.now c.in-Object.object c.in-Object.is ∙ ap (λ o. schema_nodes (object_view o)) (sym c.deref.ensures) in
    λ κs within. (by_rank _ _ _ _ _ _ _ _ _ _ _ e (omega arith) (omega arith) (omega (arith, less)) (omega arith), (within, (omega (arith, less), (omega arith))))

pub judge_object-follow-requires : goal.judge_object-follow-requires
judge_object-follow-requires g t c =
    let d = document_view c.args.document.now in
    let e : work d (value_size (kept_view c.args.value.now)) c.args.left (schema_nodes (object_view c.args.object.now)) 0 ≡ t = c.decreases in
    λ κs within. (by_schema _ _ _ _ _ _ _ _ _ _ _ e (omega arith) (omega arith) (omega (arith, object_size c.args.object.now)) (omega arith), (within, (omega arith)))

pub judge_object-parts_agree-requires : goal.judge_object-parts_agree-requires
judge_object-parts_agree-requires g t c =
    let d = document_view c.args.document.now in
    let e : work d (value_size (kept_view c.args.value.now)) c.args.left (schema_nodes (object_view c.args.object.now)) 0 ≡ t = c.decreases in
    λ κs within. (by_schema _ _ _ _ _ _ _ _ _ _ _ e (omega arith) (omega arith) (omega (arith, object_size c.args.object.now)) (omega arith), (within, ((omega (arith, object_size c.args.object.now)), (omega (arith, object_size c.args.object.now)))))

pub judge_object-judge_same-requires : goal.judge_object-judge_same-requires
judge_object-judge_same-requires g t c =
    let d = document_view c.args.document.now in
    let e : work d (value_size (kept_view c.args.value.now)) c.args.left (schema_nodes (object_view c.args.object.now)) 0 ≡ t = c.decreases in
    λ κs within. (by_schema _ _ _ _ _ _ _ _ _ _ _ e (omega arith) (omega arith) (omega (arith, object_size c.args.object.now)) (omega arith), (within, ((omega (arith, object_size c.args.object.now)), (omega arith))))

pub judge_object-returns-clause-answer : goal.judge_object-returns-clause-answer
judge_object-returns-clause-answer g t c =
    let r = g.T.Texts.relations c.args.texts.now in
    let d = document_view c.args.document.now in
    let v = kept_view c.args.value.now in
    let o = c.args.object.now in
    let first = c.in_ok-plain.ensures.keeps in
    let second = c.in_ok-reference.ensures.keeps ∙ first in
    let third = c.in_ok-parts.ensures.keeps ∙ second in
    let reference = c.in_ok-reference.ensures.answer ∙ ap (λ r. reference_agrees r d c.args.left v (plain_of o).reference) first in
    let parts = c.in_ok-parts.ensures.answer ∙ ap (λ r. parts_say r v (parts_of r d v) (lists_part o) (named_part o)) second in
    let same = c.in_ok-same.ensures.answer ∙ ap (λ r. same_agrees r d c.args.left v (same_part o)) third in
    c.all_of.ensures ∙ (λ i. c.in_ok-plain.ensures.answer i && reference i && parts i && same i) ∙ sym (judged-out r d c.args.left v o)

pub judge_same-list_agrees-requires : goal.judge_same-list_agrees-requires
judge_same-list_agrees-requires g t c =
    let d = document_view c.args.document.now in
    let e : work d (value_size (kept_view c.args.value.now)) c.args.left (same_nodes (same_of (option_map subschemas_view c.args.subschemas.now))) 3 ≡ t = c.decreases in
    λ κs within. (by_rank _ _ _ _ _ _ _ _ _ _ _ e (omega arith) (omega arith) (omega (arith, same_small c.args.subschemas.now c.in-Some.lists c.in-Some.is)) (omega arith), (within, ((omega (arith, same_small c.args.subschemas.now c.in-Some.lists c.in-Some.is)), (omega arith))))

pub judge_same-list_agrees-requires-2 : goal.judge_same-list_agrees-requires-2
judge_same-list_agrees-requires-2 g t c =
    let d = document_view c.args.document.now in
    let e : work d (value_size (kept_view c.args.value.now)) c.args.left (same_nodes (same_of (option_map subschemas_view c.args.subschemas.now))) 3 ≡ t = c.decreases in
    λ κs within. (by_rank _ _ _ _ _ _ _ _ _ _ _ e (omega arith) (omega arith) (omega (arith, same_small c.args.subschemas.now c.in-Some.lists c.in-Some.is)) (omega arith), (within, ((omega (arith, same_small c.args.subschemas.now c.in-Some.lists c.in-Some.is)), (omega arith))))

pub judge_same-list_agrees-requires-3 : goal.judge_same-list_agrees-requires-3
judge_same-list_agrees-requires-3 g t c =
    let d = document_view c.args.document.now in
    let e : work d (value_size (kept_view c.args.value.now)) c.args.left (same_nodes (same_of (option_map subschemas_view c.args.subschemas.now))) 3 ≡ t = c.decreases in
    λ κs within. (by_rank _ _ _ _ _ _ _ _ _ _ _ e (omega arith) (omega arith) (omega (arith, same_small c.args.subschemas.now c.in-Some.lists c.in-Some.is)) (omega arith), (within, ((omega (arith, same_small c.args.subschemas.now c.in-Some.lists c.in-Some.is)), (omega arith))))

pub judge_same-not_agrees-requires : goal.judge_same-not_agrees-requires
judge_same-not_agrees-requires g t c =
    let d = document_view c.args.document.now in
    let e : work d (value_size (kept_view c.args.value.now)) c.args.left (same_nodes (same_of (option_map subschemas_view c.args.subschemas.now))) 3 ≡ t = c.decreases in
    λ κs within. (by_rank _ _ _ _ _ _ _ _ _ _ _ e (omega arith) (omega arith) (omega (arith, same_small c.args.subschemas.now c.in-Some.lists c.in-Some.is)) (omega arith), (within, ((omega (arith, same_small c.args.subschemas.now c.in-Some.lists c.in-Some.is)), (omega arith))))

pub judge_same-returns-clause-answer : goal.judge_same-returns-clause-answer
judge_same-returns-clause-answer g t c =
    let r = g.T.Texts.relations c.args.texts.now in
    let d = document_view c.args.document.now in
    let v = kept_view c.args.value.now in
    let s = out-Subschemas c.in-Some.lists in
    let first = c.in_ok-all.ensures.keeps in
    let second = c.in_ok-any.ensures.keeps ∙ first in
    let third = c.in_ok-one.ensures.keeps ∙ second in
    let any = c.in_ok-any.ensures.answer ∙ ap (λ r. list_says r d Any c.args.left v (maybe_list_view (option_map (λ v. v.items) s.any_of))) first in
    let one = c.in_ok-one.ensures.answer ∙ ap (λ r. list_says r d One c.args.left v (maybe_list_view (option_map (λ v. v.items) s.one_of))) second in
    let none = c.in_ok-not.ensures.answer ∙ ap (λ r. negation_agrees r d c.args.left v (maybe_view s.not)) third in
    c.all_of.ensures ∙ (λ i. c.in_ok-all.ensures.answer i && any i && one i && none i) ∙ sym (same-out r d c.args.left v c.args.subschemas.now c.in-Some.lists c.in-Some.is)

pub list_agrees-judge-requires : goal.list_agrees-judge-requires
list_agrees-judge-requires g t c =
    let d = document_view c.args.document.now in
    let e : work d (value_size (kept_view c.args.value.now)) c.args.left (maybe_list_nodes (maybe_list_view (option_map (λ v. v.items) c.args.schemas.now))) 2 ≡ t = c.decreases in
    let whole = list_small c.args.schemas.now c.in-Some.schemas c.in-Some.is in
    let turn = schemas_turn c.deref-schema-items.result.now c.in-Some.schemas.items c.loop-schema.schema-index c.schema-item.result c.deref-schema-items.ensures.value (omega arith) c.schema-item.is in
    λ κs within. (by_rank _ _ _ _ _ _ _ _ _ _ _ e (omega arith) (omega arith) (omega (arith, whole, ap schemas_nodes turn)) (omega arith), (within, (omega (arith, whole, ap schemas_nodes turn), (omega arith))))

pub list_agrees-loop-schema-preserved : goal.list_agrees-loop-schema-preserved
list_agrees-loop-schema-preserved g t c =
    let r = g.T.Texts.relations c.args.texts.now in
    let d = document_view c.args.document.now in
    let v = kept_view c.args.value.now in
    let turn = schemas_turn c.deref-schema-items.result.now c.in-Some.schemas.items c.loop-schema.schema-index c.schema-item.result c.deref-schema-items.ensures.value (omega arith) c.schema-item.is in
    let s = schema_view c.schema-item.result in
    let n = c.loop-schema.count in
    let m = admitting_count r d c.args.left v (schemas (schemas_view (drop (c.loop-schema.schema-index + 1) c.in-Some.schemas.items))) in
    let b = c.in_ok-admitted.admitted in
    let said = c.in_ok-admitted.ensures.answer ∙ ap (λ q. admits_with q d c.args.left v s) c.loop-schema.invariant.keeps in
    let counted = ap (λ q. n + (if q then suc m else m)) said ∙ ap (λ ss. n + admitting_count r d c.args.left v ss) (sym turn) ∙ c.loop-schema.invariant.counted in record {
      counted = count_step b n m c.counted-count.result _ c.counted-count.ensures counted;
      within = count_within b n c.counted-count.result c.loop-schema.schema-index c.counted-count.ensures c.loop-schema.invariant.within;
      small = omega (arith, ap schemas_nodes turn, c.loop-schema.invariant.small);
      keeps = c.in_ok-admitted.ensures.keeps ∙ c.loop-schema.invariant.keeps;
      counts = omega (arith, c.in_ok-admitted.ensures.counts, c.loop-schema.invariant.counts);
    }

pub list_agrees-returns-clause-answer : goal.list_agrees-returns-clause-answer
list_agrees-returns-clause-answer g t c =
    let r = g.T.Texts.relations c.args.texts.now in
    let d = document_view c.args.document.now in
    let v = kept_view c.args.value.now in
    let ss = c.in-Some.schemas.items in
    let past : length ss ≤ c.loop-schema.schema-index = omega (arith, ap length c.deref-schema-items.ensures.value) in
    let none = ap (admitting_count r d c.args.left v) (schemas_end ss c.loop-schema.schema-index past) in
    let counted = finished c.loop-schema.count _ _ none c.loop-schema.invariant.counted in
    let most : c.len.result ≡ length ss = omega (arith, c.len.ensures, c.in-Some.schemas.ok.0) in
    c.is_enough.ensures ∙ enough r d c.args.wanted c.args.left v ss c.loop-schema.count c.len.result counted most ∙ list_there r d c.args.wanted c.args.left v c.args.schemas.now c.in-Some.schemas c.in-Some.is

pub lists_agree-items_agree-requires : goal.lists_agree-items_agree-requires
lists_agree-items_agree-requires g t c =
    let d = document_view c.args.document.now in
    let e : work d (items_size (items_of (items_seen c.args.values.now.items))) (allowed d) (document_nodes d) 6 ≡ t = c.decreases in
    λ κs within. (by_rank _ _ _ _ _ _ _ _ _ _ _ e (omega arith) (omega arith) (omega arith) (omega arith), (within, ((omega (arith, array_small c.args.array.now)), (omega (arith, array_small c.args.array.now)))))

pub lists_agree-contains_agrees-requires : goal.lists_agree-contains_agrees-requires
lists_agree-contains_agrees-requires g t c =
    let d = document_view c.args.document.now in
    let e : work d (items_size (items_of (items_seen c.args.values.now.items))) (allowed d) (document_nodes d) 6 ≡ t = c.decreases in
    λ κs within. (by_rank _ _ _ _ _ _ _ _ _ _ _ e (omega arith) (omega arith) (omega arith) (omega arith), (within, (omega (arith, array_small c.args.array.now))))

pub lists_agree-returns-clause-answer : goal.lists_agree-returns-clause-answer
lists_agree-returns-clause-answer g t c =
    let r = g.T.Texts.relations c.args.texts.now in
    let d = document_view c.args.document.now in
    let xs = items_of (items_seen c.args.values.now.items) in
    let a = out-ArrayValidation c.args.array.now in
    let counted : c.len.result ≡ length c.args.values.now.items = omega (arith, c.len.ensures, c.args.values.now.ok.0) in
    let contains = c.in_ok-contains.ensures.answer ∙ ap (λ r. contains_says (item_judges r d xs) (maybe_view a.contains)) c.in_ok-items.ensures.keeps in
    c.all_of.ensures ∙ (λ i. c.in_ok-items.ensures.answer i && contains i && c.is_within-sized.ensures i && c.is_distinct-distinct.ensures i)
    ∙ lists-out c.args.array.now c.args.values.now.items (item_judges r d xs) c.len.result counted

pub maybe_agrees-admits_part-requires : goal.maybe_agrees-admits_part-requires
maybe_agrees-admits_part-requires g t c =
    let d = document_view c.args.document.now in
    let e : work d (value_size (kept_view c.args.value.now)) (allowed d) (document_nodes d) 3 ≡ t = c.decreases in
    λ κs within. (by_rank _ _ _ _ _ _ _ _ _ _ _ e (omega arith) (omega arith) (omega arith) (omega arith), (within, omega (arith, ap (λ o. maybe_nodes (maybe_seen (option_copied o))) c.in-Some.is)))

pub members_agree-member_agrees-requires : goal.members_agree-member_agrees-requires
members_agree-member_agrees-requires g t c =
    let d = document_view c.args.document.now in
    let e : work d (members_size (members_of (members_seen c.args.members.now.entries))) (allowed d) (document_nodes d) 6 ≡ t = c.decreases in
    λ κs within. (by_rank _ _ _ _ _ _ _ _ _ _ _ e (omega (arith, ap (λ es. members_size (members_of (members_seen es))) c.in-Some.ensures.steps)) (omega arith) (omega arith) (omega arith), (within, (omega arith)))

pub members_agree-returns-clause-answer : goal.members_agree-returns-clause-answer
members_agree-returns-clause-answer g t c =
    let r = g.T.Texts.relations c.args.texts.now in
    let d = document_view c.args.document.now in
    let n = members_view c.args.object.now in
    let says = named_member r d n in
    let ms = members_of (members_seen c.args.members.now.entries) in
    let done = c.loop-name.invariant.judged ∙ ap (λ es. list_all says (member_parts r d (members_of (members_seen es)))) c.in-None.ensures.steps.0 in
    both_hold _ _ done (sym c.rules_agree.ensures ∙ c.if-not-rules_agree.false) ∙ sym (named_split r d ms n)

pub members_agree-returns-then-not-branch-clause-answer : goal.members_agree-returns-then-not-branch-clause-answer
members_agree-returns-then-not-branch-clause-answer g t c =
    let r = g.T.Texts.relations c.args.texts.now in
    let d = document_view c.args.document.now in
    let n = members_view c.args.object.now in
    let says = named_member r d n in
    let ms = members_of (members_seen c.args.members.now.entries) in
    let v = kept_view c.in-Some.value.now in
    let said = c.in_ok-member_agrees.ensures.answer ∙ ap (λ q. named_member q d n (member_part q d c.deref.result.now v)) c.loop-name.invariant.keeps ∙ ap (λ k. says (member_part r d k v)) c.deref.ensures in
    let rest = list_all says (member_parts r d (members_of (members_seen c.next.new.self))) in
    let fails = c.loop-name.invariant.judged ∙ ap (λ es. list_all says (member_parts r d (members_of (members_seen es)))) c.in-Some.ensures.steps ∙ ap (λ b. b && rest) (sym said ∙ c.if-not-branch.true) in
    first_fails _ (rules_part ms n) fails ∙ sym (named_split r d ms n)

pub member_agrees-maybe_agrees-requires : goal.member_agrees-maybe_agrees-requires
member_agrees-maybe_agrees-requires g t c =
    let d = document_view c.args.document.now in
    let e : work d (1 + value_size (kept_view c.args.value.now)) (allowed d) (document_nodes d) 5 ≡ t = c.requires.1.0 in
    let o = out-ObjectValidation c.args.object.now in
    let sizes = members_small c.args.object.now in
    let property = property_at c.args.name.now (properties_view o.properties.entries) in
    λ κs within. (by_rank _ _ _ _ _ _ _ _ _ _ _ e (omega arith) (omega arith) (omega arith) (omega arith), (within, omega (arith, ap maybe_nodes c.property_unless-property.ensures, unless_small c.is_passed_over-passed.result property, property_small c.args.name.now (properties_view o.properties.entries), sizes)))

pub member_agrees-patterns_agree-requires : goal.member_agrees-patterns_agree-requires
member_agrees-patterns_agree-requires g t c =
    let d = document_view c.args.document.now in
    let e : work d (1 + value_size (kept_view c.args.value.now)) (allowed d) (document_nodes d) 5 ≡ t = c.requires.1.0 in
    let o = out-ObjectValidation c.args.object.now in
    let sizes = members_small c.args.object.now in
    λ κs within. (by_rank _ _ _ _ _ _ _ _ _ _ _ e (omega arith) (omega arith) (omega arith) (omega arith), (within, omega (arith, sizes)))

pub member_agrees-maybe_agrees-requires-2 : goal.member_agrees-maybe_agrees-requires-2
member_agrees-maybe_agrees-requires-2 g t c =
    let d = document_view c.args.document.now in
    let e : work d (1 + value_size (kept_view c.args.value.now)) (allowed d) (document_nodes d) 5 ≡ t = c.requires.1.0 in
    let o = out-ObjectValidation c.args.object.now in
    let sizes = members_small c.args.object.now in
    λ κs within. (by_rank _ _ _ _ _ _ _ _ _ _ _ e (omega arith) (omega arith) (omega arith) (omega arith), (within, omega (arith, ap maybe_nodes c.unless-rest.ensures, unless_small c.either.result (maybe_view o.additional_properties), sizes)))

pub member_agrees-maybe_agrees-requires-3 : goal.member_agrees-maybe_agrees-requires-3
member_agrees-maybe_agrees-requires-3 g t c =
    let d = document_view c.args.document.now in
    let e : work d (1 + value_size (kept_view c.args.value.now)) (allowed d) (document_nodes d) 5 ≡ t = c.requires.1.0 in
    let o = out-ObjectValidation c.args.object.now in
    let sizes = members_small c.args.object.now in
    λ κs within. (by_rank _ _ _ _ _ _ _ _ _ _ _ e (omega (arith, ap value_size c.in_ok-text.ensures.answer)) (omega arith) (omega arith) (omega arith), (within, omega (arith, ap maybe_nodes c.unless-names.ensures, sizes)))

pub member_agrees-returns-clause-answer : goal.member_agrees-returns-clause-answer
member_agrees-returns-clause-answer g t c =
    let r = g.T.Texts.relations c.args.texts.now in
    let d = document_view c.args.document.now in
    let v = kept_view c.args.value.now in
    let o = out-ObjectValidation c.args.object.now in
    let n = c.args.name.now in
    let j = admits r d v in
    let props = properties_view o.properties.entries in
    let patterns = properties_view o.pattern_properties.entries in
    let required = map string_bytes o.required.keys in
    let passed_over = c.is_passed_over-passed.ensures ∙ ap (λ s. counts_as_absent s v && not (list_any (bytes_eq n) required)) c.setting.ensures in
    let first = c.in_ok-by_name.ensures.keeps in
    let second = c.in_ok-by_pattern.ensures.keeps ∙ first in
    let third = c.in_ok-matched.ensures.keeps ∙ second in
    let fourth = c.in_ok-by_rest.ensures.keeps ∙ third in
    let by_name = c.in_ok-by_name.ensures.answer ∙ ap (maybe j) c.property_unless-property.ensures
    ∙ unless_maybe c.is_passed_over-passed.result j (property_at n props) ∙ ap (λ b. b || maybe j (property_at n props)) passed_over in
    let by_pattern = c.in_ok-by_pattern.ensures.answer ∙ ap (λ q. patterns_say (λ p. q.matches p n) (admits q d v) patterns) first in
    let matched = c.in_ok-matched.ensures.answer ∙ ap (λ q. has_any (λ p. q.matches p n) patterns) second in
    let passed = c.either.ensures ∙ (λ i. (c.contains_key-is_named.ensures ∙ given_at n o.properties.entries) i || matched i) in
    let by_rest = c.in_ok-by_rest.ensures.answer ∙ ap (λ q. maybe (admits q d v) (maybe_seen (option_copied c.unless-rest.result))) third ∙ ap (maybe j) c.unless-rest.ensures
    ∙ unless_maybe c.either.result j (maybe_view o.additional_properties) ∙ ap (λ b. b || maybe j (maybe_view o.additional_properties)) passed in
    let by_names = c.in_ok-by_names.ensures.answer ∙ ap (λ q. maybe (admits q d (kept_view c.in_ok-text.text)) (maybe_seen (option_copied c.unless-names.result))) fourth
    ∙ ap (λ x. maybe (admits r d x) (maybe_seen (option_copied c.unless-names.result))) c.in_ok-text.ensures.answer ∙ ap (maybe (admits r d (text_value n))) c.unless-names.ensures in
    c.all_of.ensures ∙ (λ i. by_name i && by_pattern i && by_rest i && by_names i) ∙ sym (member-out r d c.args.object.now (member_part r d n v))

pub not_agrees-judge-requires : goal.not_agrees-judge-requires
not_agrees-judge-requires g t c =
    let d = document_view c.args.document.now in
    let e : work d (value_size (kept_view c.args.value.now)) c.args.left (maybe_nodes (maybe_view c.args.not.now)) 2 ≡ t = c.decreases in
    λ κs within. (by_rank _ _ _ _ _ _ _ _ _ _ _ e (omega arith) (omega arith) (omega (arith, ap (λ o. maybe_nodes (maybe_view o)) c.in-Some.is, ap (λ s. schema_nodes (schema_view s)) c.deref.ensures)) (omega arith), (within, (omega (arith, ap (λ o. maybe_nodes (maybe_view o)) c.in-Some.is, ap (λ s. schema_nodes (schema_view s)) c.deref.ensures), (omega arith))))

pub parts_agree-lists_agree-requires : goal.parts_agree-lists_agree-requires
parts_agree-lists_agree-requires g t c =
    let d = document_view c.args.document.now in
    let e : work d (value_size (kept_view c.args.value.now)) 0 0 0 ≡ t = c.decreases in
    λ κs within. (by_value _ _ _ _ _ _ _ _ _ _ _ e (array_size c.args.value.now c.in-Array-Some-default.values c.in-Array-Some-default.is-0) (omega arith) (omega arith) (omega arith), (within, omega (arith, ap (λ o. lists_nodes (lists_of (option_map array_view o))) c.in-Array-Some-default.is-1)))

pub parts_agree-members_agree-requires : goal.parts_agree-members_agree-requires
parts_agree-members_agree-requires g t c =
    let d = document_view c.args.document.now in
    let e : work d (value_size (kept_view c.args.value.now)) 0 0 0 ≡ t = c.decreases in
    λ κs within. (by_value _ _ _ _ _ _ _ _ _ _ _ e (members_less c.args.value.now c.in-Object-default-Some.members c.in-Object-default-Some.is-0) (omega arith) (omega arith) (omega arith), (within, omega (arith, ap (λ o. named_nodes (named_of (option_map members_view o))) c.in-Object-default-Some.is-2)))

pub patterns_agree-admits_part-requires : goal.patterns_agree-admits_part-requires
patterns_agree-admits_part-requires g t c =
    let d = document_view c.args.document.now in
    let e : work d (value_size (kept_view c.args.value.now)) (allowed d) (document_nodes d) 4 ≡ t = c.requires.1.0 in
    λ κs within. (by_rank _ _ _ _ _ _ _ _ _ _ _ e (omega arith) (omega arith) (omega arith) (omega arith), (within, omega (arith, ap (λ es. properties_nodes (properties_view es)) c.in-Some.ensures.steps)))
