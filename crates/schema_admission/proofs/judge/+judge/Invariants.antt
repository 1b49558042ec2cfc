use Rattle.std.proofs.Common.{◌≡◌, ℕ, List, Bool, ◌≤◌, ◌+◌, drop, option_map}
use Rattle.std.specs.List.{list_all}
use Rattle.serde_json.specs.View.{members_view as members_seen, items_view as items_seen}
use Rattle.json_value.specs.Value.{value_size, items_size, members_size}
use Rattle.json_value.specs.View.{items_of, members_of, kept_view}
use Rattle.schema_defs.specs.Schema.{schemas}
use Rattle.schema_defs.specs.Layer.{Judge, by_places as by_places_in, patterns_agree as patterns_say}
use Rattle.schema_defs.specs.Admits.{admits as admits_in, item_judges, member_parts}
use Rattle.schema_types.specs.View.{schema_view, object_view, schemas_view, maybe_view, maybe_list_view, subschemas_view, same_of, members_view, properties_view}
use Rattle.schema_types.specs.DocumentView.{document_view}
use Rattle.schema_defs.specs.Counts.{schema_nodes, schemas_nodes, maybe_nodes, maybe_list_nodes, same_nodes, properties_nodes}
use Rattle.schema_admission.specs.Judging.{admitted_count, admitting_count, named_member, places_from}
use Rattle.schema_admission.proofs.Measure.{work, anew}
use Rattle.schema_admission.proofs.judge.+judge.Given as goal

abbrev pub decreases-admits_part : goal.decreases-admits_part
decreases-admits_part g l = anew (document_view l.document.now) (value_size (kept_view l.value.now)) 2

abbrev pub decreases-judge : goal.decreases-judge
decreases-judge g l = work (document_view l.document.now) (value_size (kept_view l.value.now)) l.left (schema_nodes (schema_view l.schema.now)) 1

abbrev pub decreases-judge_object : goal.decreases-judge_object
decreases-judge_object g l = work (document_view l.document.now) (value_size (kept_view l.value.now)) l.left (schema_nodes (object_view l.object.now)) 0

abbrev pub decreases-follow : goal.decreases-follow
decreases-follow g l = work (document_view l.document.now) (value_size (kept_view l.value.now)) l.left 0 0

abbrev pub decreases-parts_agree : goal.decreases-parts_agree
decreases-parts_agree g l = work (document_view l.document.now) (value_size (kept_view l.value.now)) 0 0 0

abbrev pub decreases-judge_same : goal.decreases-judge_same
decreases-judge_same g l = work (document_view l.document.now) (value_size (kept_view l.value.now)) l.left (same_nodes (same_of (option_map subschemas_view l.subschemas.now))) 3

abbrev pub decreases-list_agrees : goal.decreases-list_agrees
decreases-list_agrees g l = work (document_view l.document.now) (value_size (kept_view l.value.now)) l.left (maybe_list_nodes (maybe_list_view (option_map (λ v. v.items) l.schemas.now))) 2

abbrev pub decreases-not_agrees : goal.decreases-not_agrees
decreases-not_agrees g l = work (document_view l.document.now) (value_size (kept_view l.value.now)) l.left (maybe_nodes (maybe_view l.not.now)) 2

abbrev pub decreases-maybe_agrees : goal.decreases-maybe_agrees
decreases-maybe_agrees g l = anew (document_view l.document.now) (value_size (kept_view l.value.now)) 3

abbrev pub decreases-lists_agree : goal.decreases-lists_agree
decreases-lists_agree g l = anew (document_view l.document.now) (items_size (items_of (items_seen l.values.now.items))) 6

abbrev pub decreases-items_agree : goal.decreases-items_agree
decreases-items_agree g l = anew (document_view l.document.now) (items_size (items_of (items_seen l.values.now.items))) 5

abbrev pub decreases-contains_agrees : goal.decreases-contains_agrees
decreases-contains_agrees g l = anew (document_view l.document.now) (items_size (items_of (items_seen l.values.now.items))) 5

abbrev pub decreases-count_admitted : goal.decreases-count_admitted
decreases-count_admitted g l = anew (document_view l.document.now) (items_size (items_of (items_seen l.values.now.items))) 4

abbrev pub decreases-by_places : goal.decreases-by_places
decreases-by_places g l = anew (document_view l.document.now) (items_size (items_of (items_seen l.values.now.items))) 4

abbrev pub decreases-members_agree : goal.decreases-members_agree
decreases-members_agree g l = anew (document_view l.document.now) (members_size (members_of (members_seen l.members.now.entries))) 6

abbrev pub decreases-member_agrees : goal.decreases-member_agrees
decreases-member_agrees g l = anew (document_view l.document.now) (1 + value_size (kept_view l.value.now)) 5

abbrev pub decreases-patterns_agree : goal.decreases-patterns_agree
decreases-patterns_agree g l = anew (document_view l.document.now) (value_size (kept_view l.value.now)) 4

abbrev pub invariant-list_agrees-loop-schema : goal.invariant-list_agrees-loop-schema
invariant-list_agrees-loop-schema g l =
    let r = g.T.Texts.relations l.initial.texts in
    let d = document_view l.document in
    let v = kept_view l.value in
    let rest = schemas (schemas_view (drop l.schema-index l.schemas.items)) in
    let whole = schemas (schemas_view l.schemas.items) in record {
      counted : l.count + admitting_count r d l.left v rest ≡ admitting_count r d l.left v whole;
      within : l.count ≤ l.schema-index;
      small : schemas_nodes rest ≤ schemas_nodes whole;
      keeps : g.T.Texts.relations l.texts ≡ r;
      counts : g.T.Texts.faults l.initial.texts ≤ g.T.Texts.faults l.texts;
    }

abbrev pub invariant-count_admitted-loop-value : goal.invariant-count_admitted-loop-value
invariant-count_admitted-loop-value g l =
    let r = g.T.Texts.relations l.initial.texts in
    let d = document_view l.document in
    let s = schema_view l.schema in
    let rest = items_of (items_seen (drop l.value-index l.values.items)) in
    let whole = items_of (items_seen l.values.items) in record {
      counted : l.count + admitted_count r d s rest ≡ admitted_count r d s whole;
      within : l.count ≤ l.value-index;
      small : items_size rest ≤ items_size whole;
      keeps : g.T.Texts.relations l.texts ≡ r;
      counts : g.T.Texts.faults l.initial.texts ≤ g.T.Texts.faults l.texts;
    }

abbrev pub invariant-by_places-loop-place : goal.invariant-by_places-loop-place
invariant-by_places-loop-place g l =
    let r = g.T.Texts.relations l.initial.texts in
    let d = document_view l.document in
    let ss = schemas (schemas_view l.schemas.items) in
    let rest = items_of (items_seen (drop l.place l.values.items)) in
    let whole = items_of (items_seen l.values.items) in record {
      judged : by_places_in (item_judges r d whole) ss (maybe_view l.rest) ≡ places_from (item_judges r d rest) ss (maybe_view l.rest) l.place;
      small : items_size rest ≤ items_size whole;
      keeps : g.T.Texts.relations l.texts ≡ r;
      counts : g.T.Texts.faults l.initial.texts ≤ g.T.Texts.faults l.texts;
    }

abbrev pub invariant-members_agree-loop-name : goal.invariant-members_agree-loop-name
invariant-members_agree-loop-name g l =
    let r = g.T.Texts.relations l.initial.texts in
    let d = document_view l.document in
    let says = named_member r d (members_view l.object) in
    let rest = members_of (members_seen l.name-iterator) in
    let whole = members_of (members_seen l.members.entries) in record {
      judged : list_all says (member_parts r d whole) ≡ list_all says (member_parts r d rest);
      small : members_size rest ≤ members_size whole;
      keeps : g.T.Texts.relations l.texts ≡ r;
      counts : g.T.Texts.faults l.initial.texts ≤ g.T.Texts.faults l.texts;
    }

abbrev pub invariant-patterns_agree-loop-pattern : goal.invariant-patterns_agree-loop-pattern
invariant-patterns_agree-loop-pattern g l =
    let r = g.T.Texts.relations l.initial.texts in
    let d = document_view l.document in
    let has : List ℕ → Bool = λ q. r.matches q l.name in
    let j : Judge = admits_in r d (kept_view l.value) in
    let rest = properties_view l.pattern-iterator in
    let whole = properties_view l.patterns.entries in record {
      judged : patterns_say has j whole ≡ patterns_say has j rest;
      small : properties_nodes rest ≤ properties_nodes whole;
      keeps : g.T.Texts.relations l.texts ≡ r;
      counts : g.T.Texts.faults l.initial.texts ≤ g.T.Texts.faults l.texts;
    }
