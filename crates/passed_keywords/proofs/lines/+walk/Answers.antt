use Rattle.std.proofs.Common.{rules, arith, ◌≡◌, ℕ, ◌<◌, ◌+◌, length, get_or, List, ◌∷◌, ◌++◌, append_assoc, append-nil, Some, None, string_bytes, subst, sym, ap, ◌∙◌}
use Rattle.std.specs.Prelude.{true, false}
use Rattle.std.specs.List.{flat_map}
use Rattle.serde_json.specs.declared.value.Value.{Value as Read}
use Rattle.serde_json.specs.View.{view, members_view}
use Rattle.json_value.specs.View.{value_of, members_of}
use Rattle.json_value.proofs.Lookups.{got}
use Rattle.schema_faults.specs.Keywords.{is_known_at}
use Rattle.serde_json.proofs.Views.{view-Object}
use Rattle.json_value.specs.View.{items_of}
use Rattle.serde_json.specs.View.{items_view}
use Rattle.std.proofs.Common.{[], drop}
use Rattle.schema_defs.specs.Location.{place}
use Rattle.schema_defs.proofs.Places.{places_differ}
use Rattle.schema_faults.specs.Schemas.{held, held_items, held_members, inside_value, list_nodes, nodes_in, nodes_of, schema_nodes, under}
use Rattle.passed_keywords.specs.Lines.{lines_of}
use Rattle.passed_keywords.proofs.Behind.{items_from, keyword_none, keyword_some, lines_under, rows_lines, schema_lines}
use Rattle.passed_keywords.proofs.lines.+walk.Goals as goal

pub in_schema-returns : goal.in_schema-returns
in_schema-returns t c =
    let v = value_of (view c.args.schema.now) in
    let l = c.args.place.now in
    let here = c.in_ok-push_here.ensures c.args.at_root c.args.keyword.now in
    c.in_ok-inside_schema.ensures ∙ ap (λ o. o ++ lines_of l (inside_value c.args.at_root v)) here ∙ append_assoc (string_bytes c.args.out.now) _ (lines_of l (inside_value c.args.at_root v))
    ∙ ap (λ o. string_bytes c.args.out.now ++ o) (sym (schema_lines l c.args.at_root c.args.keyword.now v))

pub at_keyword-returns-in-None : goal.at_keyword-returns-in-None
at_keyword-returns-in-None t c =
    let known : is_known_at c.args.at_root c.args.holds ≡ true = search rules in
    sym (ap (λ o. string_bytes c.args.out.now ++ o) (keyword_none c.args.place.now c.args.at_root (members_of (members_view c.args.members.now.entries)) c.args.keyword.now c.args.holds known (got c.args.keyword.now c.args.members.now.entries None c.in-None.ensures.value)) ∙ append-nil (string_bytes c.args.out.now))

pub at_keyword-returns-in_ok-in_value-in-Some : goal.at_keyword-returns-in_ok-in_value-in-Some
at_keyword-returns-in_ok-in_value-in-Some t c =
    let known : is_known_at c.args.at_root c.args.holds ≡ true = search rules in
    let start = string_bytes c.args.out.now in
    let l = c.args.place.now in
    let k = c.args.keyword.now in
    let h = c.args.holds in
    let v = value_of (view c.in-Some.value.now) in
    c.in_ok-in_value-in-Some.ensures
    ∙ ap (λ m. start ++ lines_of m (nodes_in (k, h) (held v))) c.in_ok-inner-in-Some.ensures
    ∙ ap (λ o. start ++ o) (keyword_some l c.args.at_root (members_of (members_view c.args.members.now.entries)) k h known v (got k c.args.members.now.entries (Some c.in-Some.value) c.in-Some.ensures.value))

pub in_item-returns : goal.in_item-returns
in_item-returns t c =
    let start = string_bytes c.args.out.now in
    let l = c.args.place.now in
    let ns = schema_nodes false c.args.keyword.now (value_of (view c.args.item.now)) in
    let written : c.deref.result.now ≡ place c.args.index = c.deref.ensures ∙ c.in_ok-step.ensures.ok ∙ sym (places_differ.1 c.args.index (omega arith)) in
    c.in_ok-in_schema.ensures ∙ ap (λ m. start ++ lines_of m ns) (c.in_ok-inner.ensures ∙ ap (λ s. l ++ s ∷ []) written) ∙ ap (λ o. start ++ o) (sym (lines_under l (place c.args.index) ns))

pub in_member-returns : goal.in_member-returns
in_member-returns t c =
    let start = string_bytes c.args.out.now in
    let l = c.args.place.now in
    let ns = schema_nodes false c.args.keyword.now (value_of (view c.args.value.now)) in
    c.in_ok-in_schema.ensures ∙ ap (λ m. start ++ lines_of m ns) c.in_ok-inner.ensures ∙ ap (λ o. start ++ o) (sym (lines_under l c.args.name.now ns))

pub in_items-loop-index-preserved : goal.in_items-loop-index-preserved
in_items-loop-index-preserved t c =
    let i = c.loop-index.index in
    let x = c.item-item.result in
    let items = c.args.items.now.items in
    let l = c.args.place.now in
    let k = c.args.keyword.now in
    let is : x ≡ get_or items i x = c.item-item.is ∙ ap (λ xs. get_or xs i x) c.deref-item-items.ensures.value in
    let lt : i < length items = subst (λ (xs : List Read). i < length xs) c.deref-item-items.ensures.value (omega arith) in
    let start = string_bytes c.loop-index.out in
    let here = lines_of l (under (place i) (schema_nodes false k (value_of (view x)))) in
    let rest = lines_of l (list_nodes k (i + 1) (held_items (items_of (items_view (drop (i + 1) items))))) in
    ap (λ o. o ++ rest) c.in_ok-in_item.ensures ∙ append_assoc start here rest ∙ ap (λ o. start ++ o) (sym (items_from l k items i x lt is)) ∙ c.loop-index.invariant

pub inside_schema-returns-in_ok-in_keywords-in-Object : goal.inside_schema-returns-in_ok-in_keywords-in-Object
inside_schema-returns-in_ok-in_keywords-in-Object t c =
    let l = c.args.place.now in
    let b = c.args.at_root in
    let ms = members_of (members_view c.in-Object.members.entries) in
    c.in_ok-in_keywords-in-Object.ensures
    ∙ ap (λ o. string_bytes c.args.out.now ++ o) (rows_lines l b ms c.known-rows.result.now ∙ ap (λ rs. lines_of l (flat_map (nodes_of b (held_members ms)) rs)) c.known-rows.ensures ∙ sym (ap (λ v. lines_of l (inside_value b (value_of v))) (ap view c.in-Object.is ∙ view-Object c.in-Object.members)))
