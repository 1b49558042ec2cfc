use Rattle.schema_faults.specs.Keywords.{is_known_at}
use Rattle.schema_faults.specs.declared.keyword.Holds.{Holds}
use Rattle.schema_faults.specs.declared.keyword.Holds.TheVariants.{Text}
use Rattle.serde_json.specs.declared.value.Value.{Value as Read}
use Rattle.std.proofs.Common.{rules, arith, ◌≡◌, ℕ, ◌<◌, length, get_or, List, [], ◌∷◌, Option, Some, None, option_map, Bor, string_bytes, subst, sym, ap, ◌∙◌}
use Rattle.std.specs.Prelude.{IfOk, true}
use Rattle.serde_json.specs.View.{view, members_view}
use Rattle.json_value.specs.View.{value_of, members_of}
use Rattle.schema_faults.specs.Schemas.{held_members, nodes_of, object_nodes}
use Rattle.schema_faults.specs.Faults.{Place}
use Rattle.schema_faults.specs.Search.{first_among}
use Rattle.json_value.proofs.Lookups.{got}
use Rattle.schema_faults.proofs.Walk.{told_now, told_later, keyword_none, keyword_some, rows_some, rows_none, items_some, items_none, members_some, members_none}
use Rattle.schema_faults.proofs.search.+search.Goals as goal

pub in_schema-returns-in_ok-here-in-Some : goal.in_schema-returns-in_ok-here-in-Some
in_schema-returns-in_ok-here-in-Some t c =
    told_now c.args.search.now c.args.at_root c.args.keyword.now c.in-Some.text.now (value_of (view c.args.schema.now)) _
    (ap (option_map {T = Bor (List ℕ)} {U = List ℕ} (λ t. t.now)) (sym c.in-Some.is) ∙ c.in_ok-text.ensures) c.in_ok-here-in-Some.ensures

pub in_schema-returns-in-None : goal.in_schema-returns-in-None
in_schema-returns-in-None t c =
    let later = told_later c.args.search.now c.args.at_root c.args.keyword.now (value_of (view c.args.schema.now)) (ap (option_map {T = Bor (List ℕ)} {U = List ℕ} (λ t. t.now)) (sym c.in-None.is) ∙ c.in_ok-text.ensures) in
    subst (λ (z : Option Place). IfOk c.inside_schema.result (λ o. o ≡ z)) later c.inside_schema.ensures

pub at_keyword-returns-in-None : goal.at_keyword-returns-in-None
at_keyword-returns-in-None t c =
    let known : is_known_at c.args.at_root c.args.holds ≡ true = search rules in
    keyword_none c.args.search.now c.args.at_root (members_of (members_view c.args.members.now.entries)) c.args.keyword.now c.args.holds known (got c.args.keyword.now c.args.members.now.entries None c.in-None.ensures.value)

pub at_keyword-returns-in_ok-found-in-Some : goal.at_keyword-returns-in_ok-found-in-Some
at_keyword-returns-in_ok-found-in-Some t c =
    let known : is_known_at c.args.at_root c.args.holds ≡ true = search rules in
    let seen = keyword_some c.args.search.now c.args.at_root (members_of (members_view c.args.members.now.entries)) c.args.keyword.now c.args.holds known (value_of (view c.in-Some.value.now)) c.in_ok-found-in-Some.found (got c.args.keyword.now c.args.members.now.entries (Some c.in-Some.value) c.in-Some.ensures.value) c.in_ok-found-in-Some.ensures in
    subst (λ (z : Option Place). IfOk c.under.result (λ o. o ≡ z)) seen c.under.ensures

abbrev no_row : Bor (List ℕ) × Holds
no_row = (record { ref_ptr = (0, 0); now = [] }, Text)

pub in_keywords-returns-in-Some : goal.in_keywords-returns-in-Some
in_keywords-returns-in-Some t c =
    sym (c.loop-keyword.invariant
    ∙ rows_some c.args.search.now (nodes_of c.args.at_root (held_members (members_of (members_view c.args.members.now.entries)))) c.args.rows.now c.loop-keyword.keyword-index no_row (omega arith) c.in-Some.found (sym c.in-Some.is ∙ c.in_ok-found.ensures))

pub in_keywords-loop-keyword-preserved : goal.in_keywords-loop-keyword-preserved
in_keywords-loop-keyword-preserved t c =
    c.loop-keyword.invariant
    ∙ rows_none c.args.search.now (nodes_of c.args.at_root (held_members (members_of (members_view c.args.members.now.entries)))) c.args.rows.now c.loop-keyword.keyword-index no_row (omega arith) (sym c.in_default.is ∙ c.in_ok-found.ensures)

pub in_items-returns-in-Some : goal.in_items-returns-in-Some
in_items-returns-in-Some t c =
    let is : c.item-item.result ≡ get_or c.args.items.now.items c.loop-i.i c.item-item.result = c.item-item.is ∙ ap (λ xs. get_or xs c.loop-i.i c.item-item.result) c.deref-item-items.ensures.value in
    let lt : c.loop-i.i < length c.args.items.now.items = subst (λ (xs : List Read). c.loop-i.i < length xs) c.deref-item-items.ensures.value (omega arith) in
    sym (c.loop-i.invariant ∙ items_some c.args.search.now c.args.keyword.now c.args.items.now.items c.loop-i.i c.item-item.result lt is c.in-Some.found (sym c.in-Some.is ∙ c.in_ok-found.ensures) ∙ ap Some (sym c.in_ok-under_place.ensures))

pub in_items-loop-i-preserved : goal.in_items-loop-i-preserved
in_items-loop-i-preserved t c =
    let is : c.item-item.result ≡ get_or c.args.items.now.items c.loop-i.i c.item-item.result = c.item-item.is ∙ ap (λ xs. get_or xs c.loop-i.i c.item-item.result) c.deref-item-items.ensures.value in
    let lt : c.loop-i.i < length c.args.items.now.items = subst (λ (xs : List Read). c.loop-i.i < length xs) c.deref-item-items.ensures.value (omega arith) in
    c.loop-i.invariant ∙ items_none c.args.search.now c.args.keyword.now c.args.items.now.items c.loop-i.i c.item-item.result lt is (sym c.in_default.is ∙ c.in_ok-found.ensures)

pub in_members-returns-in-Some-2 : goal.in_members-returns-in-Some-2
in_members-returns-in-Some-2 t c =
    let named : (string_bytes c.in-Some.name.now ∷ c.in-Some-2.found.0, c.in-Some-2.found.1) ≡ c.in_ok-under.field-0 = ap (λ n. let p : Place = (n ∷ c.in-Some-2.found.0, c.in-Some-2.found.1) in p) (sym c.deref.ensures) ∙ sym c.in_ok-under.ensures in
    sym (c.loop-name.invariant
    ∙ ap (λ es. first_among c.args.search.now (object_nodes c.args.keyword.now (held_members (members_of (members_view es))))) c.in-Some.ensures.steps
    ∙ members_some c.args.search.now c.args.keyword.now (c.in-Some.name.now, c.in-Some.value.now) c.next.new.self c.in-Some-2.found (sym c.in-Some-2.is ∙ c.in_ok-found.ensures)
    ∙ ap Some named)

pub in_members-loop-name-preserved : goal.in_members-loop-name-preserved
in_members-loop-name-preserved t c =
    c.loop-name.invariant
    ∙ ap (λ es. first_among c.args.search.now (object_nodes c.args.keyword.now (held_members (members_of (members_view es))))) c.in-Some.ensures.steps
    ∙ members_none c.args.search.now c.args.keyword.now (c.in-Some.name.now, c.in-Some.value.now) c.next.new.self (sym c.in_default.is ∙ c.in_ok-found.ensures)
