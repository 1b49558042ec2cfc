use Rattle.std.proofs.Common.{arith, ◌≡◌, ◌<◌, length, get_or, List, ◌∷◌, Some, string_bytes, subst, sym, ap, ◌∙◌}
use Rattle.serde_json.specs.View.{members_view}
use Rattle.serde_json.specs.declared.value.Value.{Value as Read}
use Rattle.json_value.specs.View.{members_of}
use Rattle.schema_faults.specs.Faults.{Place}
use Rattle.schema_tree.specs.Numbers.{wide_place_of_members}
use Rattle.schema_tree.proofs.WidePlaces.{found, item_found, item_passed, member_found, member_passed}
use Rattle.schema_tree.proofs.wide.+wide.Goals as goal

pub wide_in_items-returns-in-Some : goal.wide_in_items-returns-in-Some
wide_in_items-returns-in-Some t c =
    let is : c.item-item.result ≡ get_or c.args.items.now.items c.loop-i.i c.item-item.result = c.item-item.is ∙ ap (λ xs. get_or xs c.loop-i.i c.item-item.result) c.deref-item-items.ensures.value in
    let lt : c.loop-i.i < length c.args.items.now.items = subst (λ (xs : List Read). c.loop-i.i < length xs) c.deref-item-items.ensures.value (omega arith) in
    sym (c.loop-i.invariant ∙ item_found c.args.items.now.items c.loop-i.i c.item-item.result lt is c.in-Some.found (sym c.in-Some.is ∙ c.in_ok-found.ensures) ∙ ap Some (sym c.in_ok-under_place.ensures))

pub wide_in_items-loop-i-preserved : goal.wide_in_items-loop-i-preserved
wide_in_items-loop-i-preserved t c =
    let is : c.item-item.result ≡ get_or c.args.items.now.items c.loop-i.i c.item-item.result = c.item-item.is ∙ ap (λ xs. get_or xs c.loop-i.i c.item-item.result) c.deref-item-items.ensures.value in
    let lt : c.loop-i.i < length c.args.items.now.items = subst (λ (xs : List Read). c.loop-i.i < length xs) c.deref-item-items.ensures.value (omega arith) in
    c.loop-i.invariant ∙ item_passed c.args.items.now.items c.loop-i.i c.item-item.result lt is (sym c.in_default.is ∙ c.in_ok-found.ensures)

pub wide_in_members-returns-in-Some-2 : goal.wide_in_members-returns-in-Some-2
wide_in_members-returns-in-Some-2 t c =
    let named : (string_bytes c.in-Some.name.now ∷ c.in-Some-2.found.0, c.in-Some-2.found.1) ≡ c.in_ok-under.field-0 = ap (λ n. let p : Place = (n ∷ c.in-Some-2.found.0, c.in-Some-2.found.1) in p) (sym c.deref.ensures) ∙ sym c.in_ok-under.ensures in
    sym (c.loop-name.invariant
    ∙ ap (λ es. found (wide_place_of_members (members_of (members_view es)))) c.in-Some.ensures.steps
    ∙ member_found (c.in-Some.name.now, c.in-Some.value.now) c.next.new.self c.in-Some-2.found (sym c.in-Some-2.is ∙ c.in_ok-found.ensures)
    ∙ ap Some named)

pub wide_in_members-loop-name-preserved : goal.wide_in_members-loop-name-preserved
wide_in_members-loop-name-preserved t c =
    c.loop-name.invariant
    ∙ ap (λ es. found (wide_place_of_members (members_of (members_view es)))) c.in-Some.ensures.steps
    ∙ member_passed (c.in-Some.name.now, c.in-Some.value.now) c.next.new.self (sym c.in_default.is ∙ c.in_ok-found.ensures)
