use Rattle.std.proofs.Common.{◌≡◌, ◌<◌, ◌∷◌, [], ◌++◌, length, get_or, List, Some, None, option_map, string_bytes, string_cmp, subst, append_assoc, refl, sym, ap, ◌∙◌, rules, arith}
use Rattle.schema_defs.specs.Read.{◌⊛◌}
use Rattle.std.proofs.Common.{◌+◌, ◌≤◌, drop, Option, String, Global}
use Rattle.std.proofs.lemmas.List.{map-append, drop_all}
use Rattle.std.specs.Prelude.{IfOk}
use Rattle.std.specs.List.Sorted.{IsStrictlySortedBy}
use Rattle.std.specs.Map.{keys_of}
use Rattle.serde_json.specs.View.{view, items_view}
use Rattle.serde_json.specs.declared.value.Value.{Value as Read}
use Rattle.json_value.specs.View.{value_of, items_of}
use Rattle.schema_defs.specs.Schema.{Schema, schema, Properties, property}
use Rattle.schema_defs.specs.Read.{reading, item_readings, schemas_of, properties_of}
use Rattle.schema_types.specs.View.{object_view, properties_view, schema_view, schemas_view}
use Rattle.schema_types.specs.declared.schema.SchemaObject.{the_lemmas}
use Rattle.schema_reading.specs.Reading.{looked_up, readings}
use Rattle.schema_reading.proofs.Lists.{items_at}
use Rattle.schema_reading.proofs.Schemas.{list_onto, list_next, before_none, pairs, key_names, named_onto, named_next, named_lost, named_before_none, entry_last, names_last, pairs_last, properties_next, properties_end, object_read, object_named}
use Rattle.schema_reading.proofs.Keywords.{found}
use Rattle.schema_reading.proofs.Parts.{nothing, same_absent, same_stand, lists_absent, lists_stand, named_absent, named_stand, schema_is, list_given, schema_given, places_given}
use Rattle.schema_reading.proofs.schema.+read.Goals as goal

pub same_value-returns-then-not-stands : goal.same_value-returns-then-not-stands
same_value-returns-then-not-stands t c = sym (same_absent (looked_up c.args.members.now.entries) (sym c.stands.ensures ∙ c.if-not-stands.true))

pub same_value-returns-in_default : goal.same_value-returns-in_default
same_value-returns-in_default t c =
    let lost = sym (rw c.in_default.is at c.in_ok-all_of.ensures) in
    rw (same_stand (looked_up c.args.members.now.entries) (sym c.stands.ensures ∙ c.if-not-stands.false)) (simp (lost, nothing))

pub same_value-returns-in_default-2 : goal.same_value-returns-in_default-2
same_value-returns-in_default-2 t c =
    let lost = sym (rw c.in_default-2.is at c.in_ok-any_of.ensures) in
    rw (same_stand (looked_up c.args.members.now.entries) (sym c.stands.ensures ∙ c.if-not-stands.false)) (simp (lost, nothing))

pub same_value-returns-in_default-3 : goal.same_value-returns-in_default-3
same_value-returns-in_default-3 t c =
    let lost = sym (rw c.in_default-3.is at c.in_ok-one_of.ensures) in
    rw (same_stand (looked_up c.args.members.now.entries) (sym c.stands.ensures ∙ c.if-not-stands.false)) (simp (lost, nothing))

pub same_value-returns-in_default-4 : goal.same_value-returns-in_default-4
same_value-returns-in_default-4 t c =
    let lost = sym (rw c.in_default-4.is at c.in_ok-not.ensures) in
    rw (same_stand (looked_up c.args.members.now.entries) (sym c.stands.ensures ∙ c.if-not-stands.false)) (simp lost)

pub same_value-returns : goal.same_value-returns
same_value-returns t c =
    rw (
      same_stand (looked_up c.args.members.now.entries) (sym c.stands.ensures ∙ c.if-not-stands.false),
      sym (rw c.in-Some.is at c.in_ok-all_of.ensures),
      sym (rw c.in-Some-2.is at c.in_ok-any_of.ensures),
      sym (rw c.in-Some-3.is at c.in_ok-one_of.ensures),
      sym (rw c.in-Some-4.is at c.in_ok-not.ensures),
      sym c.stands-2.ensures,
      list_given,
      list_given,
      list_given,
      schema_given,
    ) (search (rules, the_lemmas))

pub lists-returns-then-not-stands : goal.lists-returns-then-not-stands
lists-returns-then-not-stands t c = sym (lists_absent (looked_up c.args.members.now.entries) (sym c.stands.ensures ∙ c.if-not-stands.true))

pub lists-returns-in_default : goal.lists-returns-in_default
lists-returns-in_default t c =
    let lost = sym (rw c.in_default.is at c.in_ok-items.ensures) in
    rw (lists_stand (looked_up c.args.members.now.entries) (sym c.stands.ensures ∙ c.if-not-stands.false)) (simp (lost, nothing))

pub lists-returns-in_default-2 : goal.lists-returns-in_default-2
lists-returns-in_default-2 t c =
    let lost = sym (rw c.in_default-2.is at c.in_ok-additional_items.ensures) in
    rw (lists_stand (looked_up c.args.members.now.entries) (sym c.stands.ensures ∙ c.if-not-stands.false)) (simp (lost, nothing))

pub lists-returns-in_default-3 : goal.lists-returns-in_default-3
lists-returns-in_default-3 t c =
    let lost = sym (rw c.in_default-3.is at c.in_ok-contains.ensures) in
    rw (lists_stand (looked_up c.args.members.now.entries) (sym c.stands.ensures ∙ c.if-not-stands.false)) (simp (lost, nothing))

pub lists-returns-in_default-size_at : goal.lists-returns-in_default-size_at
lists-returns-in_default-size_at t c =
    let lost = sym (rw c.in_default-size_at.is at c.size_at.ensures) in
    rw (lists_stand (looked_up c.args.members.now.entries) (sym c.stands.ensures ∙ c.if-not-stands.false)) (simp (lost, nothing))

pub lists-returns-in_default-size_at-2 : goal.lists-returns-in_default-size_at-2
lists-returns-in_default-size_at-2 t c =
    let lost = sym (rw c.in_default-size_at-2.is at c.size_at-2.ensures) in
    rw (lists_stand (looked_up c.args.members.now.entries) (sym c.stands.ensures ∙ c.if-not-stands.false)) (simp (lost, nothing))

pub lists-returns-in_default-flag_at : goal.lists-returns-in_default-flag_at
lists-returns-in_default-flag_at t c =
    let lost = sym (rw c.in_default-flag_at.is at c.flag_at.ensures) in
    rw (lists_stand (looked_up c.args.members.now.entries) (sym c.stands.ensures ∙ c.if-not-stands.false)) (simp lost)

pub lists-returns : goal.lists-returns
lists-returns t c =
    rw (
      lists_stand (looked_up c.args.members.now.entries) (sym c.stands.ensures ∙ c.if-not-stands.false),
      sym (rw c.in-Some.is at c.in_ok-items.ensures),
      sym (rw c.in-Some-2.is at c.in_ok-additional_items.ensures),
      sym (rw c.in-Some-3.is at c.in_ok-contains.ensures),
      sym (rw c.in-Some-size_at.is at c.size_at.ensures),
      sym (rw c.in-Some-size_at-2.is at c.size_at-2.ensures),
      sym (rw c.in-Some-flag_at.is at c.flag_at.ensures),
      places_given,
      schema_given,
      schema_given,
    ) (search (rules, the_lemmas))

pub named-returns-then-not-stands : goal.named-returns-then-not-stands
named-returns-then-not-stands t c = sym (named_absent (looked_up c.args.members.now.entries) (sym c.stands.ensures ∙ c.if-not-stands.true))

pub named-returns-in_default : goal.named-returns-in_default
named-returns-in_default t c =
    let lost = sym (rw c.in_default.is at c.in_ok-properties.ensures) in
    rw (named_stand (looked_up c.args.members.now.entries) (sym c.stands.ensures ∙ c.if-not-stands.false)) (simp (lost, nothing))

pub named-returns-in_default-2 : goal.named-returns-in_default-2
named-returns-in_default-2 t c =
    let lost = sym (rw c.in_default-2.is at c.in_ok-patterns.ensures) in
    rw (named_stand (looked_up c.args.members.now.entries) (sym c.stands.ensures ∙ c.if-not-stands.false)) (simp (lost, nothing))

pub named-returns-in_default-3 : goal.named-returns-in_default-3
named-returns-in_default-3 t c =
    let lost = sym (rw c.in_default-3.is at c.in_ok-additional_properties.ensures) in
    rw (named_stand (looked_up c.args.members.now.entries) (sym c.stands.ensures ∙ c.if-not-stands.false)) (simp (lost, nothing))

pub named-returns-in_default-4 : goal.named-returns-in_default-4
named-returns-in_default-4 t c =
    let lost = sym (rw c.in_default-4.is at c.in_ok-property_names.ensures) in
    rw (named_stand (looked_up c.args.members.now.entries) (sym c.stands.ensures ∙ c.if-not-stands.false)) (simp (lost, nothing))

pub named-returns-in_default-size_at : goal.named-returns-in_default-size_at
named-returns-in_default-size_at t c =
    let lost = sym (rw c.in_default-size_at.is at c.size_at.ensures) in
    rw (named_stand (looked_up c.args.members.now.entries) (sym c.stands.ensures ∙ c.if-not-stands.false)) (simp (lost, nothing))

pub named-returns-in_default-size_at-2 : goal.named-returns-in_default-size_at-2
named-returns-in_default-size_at-2 t c =
    let lost = sym (rw c.in_default-size_at-2.is at c.size_at-2.ensures) in
    rw (named_stand (looked_up c.args.members.now.entries) (sym c.stands.ensures ∙ c.if-not-stands.false)) (simp (lost, nothing))

pub named-returns-in_default-5 : goal.named-returns-in_default-5
named-returns-in_default-5 t c =
    let lost = sym (rw c.in_default-5.is at c.in_ok-required.ensures) in
    rw (named_stand (looked_up c.args.members.now.entries) (sym c.stands.ensures ∙ c.if-not-stands.false)) (simp lost)

pub named-returns : goal.named-returns
named-returns t c =
    rw (
      named_stand (looked_up c.args.members.now.entries) (sym c.stands.ensures ∙ c.if-not-stands.false),
      sym (rw c.in-Some.is at c.in_ok-properties.ensures),
      sym (rw c.in-Some-2.is at c.in_ok-patterns.ensures),
      sym (rw c.in-Some-3.is at c.in_ok-additional_properties.ensures),
      sym (rw c.in-Some-4.is at c.in_ok-property_names.ensures),
      sym (rw c.in-Some-size_at.is at c.size_at.ensures),
      sym (rw c.in-Some-size_at-2.is at c.size_at-2.ensures),
      sym (rw c.in-Some-5.is at c.in_ok-required.ensures),
      schema_given,
      schema_given,
      sym c.or_no_schemas.ensures,
      sym c.or_no_schemas-2.ensures,
      sym c.or_no_names.ensures,
    ) (search (rules, the_lemmas))

pub object_schema-returns-in_default : goal.object_schema-returns-in_default
object_schema-returns-in_default t c =
    let lost = sym (rw c.in_default.is at c.in_ok-plain.ensures) in
    rw (schema_is (looked_up c.args.members.now.entries)) (simp (lost, nothing))

pub object_schema-returns-in_default-2 : goal.object_schema-returns-in_default-2
object_schema-returns-in_default-2 t c =
    let lost = sym (rw c.in_default-2.is at c.in_ok-subschemas.ensures) in
    rw (schema_is (looked_up c.args.members.now.entries)) (simp (lost, nothing))

pub object_schema-returns-in_default-3 : goal.object_schema-returns-in_default-3
object_schema-returns-in_default-3 t c =
    let lost = sym (rw c.in_default-3.is at c.in_ok-array.ensures) in
    rw (schema_is (looked_up c.args.members.now.entries)) (simp (lost, nothing))

pub object_schema-returns-in_default-4 : goal.object_schema-returns-in_default-4
object_schema-returns-in_default-4 t c =
    let lost = sym (rw c.in_default-4.is at c.in_ok-object.ensures) in
    rw (schema_is (looked_up c.args.members.now.entries)) (simp lost)

pub object_schema-returns : goal.object_schema-returns
object_schema-returns t c =
    rw (
      schema_is (looked_up c.args.members.now.entries),
      sym (rw c.in-Some.is at c.in_ok-plain.ensures),
      sym (rw c.in-Some-2.is at c.in_ok-subschemas.ensures),
      sym (rw c.in-Some-3.is at c.in_ok-array.ensures),
      sym (rw c.in-Some-4.is at c.in_ok-object.ensures),
    ) (ap Some (c.as_schema.ensures ∙ ap object_view c.in_ok-new.ensures.ok ∙ c.assembled-whole.ensures))

pub schema_at-returns-in-None : goal.schema_at-returns-in-None
schema_at-returns-in-None t c = rw (sym (found c.args.keyword.now c.args.members.now.entries None c.in-None.ensures.value)) refl

pub list_at-returns-in-None : goal.list_at-returns-in-None
list_at-returns-in-None t c = rw (sym (found c.args.keyword.now c.args.members.now.entries None c.in-None.ensures.value)) refl

pub filled_list_at-returns-in-None : goal.filled_list_at-returns-in-None
filled_list_at-returns-in-None t c = rw (sym (found c.args.keyword.now c.args.members.now.entries None c.in-None.ensures.value)) refl

pub places_at-returns-in-None : goal.places_at-returns-in-None
places_at-returns-in-None t c = rw (sym (found c.args.keyword.now c.args.members.now.entries None c.in-None.ensures.value)) refl

pub schemas_by_name_at-returns-in-None : goal.schemas_by_name_at-returns-in-None
schemas_by_name_at-returns-in-None t c = rw (sym (found c.args.keyword.now c.args.members.now.entries None c.in-None.ensures.value)) refl

pub schema_at-returns-in_ok-new-in-Some-2 : goal.schema_at-returns-in_ok-new-in-Some-2
schema_at-returns-in_ok-new-in-Some-2 t c = rw (sym (found c.args.keyword.now c.args.members.now.entries (Some c.in-Some.value) c.in-Some.ensures.value), sym (rw c.in-Some-2.is at c.in_ok-schema-in-Some.ensures)) (ap (λ s. Some (Some (schema_view s))) c.in_ok-new-in-Some-2.ensures.ok)

pub schema_at-returns-in-None-2 : goal.schema_at-returns-in-None-2
schema_at-returns-in-None-2 t c = rw (sym (found c.args.keyword.now c.args.members.now.entries (Some c.in-Some.value) c.in-Some.ensures.value), sym (rw c.in-None-2.is at c.in_ok-schema-in-Some.ensures)) refl

pub list_at-returns-in-Some-2 : goal.list_at-returns-in-Some-2
list_at-returns-in-Some-2 t c = rw (sym (found c.args.keyword.now c.args.members.now.entries (Some c.in-Some.value) c.in-Some.ensures.value), sym (rw c.in-Some-2.is at c.in_ok-schemas-in-Some.ensures)) refl

pub list_at-returns-in-None-2 : goal.list_at-returns-in-None-2
list_at-returns-in-None-2 t c = rw (sym (found c.args.keyword.now c.args.members.now.entries (Some c.in-Some.value) c.in-Some.ensures.value), sym (rw c.in-None-2.is at c.in_ok-schemas-in-Some.ensures)) refl

pub schemas_by_name_at-returns-in-Some-2 : goal.schemas_by_name_at-returns-in-Some-2
schemas_by_name_at-returns-in-Some-2 t c = rw (sym (found c.args.keyword.now c.args.members.now.entries (Some c.in-Some.value) c.in-Some.ensures.value), sym (rw c.in-Some-2.is at c.in_ok-schemas-in-Some.ensures)) refl

pub schemas_by_name_at-returns-in-None-2 : goal.schemas_by_name_at-returns-in-None-2
schemas_by_name_at-returns-in-None-2 t c = rw (sym (found c.args.keyword.now c.args.members.now.entries (Some c.in-Some.value) c.in-Some.ensures.value), sym (rw c.in-None-2.is at c.in_ok-schemas-in-Some.ensures)) refl

pub places_at-returns-in-Some-2 : goal.places_at-returns-in-Some-2
places_at-returns-in-Some-2 t c = rw (sym (found c.args.keyword.now c.args.members.now.entries (Some c.in-Some.value) c.in-Some.ensures.value), sym (rw c.in-Some-2.is at c.in_ok-places-in-Some.ensures)) refl

pub places_at-returns-in-None-2 : goal.places_at-returns-in-None-2
places_at-returns-in-None-2 t c = rw (sym (found c.args.keyword.now c.args.members.now.entries (Some c.in-Some.value) c.in-Some.ensures.value), sym (rw c.in-None-2.is at c.in_ok-places-in-Some.ensures)) refl

pub filled_list_at-returns-in-Some-filled : goal.filled_list_at-returns-in-Some-filled
filled_list_at-returns-in-Some-filled t c = rw (sym (found c.args.keyword.now c.args.members.now.entries (Some c.in-Some.value) c.in-Some.ensures.value), sym c.in_ok-schema_list-in-Some.ensures, sym c.in-Some-filled.ensures) refl

pub filled_list_at-returns-in-None-filled : goal.filled_list_at-returns-in-None-filled
filled_list_at-returns-in-None-filled t c = rw (sym (found c.args.keyword.now c.args.members.now.entries (Some c.in-Some.value) c.in-Some.ensures.value), sym c.in_ok-schema_list-in-Some.ensures, sym c.in-None-filled.ensures) refl

pub schema-returns-in-Object : goal.schema-returns-in-Object
schema-returns-in-Object t c =
    let read = object_read c.args.value.now c.in-Object.members c.in-Object.is in
    subst (λ (z : Option Schema). IfOk c.object_schema.result (λ o. option_map schema_view o ≡ z)) read c.object_schema.ensures

pub schemas_by_name-returns-in-Object : goal.schemas_by_name-returns-in-Object
schemas_by_name-returns-in-Object t c =
    let read = object_named c.args.value.now c.in-Object.members c.in-Object.is in
    subst (λ (z : Option Properties). IfOk c.named_schemas.result (λ o. option_map (λ m. properties_view m.entries) o ≡ z)) read c.named_schemas.ensures

pub schemas_in-loop-item-preserved : goal.schemas_in-loop-item-preserved
schemas_in-loop-item-preserved t c =
    let l = c.loop-item in
    let x = c.item-item.result in
    let is : x ≡ get_or c.args.items.now.items l.item-index x = c.item-item.is ∙ ap (λ xs. get_or xs l.item-index x) c.deref-item-items.ensures.value in
    let lt : l.item-index < length c.args.items.now.items = subst (λ (xs : List Read). l.item-index < length xs) c.deref-item-items.ensures.value (omega arith) in
    let rest = schemas_of (item_readings (items_of (items_view (drop (l.item-index + 1) c.args.items.now.items)))) in
    let read : (reading (value_of (view x))).as_schema ≡ Some (schema_view c.in-Some.schema) = sym (rw c.in-Some.is at c.in_ok-schema.ensures) in
    l.invariant
    ∙ ap (λ vs. list_onto (schemas_view l.schemas.items) (schemas_of (item_readings vs))) (items_at c.args.items.now.items l.item-index x lt is)
    ∙ ap (λ o. list_onto (schemas_view l.schemas.items) (Some (λ s ss. schema s ss) ⊛ o ⊛ rest)) read
    ∙ list_next (schemas_view l.schemas.items) (schema_view c.in-Some.schema) rest
    ∙ ap (λ ss. list_onto ss rest) (sym (map-append schema_view l.schemas.items (c.in-Some.schema ∷ [])) ∙ ap schemas_view (sym c.in_ok-push-in-Some.ensures.items))

pub schemas_in-returns : goal.schemas_in-returns
schemas_in-returns t c =
    let l = c.loop-item in
    let past : length c.args.items.now.items ≤ l.item-index = subst (λ (xs : List Read). length xs ≤ l.item-index) c.deref-item-items.ensures.value (omega arith) in
    let ended : drop l.item-index c.args.items.now.items ≡ [] = drop_all l.item-index c.args.items.now.items past in
    sym (l.invariant
    ∙ ap (λ vs. list_onto (schemas_view l.schemas.items) (schemas_of (item_readings (items_of (items_view vs))))) ended
    ∙ ap Some (before_none (schemas_view l.schemas.items)))

pub named_schemas-loop-name-preserved : goal.named_schemas-loop-name-preserved
named_schemas-loop-name-preserved t c =
    let l = c.loop-name in
    let done = l.invariant.0 in
    let e : String Global × Read = (c.in-Some.name.now, c.in-Some.value.now) in
    let left = c.next.new.self in
    let name = c.in_ok-name-in-Some-2.name in
    let s = c.in-Some-2.schema in
    let all : c.args.members.now.entries ≡ done ++ e ∷ left = l.invariant.1 ∙ ap (λ es. done ++ es) c.in-Some.ensures.steps in
    let sorted = subst (λ es. IsStrictlySortedBy string_cmp (keys_of es)) all c.iter-name-items.ensures.ordered in
    let named : string_bytes name ≡ string_bytes e.0 = search rules in
    let kept : c.insert.new.self.entries ≡ l.schemas.entries ++ (name, s) ∷ [] = c.in_ok-insert-in-Some-2.ensures.entries ∙ entry_last l.schemas.entries done name s e left l.invariant.2 named sorted in
    let read : (reading (value_of (view e.1))).as_schema ≡ Some (schema_view s) = sym (rw c.in-Some-2.is at c.in_ok-schema.ensures) in
    let rest = properties_of (readings left) in (
      done ++ e ∷ [],
      all ∙ sym (append_assoc done (e ∷ []) left),
      ap key_names kept ∙ names_last l.schemas.entries done name s e l.invariant.2 named,
      l.invariant.3
          ∙ ap (λ es. named_onto (pairs l.schemas.entries) (properties_of (readings es))) c.in-Some.ensures.steps
          ∙ ap (named_onto (pairs l.schemas.entries)) (properties_next e left)
          ∙ ap (λ o. named_onto (pairs l.schemas.entries) (Some (λ s ps. property (string_bytes e.0) s ps) ⊛ o ⊛ rest)) read
          ∙ named_next (pairs l.schemas.entries) (string_bytes e.0) (schema_view s) rest
          ∙ ap (λ k. named_onto (pairs l.schemas.entries ++ (k, schema_view s) ∷ []) rest) (sym named)
          ∙ ap (λ ps. named_onto ps rest) (sym (pairs_last l.schemas.entries name s) ∙ ap pairs (sym kept)),
    )

pub named_schemas-returns-in-None-2 : goal.named_schemas-returns-in-None-2
named_schemas-returns-in-None-2 t c =
    let l = c.loop-name in
    let e : String Global × Read = (c.in-Some.name.now, c.in-Some.value.now) in
    let left = c.next.new.self in
    let lost : (reading (value_of (view e.1))).as_schema ≡ None = sym (rw c.in-None-2.is at c.in_ok-schema.ensures) in
    sym (l.invariant.3
    ∙ ap (λ es. named_onto (pairs l.schemas.entries) (properties_of (readings es))) c.in-Some.ensures.steps
    ∙ ap (named_onto (pairs l.schemas.entries)) (properties_next e left)
    ∙ ap (λ o. named_onto (pairs l.schemas.entries) (Some (λ s ps. property (string_bytes e.0) s ps) ⊛ o ⊛ properties_of (readings left))) lost
    ∙ named_lost (pairs l.schemas.entries) (string_bytes e.0) (properties_of (readings left)))

pub named_schemas-returns : goal.named_schemas-returns
named_schemas-returns t c =
    let l = c.loop-name in
    let ended : l.name-iterator ≡ [] = search rules in
    sym (l.invariant.3
    ∙ ap (λ es. named_onto (pairs l.schemas.entries) (properties_of (readings es))) ended
    ∙ ap (named_onto (pairs l.schemas.entries)) properties_end
    ∙ ap Some (named_before_none l.schemas.entries))
