-- Value by value: a tree of a table takes what the id takes at which it stands.
use Rattle.std.proofs.Common.{◌≡◌, inl, inr, List, [], ◌∷◌, map, Bool, true, Some, option_map, refl, sym, ap, subst, ◌∙◌}
use Rattle.json_value.specs.Value as value
use Rattle.json_value.specs.Value.{Value, Items, Members, null, number, fraction, text, list, object, no_items, no_members, member}
use Rattle.schema_defs.specs.Texts.{Relations}
use Rattle.model_defs.specs.Layer.{MemberPart, Parts, no_parts, list_parts, object_parts}
use Rattle.entry_defs.specs.Entry.{Target, reference, item}
use Rattle.entry_defs.specs.Layer.{Judge, shape_takes}
use Rattle.entry_defs.specs.Space.{Id, Space, Holds}
use Rattle.entry_defs.specs.Table.{ItemEntry, Table, target_item, allowed}
use Rattle.entry_defs.specs.Takes.{takes, takes_within, value_takes, item_judges, member_judges, parts_of, follows, item_takes}
use Rattle.model_defs.proofs.Flat.{and_true}
use Rattle.entry_defs.proofs.Rows.{takes-level}
use Rattle.emit_defs.proofs.Pairs.{part, parts}
use Rattle.entry_laws.specs.Ids.{id_target, part_at, form_at, held_at, table_at}
use Rattle.entry_laws.specs.Laws.{IdsTakeForms, IdsTakeTrees}
use Rattle.entry_laws.proofs.Following.{followed}
use Rattle.entry_laws.proofs.Ids.{item-at}
use Rattle.entry_laws.proofs.Both.{Agree, Both}
use Rattle.entry_laws.proofs.Level.{level}

module _ (leads : Target → Id → Bool) (space : Space) (r : Relations) (t : Table)
    (led : (q : Target) (j : Id) → leads q j ≡ true → (x : ItemEntry) × (target_item t q ≡ Some x) × Holds leads space (item x.name x.shape) j) where
  abbrev Pair : Type 0
  Pair = Both leads space

  abbrev u : Table
  u = table_at space

  abbrev taken : Value → Parts Judge → Judge
  taken v ps = takes_within t r v ps (allowed t)

  abbrev at_ids : Value → Parts Judge → Judge
  at_ids v ps = takes_within u r v ps (allowed u)

  abbrev Same : Judge → Judge → Type 0
  Same l m = Agree leads space l m

  here : (v : Value) (ps : Parts Pair) → Same (taken v (parts (λ p. p.left) ps)) (at_ids v (parts (λ p. p.right) ps))
  here v ps = level leads space r v ps t led

  -- judges of parts, two by two
  abbrev Items2 : List Judge → List Judge → Type 0
  Items2 ls ms = (ps : List Pair) × (map (λ p. p.left) ps ≡ ls) × (map (λ p. p.right) ps ≡ ms)

  abbrev Members2 : List (MemberPart Judge) → List (MemberPart Judge) → Type 0
  Members2 ls ms = (ps : List (MemberPart Pair)) × (map (part (λ p. p.left)) ps ≡ ls) × (map (part (λ p. p.right)) ps ≡ ms)

  on-list : (xs : Items) (ls ms : List Judge) → Items2 ls ms → Same (taken (list xs) (list_parts ls)) (at_ids (list xs) (list_parts ms))
  on-list xs ls ms h =
      subst (λ z. Same (taken (list xs) (list_parts z)) (at_ids (list xs) (list_parts ms))) h.1
      (subst (λ z. Same (taken (list xs) (list_parts (map (λ p. p.left) h.0))) (at_ids (list xs) (list_parts z))) h.2 (here (list xs) (list_parts h.0)))

  on-object : (xs : Members) (ls ms : List (MemberPart Judge)) → Members2 ls ms → Same (taken (object xs) (object_parts ls)) (at_ids (object xs) (object_parts ms))
  on-object xs ls ms h =
      subst (λ z. Same (taken (object xs) (object_parts z)) (at_ids (object xs) (object_parts ms))) h.1
      (subst (λ z. Same (taken (object xs) (object_parts (map (part (λ p. p.left)) h.0))) (at_ids (object xs) (object_parts z))) h.2 (here (object xs) (object_parts h.0)))

  mutual
    pub values-agree : (v : Value) → Same (value_takes t r v) (value_takes u r v)
    values-agree null = here null no_parts
    values-agree (value.boolean b) = here (value.boolean b) no_parts
    values-agree (number z) = here (number z) no_parts
    values-agree fraction = here fraction no_parts
    values-agree (text k) = here (text k) no_parts
    values-agree (list xs) = on-list xs _ _ (items-agree xs)
    values-agree (object ms) = on-object ms _ _ (members-agree ms)

    items-agree : (xs : Items) → Items2 (item_judges t r xs) (item_judges u r xs)
    items-agree no_items = ([], refl, refl)
    items-agree (value.item v vs) =
        let rec = items-agree vs in
        let p : Pair = record { left = value_takes t r v; right = value_takes u r v; agree = values-agree v } in
        (p ∷ rec.0, ap (λ z. value_takes t r v ∷ z) rec.1, ap (λ z. value_takes u r v ∷ z) rec.2)

    members-agree : (ms : Members) → Members2 (member_judges t r ms) (member_judges u r ms)
    members-agree no_members = ([], refl, refl)
    members-agree (member k v ms) =
        let rec = members-agree ms in
        let name : Pair = record { left = taken (text k) no_parts; right = at_ids (text k) no_parts; agree = here (text k) no_parts } in
        let p : Pair = record { left = value_takes t r v; right = value_takes u r v; agree = values-agree v } in (
          record { name = k; key = name; value = p } ∷ rec.0,
          ap (λ z. record { name = k; key = taken (text k) no_parts; value = value_takes t r v } ∷ z) rec.1,
          ap (λ z. record { name = k; key = at_ids (text k) no_parts; value = value_takes u r v } ∷ z) rec.2,
        )

pub ids_take_trees : IdsTakeTrees
ids_take_trees leads space t h r e i (inl k) v = (values-agree leads space r t h.led v).one e i k
ids_take_trees leads space t h r e i (inr k) v =
    let d = h.led k.0 i k.2 in
    let q = k.0 in
    let ps = parts_of t r v in
    let there = (values-agree leads space r t h.led v).one (item d.0.name d.0.shape) i d.2 in
    ap (λ z. takes t r z v) k.1 ∙ takes-level t r v (reference q) ∙ followed t r v ps q ∙ ap (item_takes (shape_takes r v ps (follows t r v ps (allowed t)))) d.1
    ∙ sym (takes-level t r v (item d.0.name d.0.shape)) ∙ there

-- ---- forms

pub ids_take_forms : IdsTakeForms
ids_take_forms = record {
  there = λ space r i x h v.
      let u = table_at space in
      let ps = parts_of u r v in
      let g = follows u r v ps (allowed u) in
      takes-level u r v (part_at i) ∙ followed u r v ps (id_target i) ∙ ap (item_takes (shape_takes r v ps g)) (item-at space i ∙ ap (option_map held_at) h)
      ∙ and_true _
      ∙ sym (takes-level u r v (form_at x));
  nowhere = λ space r i h v.
      let u = table_at space in
      let ps = parts_of u r v in
      takes-level u r v (part_at i) ∙ followed u r v ps (id_target i) ∙ ap (item_takes (shape_takes r v ps (follows u r v ps (allowed u)))) (item-at space i ∙ ap (option_map held_at) h);
}
