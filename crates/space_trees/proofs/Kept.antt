-- What is held stays held in each space that keeps trees.
use Rattle.std.proofs.Common.{◌≡◌, ◌<◌, List, [], ◌∷◌, length, Bool, Option, Some, None, ap, subst}
use Rattle.entry_defs.specs.Entry.{Target, Entry, boolean_entry, integer_entry, text_entry, native_entry, any_entry, unit_entry, option_entry, vec_entry, set_entry, map_entry, tuple_entry, array_entry, reference, item, Entries, no_entries, entry_then, entry_again, Shape, struct_shape, enum_shape, newtype_shape, Fields, no_fields, field_then, field_again, rest_field, Variants, no_variants, variant_then, Contents, unit_contents, newtype_contents, tuple_contents, struct_contents}
use Rattle.entry_defs.specs.Space.{Id, FieldAt, RestAt, ContentsAt, VariantAt, ShapeAt, Space, next_id, Holds, HoldsEntries, HoldsShape, HoldsFields, HoldsVariants, HoldsContents}
use Rattle.space_defs.specs.Ordered.{AreBelow}
use Rattle.space_trees.proofs.Places.{within}
use Rattle.space_trees.proofs.Enters.{Keeps}

module _ (leads : Target → Id → Bool) (space after : Space) (keep : Keeps leads space after) where
  pub entries-kept : (es : Entries) (js : List Id) → HoldsEntries leads space es js → HoldsEntries leads after es js
  entries-kept no_entries [] h = tt
  entries-kept no_entries (j ∷ js) h = absurd h
  entries-kept (entry_then e es) [] h = absurd h
  entries-kept (entry_then e es) (j ∷ js) h = (keep e j h.0, entries-kept es js h.1)
  entries-kept (entry_again es) [] h = absurd h
  entries-kept (entry_again es) (j ∷ js) h = (h.0, entries-kept es js h.1)

  pub fields-kept : (fs : Fields) (gs : List FieldAt) (p : Option RestAt) → HoldsFields leads space fs gs p → HoldsFields leads after fs gs p
  fields-kept no_fields [] None h = tt
  fields-kept no_fields [] (Some p) h = absurd h
  fields-kept no_fields (g ∷ gs) p h = absurd h
  fields-kept (field_then i n e s fs) [] p h = absurd h
  fields-kept (field_then i n e s fs) (g ∷ gs) p h = (h.0, h.1, h.2, keep e g.entry h.3, fields-kept fs gs p h.4)
  fields-kept (field_again i n fs) [] p h = absurd h
  fields-kept (field_again i n fs) (g ∷ gs) p h = (h.0, h.1, h.2, h.3, fields-kept fs gs p h.4)
  fields-kept (rest_field i e) [] None h = absurd h
  fields-kept (rest_field i e) [] (Some p) h = (h.0, keep e p.entry h.1)
  fields-kept (rest_field i e) (g ∷ gs) p h = absurd h

  pub contents-kept : (c : Contents) (x : ContentsAt) → HoldsContents leads space c x → HoldsContents leads after c x
  contents-kept unit_contents x h = h
  contents-kept (newtype_contents e) x h = (h.0, h.1, keep e h.0 h.2)
  contents-kept (tuple_contents es) x h = (h.0, h.1, entries-kept es h.0 h.2)
  contents-kept (struct_contents fs) x h = (h.0, h.1, fields-kept fs h.0 None h.2)

  variants-kept : (ws : Variants) (xs : List VariantAt) → HoldsVariants leads space ws xs → HoldsVariants leads after ws xs
  variants-kept no_variants [] h = tt
  variants-kept no_variants (x ∷ xs) h = absurd h
  variants-kept (variant_then i n c ws) [] h = absurd h
  variants-kept (variant_then i n c ws) (x ∷ xs) h = (h.0, h.1, contents-kept c x.contents h.2, variants-kept ws xs h.3)

  pub shape-kept : (x : Shape) (s : ShapeAt) → HoldsShape leads space x s → HoldsShape leads after x s
  shape-kept (struct_shape closed fs) s h = (h.0, h.1, h.2, fields-kept fs h.0 h.1 h.3)
  shape-kept (enum_shape closed tag ws) s h = (h.0, h.1, variants-kept ws h.0 h.2)
  shape-kept (newtype_shape e rule) s h = (h.0, h.1, keep e h.0 h.2)

-- ---- what stands has an id of the space

module _ (leads : Target → Id → Bool) (space : Space) where
  pub held-below : (e : Entry) (i : Id) → Holds leads space e i → i < length space
  held-below boolean_entry i h = within space i _ h
  held-below (integer_entry g) i h = within space i _ h
  held-below text_entry i h = within space i _ h
  held-below (native_entry f) i h = within space i _ h
  held-below any_entry i h = within space i _ h
  held-below unit_entry i h = within space i _ h
  held-below (option_entry e) i h = within space i _ h.1
  held-below (vec_entry e) i h = within space i _ h.1
  held-below (set_entry e) i h = within space i _ h.1
  held-below (map_entry k e) i h = within space i _ h.2
  held-below (tuple_entry es) i h = within space i _ h.1
  held-below (array_entry e n) i h = within space i _ h.1
  held-below (reference q) i h = within space i _ h.1
  held-below (item n s) i h = within space i _ h.1

  abbrev id_or : Option Id → Id → Id
  id_or None j = j
  id_or (Some i) j = i

  again-below : (j : Id) (js : List Id) → next_id js ≡ Some j → AreBelow (length space) js → AreBelow (length space) (j ∷ js)
  again-below j [] q h = (absurd (no-none j q), tt)
    where
      no-none : (j : Id) → None ≡ Some j → ⊥
      no-none j q = cc
  again-below j (k ∷ ks) q h = (subst (λ x. x < length space) (ap (λ o. id_or o j) q) h.0, h)

  pub entries-below : (es : Entries) (js : List Id) → HoldsEntries leads space es js → AreBelow (length space) js
  entries-below no_entries [] h = tt
  entries-below no_entries (j ∷ js) h = absurd h
  entries-below (entry_then e es) [] h = absurd h
  entries-below (entry_then e es) (j ∷ js) h = (held-below e j h.0, entries-below es js h.1)
  entries-below (entry_again es) [] h = absurd h
  entries-below (entry_again es) (j ∷ js) h = again-below j js h.0 (entries-below es js h.1)
