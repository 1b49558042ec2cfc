-- Trees stay where they stand when entries are added to a space.
use Rattle.std.proofs.Common.{◌≡◌, zero, suc, List, [], ◌∷◌, ◌++◌, Bool, Option, Some, None, sym, ap, true≢false}
use Rattle.std.specs.Prelude.{is_some}
use Rattle.entry_defs.specs.Entry.{Target, Entry, boolean_entry, integer_entry, text_entry, native_entry, any_entry, unit_entry, option_entry, vec_entry, set_entry, map_entry, tuple_entry, array_entry, reference, item, Entries, no_entries, entry_then, entry_again, Shape, struct_shape, enum_shape, newtype_shape, Fields, no_fields, field_then, field_again, rest_field, Variants, no_variants, variant_then, Contents, unit_contents, newtype_contents, tuple_contents, struct_contents}
use Rattle.entry_defs.specs.Space.{Id, FieldAt, RestAt, ContentsAt, VariantAt, ShapeAt, EntryAt, Space, entry_at, Holds, HoldsEntries, HoldsShape, HoldsFields, HoldsVariants, HoldsContents, TreesStay}

stays-at : (space more : Space) (i : Id) (e : EntryAt) → entry_at space i ≡ Some e → entry_at (space ++ more) i ≡ Some e
stays-at [] more i e h = absurd (true≢false (ap is_some (sym h)))
stays-at (x ∷ xs) more zero e h = h
stays-at (x ∷ xs) more (suc i) e h = stays-at xs more i e h

module _ (leads : Target → Id → Bool) (space more : Space) where
  abbrev all : Space
  all = space ++ more

  mutual
    stays : (e : Entry) (i : Id) → Holds leads space e i → Holds leads all e i
    stays boolean_entry i h = stays-at space more i _ h
    stays (integer_entry g) i h = stays-at space more i _ h
    stays text_entry i h = stays-at space more i _ h
    stays (native_entry f) i h = stays-at space more i _ h
    stays any_entry i h = stays-at space more i _ h
    stays unit_entry i h = stays-at space more i _ h
    stays (option_entry e) i h = (h.0, stays-at space more i _ h.1, stays e h.0 h.2)
    stays (vec_entry e) i h = (h.0, stays-at space more i _ h.1, stays e h.0 h.2)
    stays (set_entry e) i h = (h.0, stays-at space more i _ h.1, stays e h.0 h.2)
    stays (map_entry k e) i h = (h.0, h.1, stays-at space more i _ h.2, stays k h.0 h.3, stays e h.1 h.4)
    stays (tuple_entry es) i h = (h.0, stays-at space more i _ h.1, entries-stay es h.0 h.2)
    stays (array_entry e n) i h = (h.0, stays-at space more i _ h.1, stays e h.0 h.2)
    stays (reference t) i h = (h.0, stays-at space more i _ h.1, h.2)
    stays (item n s) i h = (h.0, stays-at space more i _ h.1, shape-stays s h.0 h.2)

    entries-stay : (es : Entries) (js : List Id) → HoldsEntries leads space es js → HoldsEntries leads all es js
    entries-stay no_entries [] h = tt
    entries-stay no_entries (j ∷ js) h = absurd h
    entries-stay (entry_then e es) [] h = absurd h
    entries-stay (entry_then e es) (j ∷ js) h = (stays e j h.0, entries-stay es js h.1)
    entries-stay (entry_again es) [] h = absurd h
    entries-stay (entry_again es) (j ∷ js) h = (h.0, entries-stay es js h.1)

    shape-stays : (x : Shape) (s : ShapeAt) → HoldsShape leads space x s → HoldsShape leads all x s
    shape-stays (struct_shape closed fs) s h = (h.0, h.1, h.2, fields-stay fs h.0 h.1 h.3)
    shape-stays (enum_shape closed tag ws) s h = (h.0, h.1, variants-stay ws h.0 h.2)
    shape-stays (newtype_shape e rule) s h = (h.0, h.1, stays e h.0 h.2)

    fields-stay : (fs : Fields) (gs : List FieldAt) (p : Option RestAt) → HoldsFields leads space fs gs p → HoldsFields leads all fs gs p
    fields-stay no_fields [] None h = tt
    fields-stay no_fields [] (Some p) h = absurd h
    fields-stay no_fields (g ∷ gs) p h = absurd h
    fields-stay (field_then i n e s fs) [] p h = absurd h
    fields-stay (field_then i n e s fs) (g ∷ gs) p h = (h.0, h.1, h.2, stays e g.entry h.3, fields-stay fs gs p h.4)
    fields-stay (field_again i n fs) [] p h = absurd h
    fields-stay (field_again i n fs) (g ∷ gs) p h = (h.0, h.1, h.2, h.3, fields-stay fs gs p h.4)
    fields-stay (rest_field i e) [] None h = absurd h
    fields-stay (rest_field i e) [] (Some p) h = (h.0, stays e p.entry h.1)
    fields-stay (rest_field i e) (g ∷ gs) p h = absurd h

    variants-stay : (ws : Variants) (xs : List VariantAt) → HoldsVariants leads space ws xs → HoldsVariants leads all ws xs
    variants-stay no_variants [] h = tt
    variants-stay no_variants (x ∷ xs) h = absurd h
    variants-stay (variant_then i n c ws) [] h = absurd h
    variants-stay (variant_then i n c ws) (x ∷ xs) h = (h.0, h.1, contents-stay c x.contents h.2, variants-stay ws xs h.3)

    contents-stay : (c : Contents) (x : ContentsAt) → HoldsContents leads space c x → HoldsContents leads all c x
    contents-stay unit_contents x h = h
    contents-stay (newtype_contents e) x h = (h.0, h.1, stays e h.0 h.2)
    contents-stay (tuple_contents es) x h = (h.0, h.1, entries-stay es h.0 h.2)
    contents-stay (struct_contents fs) x h = (h.0, h.1, fields-stay fs h.0 None h.2)

pub trees_stay : TreesStay
trees_stay leads space more e i h = stays leads space more e i h
