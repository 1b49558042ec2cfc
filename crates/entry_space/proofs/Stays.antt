-- What a space holds stays where an item is filled in that held itself alone.
use Rattle.std.proofs.Common.{◌≡◌, ℕ, zero, suc, List, [], ◌∷◌, ◌++◌, Bool, true, false, Option, Some, None, nat_eq, eqb-true, refl, sym, ap, subst, ◌∙◌, true≢false, ◌⊎◌, inl, inr}
use Rattle.std.specs.Cmp.{unsigned_Decides}
use Rattle.entry_defs.specs.Entry.{Target, Entry, boolean_entry, integer_entry, text_entry, native_entry, any_entry, unit_entry, option_entry, vec_entry, set_entry, map_entry, tuple_entry, array_entry, reference, item, Entries, no_entries, entry_then, entry_again, Shape, struct_shape, enum_shape, newtype_shape, Fields, no_fields, field_then, field_again, rest_field, Variants, no_variants, variant_then, Contents, unit_contents, newtype_contents, tuple_contents, struct_contents}
use Rattle.entry_defs.specs.Space.{Id, FieldAt, RestAt, ContentsAt, VariantAt, ShapeAt, struct_shape_at, enum_shape_at, newtype_shape_at, EntryAt, item_at, Space, entry_at, Holds, HoldsEntries, HoldsShape, HoldsFields, HoldsVariants, HoldsContents, TreesStay}
use Rattle.entry_space.specs.Entered.{entered, filled}
use Rattle.entry_space.specs.Laws.{is_open, HeldTreesStay, FilledTreesStay}
use Rattle.entry_space.proofs.Grown.{grows}

pub held_trees_stay : TreesStay → HeldTreesStay
held_trees_stay trees_stay leads e space t i h = by (grows e space)
  where
    by : (entered e space ≡ space) ⊎ (entered e space ≡ space ++ e ∷ []) → Holds leads (entered e space) t i
    by (inl q) = subst (λ s. Holds leads s t i) (sym q) h
    by (inr q) = subst (λ s. Holds leads s t i) (sym q) (trees_stay leads space (e ∷ []) t i h)

-- ---- another entry is as it was

other-below : (i j : ℕ) → nat_eq (suc i) (suc j) ≡ false → nat_eq i j ≡ false
other-below i j h = by (nat_eq i j) refl
  where
    by : (b : Bool) → nat_eq i j ≡ b → nat_eq i j ≡ false
    by true q = absurd (true≢false (sym ((unsigned_Decides (suc i) (suc j)).1 (ap suc (eqb-true i j q))) ∙ h))
    by false q = q

same-beside : (j : Id) (s : ShapeAt) (space : Space) (i : Id) → nat_eq i j ≡ false → entry_at (filled j s space) i ≡ entry_at space i
same-beside j s [] i h = refl
same-beside zero s (e ∷ es) zero h = absurd (true≢false ((sym ((unsigned_Decides 0 0).1 refl)) ∙ h))
same-beside zero s (e ∷ es) (suc i) h = refl
same-beside (suc j) s (e ∷ es) zero h = refl
same-beside (suc j) s (e ∷ es) (suc i) h = same-beside j s es i (other-below i j h)

-- ---- nothing stands at an open item

abbrev is_item : Option EntryAt → Bool
is_item None = false
is_item (Some (item_at n s)) = true
is_item (Some e) = false

abbrev shape_in : ShapeAt → Option EntryAt → ShapeAt
shape_in d None = d
shape_in d (Some (item_at n s)) = s
shape_in d (Some e) = d

-- a newtype's id, and a number for every shape
abbrev inner_of : Id → ShapeAt → Id
inner_of d (newtype_shape_at i r) = i
inner_of d (struct_shape_at c fs p) = d
inner_of d (enum_shape_at c t ws) = d

abbrev is_newtype : ShapeAt → Bool
is_newtype (newtype_shape_at i r) = true
is_newtype (struct_shape_at c fs p) = false
is_newtype (enum_shape_at c t ws) = false

module _ (leads : Target → Id → Bool) (space : Space) (n : List ℕ) (j : Id) (is-open : entry_at space j ≡ Some (is_open n j)) where
  no-other : {A : Type 0} (f : Option EntryAt) → entry_at space j ≡ f → is_item f ≡ false → A
  no-other f h k = absurd (true≢false (ap is_item (sym is-open ∙ h) ∙ k))

  mutual
    none : (e : Entry) → Holds leads space e j → ⊥
    none boolean_entry h = no-other _ h refl
    none (integer_entry g) h = no-other _ h refl
    none text_entry h = no-other _ h refl
    none (native_entry f) h = no-other _ h refl
    none any_entry h = no-other _ h refl
    none unit_entry h = no-other _ h refl
    none (option_entry e) h = no-other _ h.1 refl
    none (vec_entry e) h = no-other _ h.1 refl
    none (set_entry e) h = no-other _ h.1 refl
    none (map_entry k e) h = no-other _ h.2 refl
    none (tuple_entry es) h = no-other _ h.1 refl
    none (array_entry e m) h = no-other _ h.1 refl
    none (reference t) h = no-other _ h.1 refl
    none (item m x) h = none-in x h.0 (ap (shape_in (newtype_shape_at j None)) (sym h.1 ∙ is-open)) h.2

    none-in : (x : Shape) (s : ShapeAt) → s ≡ newtype_shape_at j None → HoldsShape leads space x s → ⊥
    none-in (struct_shape c fs) s q h = absurd (true≢false (ap is_newtype (sym q ∙ h.2)))
    none-in (enum_shape c t ws) s q h = absurd (true≢false (ap is_newtype (sym q ∙ h.1)))
    none-in (newtype_shape e r) s q h = none e (subst (Holds leads space e) (ap (inner_of j) (sym h.1 ∙ q)) h.2)

  module _ (s : ShapeAt) where
    abbrev after : Space
    after = filled j s space

    -- what stands somewhere stands beside the open item
    beside : (e : Entry) (i : Id) (f : EntryAt) → Holds leads space e i → entry_at space i ≡ Some f → entry_at after i ≡ Some f
    beside e i f h q = by (nat_eq i j) refl
      where
        by : (b : Bool) → nat_eq i j ≡ b → entry_at after i ≡ Some f
        by true r = absurd (none e (subst (Holds leads space e) (eqb-true i j r) h))
        by false r = same-beside j s space i r ∙ q

    mutual
      stays : (e : Entry) (i : Id) → Holds leads space e i → Holds leads after e i
      stays boolean_entry i h = beside boolean_entry i _ h h
      stays (integer_entry g) i h = beside (integer_entry g) i _ h h
      stays text_entry i h = beside text_entry i _ h h
      stays (native_entry f) i h = beside (native_entry f) i _ h h
      stays any_entry i h = beside any_entry i _ h h
      stays unit_entry i h = beside unit_entry i _ h h
      stays (option_entry e) i h = (h.0, beside (option_entry e) i _ h h.1, stays e h.0 h.2)
      stays (vec_entry e) i h = (h.0, beside (vec_entry e) i _ h h.1, stays e h.0 h.2)
      stays (set_entry e) i h = (h.0, beside (set_entry e) i _ h h.1, stays e h.0 h.2)
      stays (map_entry k e) i h = (h.0, h.1, beside (map_entry k e) i _ h h.2, stays k h.0 h.3, stays e h.1 h.4)
      stays (tuple_entry es) i h = (h.0, beside (tuple_entry es) i _ h h.1, entries-stay es h.0 h.2)
      stays (array_entry e m) i h = (h.0, beside (array_entry e m) i _ h h.1, stays e h.0 h.2)
      stays (reference t) i h = (h.0, beside (reference t) i _ h h.1, h.2)
      stays (item m x) i h = (h.0, beside (item m x) i _ h h.1, shape-stays x h.0 h.2)

      entries-stay : (es : Entries) (js : List Id) → HoldsEntries leads space es js → HoldsEntries leads after es js
      entries-stay no_entries [] h = tt
      entries-stay no_entries (i ∷ js) h = absurd h
      entries-stay (entry_then e es) [] h = absurd h
      entries-stay (entry_then e es) (i ∷ js) h = (stays e i h.0, entries-stay es js h.1)
      entries-stay (entry_again es) [] h = absurd h
      entries-stay (entry_again es) (i ∷ js) h = (h.0, entries-stay es js h.1)

      shape-stays : (x : Shape) (t : ShapeAt) → HoldsShape leads space x t → HoldsShape leads after x t
      shape-stays (struct_shape c fs) t h = (h.0, h.1, h.2, fields-stay fs h.0 h.1 h.3)
      shape-stays (enum_shape c tag ws) t h = (h.0, h.1, variants-stay ws h.0 h.2)
      shape-stays (newtype_shape e rule) t h = (h.0, h.1, stays e h.0 h.2)

      fields-stay : (fs : Fields) (gs : List FieldAt) (p : Option RestAt) → HoldsFields leads space fs gs p → HoldsFields leads after fs gs p
      fields-stay no_fields [] None h = tt
      fields-stay no_fields [] (Some p) h = absurd h
      fields-stay no_fields (g ∷ gs) p h = absurd h
      fields-stay (field_then i m e t fs) [] p h = absurd h
      fields-stay (field_then i m e t fs) (g ∷ gs) p h = (h.0, h.1, h.2, stays e g.entry h.3, fields-stay fs gs p h.4)
      fields-stay (field_again i m fs) [] p h = absurd h
      fields-stay (field_again i m fs) (g ∷ gs) p h = (h.0, h.1, h.2, h.3, fields-stay fs gs p h.4)
      fields-stay (rest_field i e) [] None h = absurd h
      fields-stay (rest_field i e) [] (Some p) h = (h.0, stays e p.entry h.1)
      fields-stay (rest_field i e) (g ∷ gs) p h = absurd h

      variants-stay : (ws : Variants) (xs : List VariantAt) → HoldsVariants leads space ws xs → HoldsVariants leads after ws xs
      variants-stay no_variants [] h = tt
      variants-stay no_variants (x ∷ xs) h = absurd h
      variants-stay (variant_then i m c ws) [] h = absurd h
      variants-stay (variant_then i m c ws) (x ∷ xs) h = (h.0, h.1, contents-stay c x.contents h.2, variants-stay ws xs h.3)

      contents-stay : (c : Contents) (x : ContentsAt) → HoldsContents leads space c x → HoldsContents leads after c x
      contents-stay unit_contents x h = h
      contents-stay (newtype_contents e) x h = (h.0, h.1, stays e h.0 h.2)
      contents-stay (tuple_contents es) x h = (h.0, h.1, entries-stay es h.0 h.2)
      contents-stay (struct_contents fs) x h = (h.0, h.1, fields-stay fs h.0 None h.2)

pub filled_trees_stay : FilledTreesStay
filled_trees_stay leads n j s space t i held h = stays leads space n j held s t i h
