-- What is held, as lists: fields beside fields, and variants beside variants.
use Rattle.std.proofs.Common.{◌≡◌, List, [], ◌∷◌, Option, Some, None, is_some, Bool, true, false, true≢false, refl, sym, ap, subst}
use Rattle.std.specs.List.{AllZip}
use Rattle.entry_defs.specs.Entry.{Target, Entries, no_entries, entry_then, entry_again, Fields, no_fields, field_then, field_again, rest_field, Rest, no_rest, rest, Variants, no_variants, variant_then, FieldEntry, VariantEntry, next_entry, next_field, fields_of, rest_of, variants_of}
use Rattle.entry_defs.specs.Space.{Id, FieldAt, RestAt, VariantAt, Space, next_id, next_field_id, Holds, HoldsEntries, HoldsFields, HoldsVariants, HoldsContents}

abbrev pub id_or : Id → Option Id → Id
id_or d None = d
id_or d (Some j) = j

module _ (leads : Target → Id → Bool) (space : Space) where
  -- ---- places

  pub held_next : (es : Entries) (js : List Id) (j : Id) → HoldsEntries leads space es js → next_id js ≡ Some j → Holds leads space (next_entry es) j
  held_next no_entries [] j h e = absurd (true≢false (sym (ap is_some e)))
  held_next no_entries (k ∷ ks) j h e = absurd h
  held_next (entry_then x es) [] j h e = absurd h
  held_next (entry_then x es) (k ∷ ks) j h e = subst (Holds leads space x) (ap (id_or k) e) h.0
  held_next (entry_again es) [] j h e = absurd h
  held_next (entry_again es) (k ∷ ks) j h e = subst (Holds leads space (next_entry es)) (ap (id_or k) e) (held_next es ks k h.1 h.0)

  -- ---- fields

  pub record FieldHeld (f : FieldEntry) (g : FieldAt) : Type 0 where
    pub identifier : g.identifier ≡ f.identifier
    pub name : g.name ≡ f.name
    pub state : g.state ≡ f.state
    pub entry : Holds leads space f.entry g.entry

  abbrev pub RestHeld : Rest → Option RestAt → Type 0
  RestHeld no_rest p = p ≡ None
  RestHeld (rest i e) p = (q : RestAt) × (p ≡ Some q) × (q.identifier ≡ i) × Holds leads space e q.entry

  pub held_next_field : (fs : Fields) (gs : List FieldAt) (p : Option RestAt) (j : Id) → HoldsFields leads space fs gs p → next_field_id gs p ≡ Some j → Holds leads space (next_field fs) j
  held_next_field no_fields [] None j h e = absurd (true≢false (sym (ap is_some e)))
  held_next_field no_fields [] (Some q) j h e = absurd h
  held_next_field no_fields (g ∷ gs) p j h e = absurd h
  held_next_field (field_then i n x s fs) [] p j h e = absurd h
  held_next_field (field_then i n x s fs) (g ∷ gs) p j h e = subst (Holds leads space x) (ap (id_or g.entry) e) h.3
  held_next_field (field_again i n fs) [] p j h e = absurd h
  held_next_field (field_again i n fs) (g ∷ gs) p j h e = subst (Holds leads space (next_field fs)) (ap (id_or g.entry) e) (held_next_field fs gs p g.entry h.4 h.3)
  held_next_field (rest_field i x) [] None j h e = absurd h
  held_next_field (rest_field i x) [] (Some q) j h e = subst (Holds leads space x) (ap (id_or q.entry) e) h.1
  held_next_field (rest_field i x) (g ∷ gs) p j h e = absurd h

  pub fields_held : (fs : Fields) (gs : List FieldAt) (p : Option RestAt) → HoldsFields leads space fs gs p → AllZip FieldHeld (fields_of fs) gs
  fields_held no_fields [] p h = tt
  fields_held no_fields (g ∷ gs) p h = absurd h
  fields_held (field_then i n x s fs) [] p h = absurd h
  fields_held (field_then i n x s fs) (g ∷ gs) p h = (record { identifier = h.0; name = h.1; state = h.2; entry = h.3 }, fields_held fs gs p h.4)
  fields_held (field_again i n fs) [] p h = absurd h
  fields_held (field_again i n fs) (g ∷ gs) p h = (record { identifier = h.0; name = h.1; state = h.2; entry = held_next_field fs gs p g.entry h.4 h.3 }, fields_held fs gs p h.4)
  fields_held (rest_field i x) [] p h = tt
  fields_held (rest_field i x) (g ∷ gs) p h = absurd h

  pub rest_held : (fs : Fields) (gs : List FieldAt) (p : Option RestAt) → HoldsFields leads space fs gs p → RestHeld (rest_of fs) p
  rest_held no_fields [] None h = refl
  rest_held no_fields [] (Some q) h = absurd h
  rest_held no_fields (g ∷ gs) p h = absurd h
  rest_held (field_then i n x s fs) [] p h = absurd h
  rest_held (field_then i n x s fs) (g ∷ gs) p h = rest_held fs gs p h.4
  rest_held (field_again i n fs) [] p h = absurd h
  rest_held (field_again i n fs) (g ∷ gs) p h = rest_held fs gs p h.4
  rest_held (rest_field i x) [] None h = absurd h
  rest_held (rest_field i x) [] (Some q) h = (q, refl, h.0, h.1)
  rest_held (rest_field i x) (g ∷ gs) p h = absurd h

  -- ---- variants

  pub record VariantHeld (w : VariantEntry) (x : VariantAt) : Type 0 where
    pub identifier : x.identifier ≡ w.identifier
    pub name : x.name ≡ w.name
    pub contents : HoldsContents leads space w.contents x.contents

  pub variants_held : (ws : Variants) (xs : List VariantAt) → HoldsVariants leads space ws xs → AllZip VariantHeld (variants_of ws) xs
  variants_held no_variants [] h = tt
  variants_held no_variants (x ∷ xs) h = absurd h
  variants_held (variant_then i n c ws) [] h = absurd h
  variants_held (variant_then i n c ws) (x ∷ xs) h = (record { identifier = h.0; name = h.1; contents = h.2 }, variants_held ws xs h.3)
