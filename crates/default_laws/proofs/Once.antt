-- A place has one stated default, of one entry, and what holds of all of them holds at each place.
use Rattle.std.proofs.Common.{◌≡◌, ◌+◌, ℕ, List, [], ◌∷◌, length, sym, ap, ◌∙◌, subst, inl, inr, arith}
use Rattle.std.specs.Prelude.{slice_get}
use Rattle.std.specs.List.{AllByRecursion, flat_map}
use Rattle.std.proofs.lemmas.Option.{slice_get_within}
use Rattle.json_value.specs.Value.{Value}
use Rattle.model_defs.specs.Types.{TypeModel}
use Rattle.entry_defs.specs.Entry.{Entry, stated, Shape, struct_shape, enum_shape, newtype_shape, Contents, unit_contents, newtype_contents, tuple_contents, struct_contents, FieldEntry, VariantEntry, fields_of, variants_of}
use Rattle.entry_defs.specs.Table.{ItemEntry, Table, items_of}
use Rattle.emit_defs.specs.Setting.{Setting, setting_of}
use Rattle.emit_defs.specs.Models.{state_defaults, field_defaults, contents_defaults, shape_defaults, after_state, after_contents}
use Rattle.default_laws.specs.Stated.{StatedByFields, StatedByContents, StatedByVariants, StatedByShape, StatedByItems, StatedAt, HoldsOfField, HoldsOfContents, HoldsOfShape, HoldsOfStated}
use Rattle.default_laws.proofs.Standing.{Stands, by_fields, by_contents, by_variants, by_shape, by_items}

-- ---- a place has one entry

module _ (s : Setting) (n : ℕ) (e c : Entry) (w u : Value) (ty tz : TypeModel) where
  -- what stands in a list isn't what stands after it
  apart : (at : ℕ) (vs us : List Value) → Stands s n e w ty at vs → Stands s n c u tz (at + length vs) us → ⊥
  apart at vs us p q =
      let i = p.0 in
      let j = q.0 in
      let here = p.1 in
      let there = q.1 in
      let within = slice_get_within vs i w p.2 in
      omega (arith, here, there, within)

  in_fields : (owner : List ℕ) (at : ℕ) (fs : List FieldEntry) → StatedByFields s n e w ty owner at fs → StatedByFields s n c u tz owner at fs → e ≡ c
  in_fields owner at [] p q = absurd p
  in_fields owner at (f ∷ fs) (inl p) (inl q) = sym p.2 ∙ q.2
  in_fields owner at (f ∷ fs) (inl p) (inr q) = absurd (apart at (state_defaults f.state) (field_defaults fs) (first p.0 p.1) (by_fields s n c u tz owner (after_state f.state at) fs q))
    where
      first : at ≡ n → f.state ≡ stated w → Stands s n e w ty at (state_defaults f.state)
      first here is = (0, omega (arith, here), ap (λ z. slice_get (state_defaults z) 0) is)
  in_fields owner at (f ∷ fs) (inr p) (inl q) = absurd (later q.0 q.1 (by_fields s n e w ty owner (after_state f.state at) fs p))
    where
      later : at ≡ n → f.state ≡ stated u → Stands s n e w ty (after_state f.state at) (field_defaults fs) → ⊥
      later here is p =
          let i = p.0 in
          let there = p.1 in
          let one : length (state_defaults f.state) ≡ 1 = ap (λ z. length (state_defaults z)) is in
          omega (arith, here, there, one)
  in_fields owner at (f ∷ fs) (inr p) (inr q) = in_fields owner (after_state f.state at) fs p q

  in_contents : (owner : List ℕ) (at : ℕ) (x : Contents) → StatedByContents s n e w ty owner at x → StatedByContents s n c u tz owner at x → e ≡ c
  in_contents owner at unit_contents p q = absurd p
  in_contents owner at (newtype_contents x) p q = absurd p
  in_contents owner at (tuple_contents xs) p q = absurd p
  in_contents owner at (struct_contents fs) p q = in_fields owner at (fields_of fs) p q

-- the same, where either comes first
module _ (s : Setting) (n : ℕ) (e c : Entry) (w u : Value) (ty tz : TypeModel) where
  in_variants : (owner : List ℕ) (at : ℕ) (xs : List VariantEntry) → StatedByVariants s n e w ty owner at xs → StatedByVariants s n c u tz owner at xs → e ≡ c
  in_variants owner at [] p q = absurd p
  in_variants owner at (x ∷ xs) (inl p) (inl q) = in_contents s n e c w u ty tz owner at x.contents p q
  in_variants owner at (x ∷ xs) (inl p) (inr q) =
      absurd (apart s n e c w u ty tz at (contents_defaults x.contents) (flat_map (λ z. contents_defaults z.contents) xs) (by_contents s n e w ty owner at x.contents p)
      (by_variants s n c u tz owner (after_contents x.contents at) xs q))
  in_variants owner at (x ∷ xs) (inr p) (inl q) =
      absurd (apart s n c e u w tz ty at (contents_defaults x.contents) (flat_map (λ z. contents_defaults z.contents) xs) (by_contents s n c u tz owner at x.contents q)
      (by_variants s n e w ty owner (after_contents x.contents at) xs p))
  in_variants owner at (x ∷ xs) (inr p) (inr q) = in_variants owner (after_contents x.contents at) xs p q

  in_shape : (owner : List ℕ) (at : ℕ) (x : Shape) → StatedByShape s n e w ty owner at x → StatedByShape s n c u tz owner at x → e ≡ c
  in_shape owner at (struct_shape closed fs) p q = in_fields s n e c w u ty tz owner at (fields_of fs) p q
  in_shape owner at (enum_shape closed tag xs) p q = in_variants owner at (variants_of xs) p q
  in_shape owner at (newtype_shape x rule) p q = absurd p

  in_items : (at : ℕ) (is : List ItemEntry) → StatedByItems s n e w ty at is → StatedByItems s n c u tz at is → e ≡ c
  in_items at [] p q = absurd p
  in_items at (i ∷ is) (inl p) (inl q) = in_shape i.name at i.shape p q
  in_items at (i ∷ is) (inl p) (inr q) =
      absurd (apart s n e c w u ty tz at (shape_defaults i.shape) (flat_map (λ z. shape_defaults z.shape) is) (by_shape s n e w ty i.name at i.shape p)
      (by_items s n c u tz (at + length (shape_defaults i.shape)) is q))
  in_items at (i ∷ is) (inr p) (inl q) =
      absurd (apart s n c e u w tz ty at (shape_defaults i.shape) (flat_map (λ z. shape_defaults z.shape) is) (by_shape s n c u tz i.name at i.shape q)
      (by_items s n e w ty (at + length (shape_defaults i.shape)) is p))
  in_items at (i ∷ is) (inr p) (inr q) = in_items (at + length (shape_defaults i.shape)) is p q

pub one_entry : (t : Table) (n : ℕ) (e c : Entry) (w u : Value) (ty tz : TypeModel) → StatedAt t n e w ty → StatedAt t n c u tz → e ≡ c
one_entry t n e c w u ty tz p q = in_items (setting_of t) n e c w u ty tz 0 (items_of t) p q

-- ---- what holds of all

module _ (H : Entry → Value → Type 0) (s : Setting) (n : ℕ) (e : Entry) (w : Value) (ty : TypeModel) where
  of_fields : (owner : List ℕ) (at : ℕ) (fs : List FieldEntry) → AllByRecursion (HoldsOfField H) fs → StatedByFields s n e w ty owner at fs → H e w
  of_fields owner at [] h p = absurd p
  of_fields owner at (f ∷ fs) h (inl p) = subst (λ z. H z w) p.2 (h.0 w p.1)
  of_fields owner at (f ∷ fs) h (inr p) = of_fields owner (after_state f.state at) fs h.1 p

  of_contents : (owner : List ℕ) (at : ℕ) (x : Contents) → HoldsOfContents H x → StatedByContents s n e w ty owner at x → H e w
  of_contents owner at unit_contents h p = absurd p
  of_contents owner at (newtype_contents x) h p = absurd p
  of_contents owner at (tuple_contents xs) h p = absurd p
  of_contents owner at (struct_contents fs) h p = of_fields owner at (fields_of fs) h p

  of_variants : (owner : List ℕ) (at : ℕ) (xs : List VariantEntry) → AllByRecursion (λ x. HoldsOfContents H x.contents) xs → StatedByVariants s n e w ty owner at xs → H e w
  of_variants owner at [] h p = absurd p
  of_variants owner at (x ∷ xs) h (inl p) = of_contents owner at x.contents h.0 p
  of_variants owner at (x ∷ xs) h (inr p) = of_variants owner (after_contents x.contents at) xs h.1 p

  of_shape : (owner : List ℕ) (at : ℕ) (x : Shape) → HoldsOfShape H x → StatedByShape s n e w ty owner at x → H e w
  of_shape owner at (struct_shape closed fs) h p = of_fields owner at (fields_of fs) h p
  of_shape owner at (enum_shape closed tag xs) h p = of_variants owner at (variants_of xs) h p
  of_shape owner at (newtype_shape x rule) h p = absurd p

  of_items : (at : ℕ) (is : List ItemEntry) → AllByRecursion (λ i. HoldsOfShape H i.shape) is → StatedByItems s n e w ty at is → H e w
  of_items at [] h p = absurd p
  of_items at (i ∷ is) h (inl p) = of_shape i.name at i.shape h.0 p
  of_items at (i ∷ is) h (inr p) = of_items (at + length (shape_defaults i.shape)) is h.1 p

pub holds_at : (H : Entry → Value → Type 0) (t : Table) → HoldsOfStated H t → (n : ℕ) (e : Entry) (w : Value) (ty : TypeModel) → StatedAt t n e w ty → H e w
holds_at H t h n e w ty p = of_items H (setting_of t) n e w ty 0 (items_of t) h p
