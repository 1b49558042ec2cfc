-- A stated default stands at its place in the table of conversions, and its field's entry is one of the table's.
use Rattle.std.proofs.Common.{◌≡◌, ℕ, zero, suc, ◌+◌, List, [], ◌∷◌, ◌++◌, map, length, Bool, refl, sym, ap, ◌∙◌, subst, Some, inl, inr, arith}
use Rattle.std.specs.Prelude.{slice_get}
use Rattle.std.specs.List.{AllByRecursion, flat_map}
use Rattle.json_value.specs.Value.{Value}
use Rattle.model_defs.specs.Types.{TypeModel}
use Rattle.typed_defs.specs.Typed.{Typed}
use Rattle.reading_defs.specs.Reading.{Read}
use Rattle.entry_defs.specs.Entry.{Target, Entry, item, Shape, struct_shape, enum_shape, newtype_shape, Fields, no_fields, field_then, field_again, rest_field, Variants, no_variants, variant_then, Contents, unit_contents, newtype_contents, tuple_contents, struct_contents, FieldEntry, VariantEntry, fields_of, variants_of}
use Rattle.entry_defs.specs.Table.{ItemEntry, TargetEntry, Table, items_in, items_in_shape, items_of, Among}
use Rattle.entry_defs.specs.Sound.{Each, EachInShape, EachField, EachVariant, EachInContents, Leads, IsSound}
use Rattle.entry_defs.proofs.Each.{in_entry}
use Rattle.emit_defs.specs.Setting.{Setting, setting_of}
use Rattle.emit_defs.specs.Models.{type_model, used_type, state_defaults, field_defaults, contents_defaults, shape_defaults, after_state, after_contents}
use Rattle.emit_defs.specs.Law.{IsOf}
use Rattle.emit_defs.proofs.Found.{of_table}
use Rattle.emit_defs.proofs.Places.{next_each}
use Rattle.default_defs.specs.Found.{Found}
use Rattle.default_laws.specs.Laws.{DefaultsAreRead, StatedStands}
use Rattle.default_laws.specs.Stated.{StatedByFields, StatedByContents, StatedByVariants, StatedByShape, StatedByItems}
use Rattle.default_laws.proofs.Filled.{Filled, all_filled}

-- ---- places in lists

slice_left : {A : Type 0} (xs ys : List A) (k : ℕ) (x : A) → slice_get xs k ≡ Some x → slice_get (xs ++ ys) k ≡ Some x
slice_left [] ys k x e = cc
slice_left (y ∷ xs) ys zero x e = e
slice_left (y ∷ xs) ys (suc k) x e = slice_left xs ys k x e

slice_right : {A : Type 0} (xs ys : List A) (k : ℕ) → slice_get (xs ++ ys) (length xs + k) ≡ slice_get ys k
slice_right [] ys k =
    let none : 0 + k ≡ k = omega arith in
    ap (slice_get ys) none
slice_right (x ∷ xs) ys k =
    let more : suc (length xs) + k ≡ suc (length xs + k) = omega arith in
    ap (slice_get (x ∷ (xs ++ ys))) more ∙ slice_right xs ys k

module _ (s : Setting) (n : ℕ) (e : Entry) (w : Value) (ty : TypeModel) where
  -- where the list begins at the place `at`
  abbrev pub Stands : ℕ → List Value → Type 0
  Stands at vs = (k : ℕ) × (n ≡ at + k) × (slice_get vs k ≡ Some w)

  in_left : (at : ℕ) (vs us : List Value) → Stands at vs → Stands at (vs ++ us)
  in_left at vs us p = (p.0, p.1, slice_left vs us p.0 w p.2)

  in_right : (at : ℕ) (vs us : List Value) → Stands (at + length vs) us → Stands at (vs ++ us)
  in_right at vs us p =
      let k = p.0 in
      let long = p.1 in
      (length vs + k, omega (arith, long), slice_right vs us k ∙ p.2)

  pub by_fields : (owner : List ℕ) (at : ℕ) (fs : List FieldEntry) → StatedByFields s n e w ty owner at fs → Stands at (field_defaults fs)
  by_fields owner at [] p = absurd p
  by_fields owner at (f ∷ fs) (inl p) =
      let here = p.0 in
      in_left at (state_defaults f.state) (field_defaults fs) (0, omega (arith, here), ap (λ z. slice_get (state_defaults z) 0) p.1)
  by_fields owner at (f ∷ fs) (inr p) = in_right at (state_defaults f.state) (field_defaults fs) (by_fields owner (after_state f.state at) fs p)

  pub by_contents : (owner : List ℕ) (at : ℕ) (c : Contents) → StatedByContents s n e w ty owner at c → Stands at (contents_defaults c)
  by_contents owner at unit_contents p = absurd p
  by_contents owner at (newtype_contents c) p = absurd p
  by_contents owner at (tuple_contents cs) p = absurd p
  by_contents owner at (struct_contents fs) p = by_fields owner at (fields_of fs) p

  pub by_variants : (owner : List ℕ) (at : ℕ) (xs : List VariantEntry) → StatedByVariants s n e w ty owner at xs → Stands at (flat_map (λ x. contents_defaults x.contents) xs)
  by_variants owner at [] p = absurd p
  by_variants owner at (x ∷ xs) (inl p) = in_left at (contents_defaults x.contents) (flat_map (λ x. contents_defaults x.contents) xs) (by_contents owner at x.contents p)
  by_variants owner at (x ∷ xs) (inr p) =
      in_right at (contents_defaults x.contents) (flat_map (λ x. contents_defaults x.contents) xs) (by_variants owner (after_contents x.contents at) xs p)

  pub by_shape : (owner : List ℕ) (at : ℕ) (c : Shape) → StatedByShape s n e w ty owner at c → Stands at (shape_defaults c)
  by_shape owner at (struct_shape closed fs) p = by_fields owner at (fields_of fs) p
  by_shape owner at (enum_shape closed tag xs) p = by_variants owner at (variants_of xs) p
  by_shape owner at (newtype_shape c rule) p = absurd p

  pub by_items : (at : ℕ) (is : List ItemEntry) → StatedByItems s n e w ty at is → Stands at (flat_map (λ i. shape_defaults i.shape) is)
  by_items at [] p = absurd p
  by_items at (i ∷ is) (inl p) = in_left at (shape_defaults i.shape) (flat_map (λ i. shape_defaults i.shape) is) (by_shape i.name at i.shape p)
  by_items at (i ∷ is) (inr p) = in_right at (shape_defaults i.shape) (flat_map (λ i. shape_defaults i.shape) is) (by_items (at + length (shape_defaults i.shape)) is p)

  -- ---- the entry and the type of its field

  module _ (P : List ℕ → Shape → Type 0) (Q : Target → Type 0) where
    -- `b` says which uses are boxed where the field stands
    abbrev pub IsUsed : Type 0
    IsUsed = (b : List ℕ → Bool) × (type_model s.name b e ≡ ty) × Each P Q e

    used_field : (owner : List ℕ) (c : Entry) → Each P Q c → c ≡ e → used_type s owner c ≡ ty → IsUsed
    used_field owner c h p q = (s.is_boxed owner, ap (used_type s owner) (sym p) ∙ q, subst (Each P Q) p h)

    in_fields : (owner : List ℕ) (at : ℕ) (fs : Fields) → EachField P Q fs → StatedByFields s n e w ty owner at (fields_of fs) → IsUsed
    in_fields owner at no_fields h p = absurd p
    in_fields owner at (rest_field i c) h p = absurd p
    in_fields owner at (field_then i k c st fs) h (inl p) = used_field owner c h.0 p.2 p.3
    in_fields owner at (field_then i k c st fs) h (inr p) = in_fields owner (after_state st at) fs h.1 p
    in_fields owner at (field_again i k fs) h (inl p) = used_field owner _ (next_each P Q fs h) p.2 p.3
    in_fields owner at (field_again i k fs) h (inr p) = in_fields owner _ fs h p

    in_contents : (owner : List ℕ) (at : ℕ) (c : Contents) → EachInContents P Q c → StatedByContents s n e w ty owner at c → IsUsed
    in_contents owner at unit_contents h p = absurd p
    in_contents owner at (newtype_contents c) h p = absurd p
    in_contents owner at (tuple_contents cs) h p = absurd p
    in_contents owner at (struct_contents fs) h p = in_fields owner at fs h.1 p

    in_variants : (owner : List ℕ) (at : ℕ) (xs : Variants) → EachVariant P Q xs → StatedByVariants s n e w ty owner at (variants_of xs) → IsUsed
    in_variants owner at no_variants h p = absurd p
    in_variants owner at (variant_then i k c xs) h (inl p) = in_contents owner at c h.0 p
    in_variants owner at (variant_then i k c xs) h (inr p) = in_variants owner (after_contents c at) xs h.1 p

    in_shape : (owner : List ℕ) (at : ℕ) (c : Shape) → EachInShape P Q c → StatedByShape s n e w ty owner at c → IsUsed
    in_shape owner at (struct_shape closed fs) h p = in_fields owner at fs h.1 p
    in_shape owner at (enum_shape closed tag xs) h p = in_variants owner at xs h p
    in_shape owner at (newtype_shape c rule) h p = absurd p

    pub in_items : (at : ℕ) (is : List ItemEntry) → ((i : ItemEntry) → Among i is → EachInShape P Q i.shape) → StatedByItems s n e w ty at is → IsUsed
    in_items at [] h p = absurd p
    in_items at (i ∷ is) h (inl p) = in_shape i.name at i.shape (h i (inl refl)) p
    in_items at (i ∷ is) h (inr p) = in_items (at + length (shape_defaults i.shape)) is (λ j a. h j (inr a)) p

pub stated_stands : StatedStands
stated_stands t n e w ty p =
    let f = by_items (setting_of t) n e w ty 0 (items_of t) p in
    let k = f.0 in
    let here = f.1 in
    let same : n ≡ k = omega (arith, here) in
    ap (slice_get (flat_map (λ i. shape_defaults i.shape) (items_of t))) same ∙ f.2

-- ---- each item of a table

module _ (t : Table) (h : IsSound t) (missed : Entry → Value → Found) (default_read : ℕ → TypeModel → Read Typed) (d : DefaultsAreRead t missed default_read) where
  abbrev P : List ℕ → Shape → Type 0
  P n c = Filled t h missed default_read d n c

  abbrev IsIn : ItemEntry → Type 0
  IsIn i = EachInShape P (Leads t) i.shape

  split : (i : ItemEntry) (xs ys : List ItemEntry) → (Among i xs → IsIn i) → (Among i ys → IsIn i) → Among i (xs ++ ys) → IsIn i
  split i [] ys f g a = g a
  split i (x ∷ xs) ys f g (inl e) = f (inl e)
  split i (x ∷ xs) ys f g (inr a) = split i xs ys (λ b. f (inr b)) g a

  within_entry : (e : Entry) → IsOf t e → (i : ItemEntry) → Among i (items_in e) → IsIn i
  within_entry e o i a = (in_entry P (Leads t) e (all_filled t h missed default_read d e o) i a).1

  led : (ts : List TargetEntry) → AllByRecursion (λ x. IsOf t (item x.led_to.name x.led_to.shape)) ts → (i : ItemEntry) → Among i (map (λ x. x.led_to) ts) → IsIn i
  led [] o i a = absurd a
  led (x ∷ xs) o i (inl e) = within_entry (item x.led_to.name x.led_to.shape) o.0 i (inl e)
  led (x ∷ xs) o i (inr a) = led xs o.1 i a

  inner : (ts : List TargetEntry) → AllByRecursion (λ x. IsOf t (item x.led_to.name x.led_to.shape)) ts → (i : ItemEntry) → Among i (flat_map (λ x. items_in_shape x.led_to.shape) ts) → IsIn i
  inner [] o i a = absurd a
  inner (x ∷ xs) o i a =
      split i (items_in_shape x.led_to.shape) (flat_map (λ x. items_in_shape x.led_to.shape) xs) (λ b. within_entry (item x.led_to.name x.led_to.shape) o.0 i (inr b)) (inner xs o.1 i) a

  trees : (es : List Entry) → AllByRecursion (IsOf t) es → (i : ItemEntry) → Among i (flat_map items_in es) → IsIn i
  trees [] o i a = absurd a
  trees (e ∷ es) o i a = split i (items_in e) (flat_map items_in es) (within_entry e o.0 i) (trees es o.1 i) a

  pub each_item : (i : ItemEntry) → Among i (items_of t) → IsIn i
  each_item i a =
      let o = of_table t h in
      split i (map (λ x. x.led_to) t.targets ++ flat_map (λ x. items_in_shape x.led_to.shape) t.targets) (flat_map items_in t.trees)
      (split i (map (λ x. x.led_to) t.targets) (flat_map (λ x. items_in_shape x.led_to.shape) t.targets) (led t.targets o.targets i) (inner t.targets o.targets i)) (trees t.trees o.trees i) a
