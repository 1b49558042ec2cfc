-- A tree that is entered into a space: each id that comes has a tree.
use Rattle.std.proofs.Common.{◌≡◌, ◌⊎◌, inl, inr, ℕ, zero, suc, ◌<◌, ◌≤◌, List, [], ◌∷◌, ◌++◌, length, Bool, true, false, ◌&&◌, Some, None, refl, sym, ap, subst, ◌∙◌, append_assoc, append-nil, arith}
use Rattle.std.specs.List.{list_any}
use Rattle.std.proofs.lemmas.Bool.{cases_lt}
use Rattle.model_defs.specs.Model.{untagged}
use Rattle.entry_defs.specs.Entry.{Target, Entry, boolean_entry, integer_entry, text_entry, native_entry, any_entry, unit_entry, option_entry, vec_entry, set_entry, map_entry, tuple_entry, array_entry, reference, item, Entries, no_entries, entry_then, entry_again, Shape, struct_shape, enum_shape, newtype_shape, Fields, no_fields, field_then, field_again, rest_field, rest_of, Variants, no_variants, variant_then, Contents, unit_contents, newtype_contents, tuple_contents, struct_contents}
use Rattle.entry_defs.specs.Space.{Id, ShapeAt, EntryAt, boolean_at, integer_at, text_at, native_at, any_at, null_at, option_at, vec_at, set_at, map_at, tuple_entry_at, array_at, reference_at, Space, entry_at, Holds}
use Rattle.entry_defs.specs.Table.{ItemEntry, items_in, items_in_entries, items_in_shape, items_in_fields, items_in_variants, items_in_contents}
use Rattle.entry_defs.specs.Sound.{Any, Each, EachEntry, EachInShape, EachField, EachVariant, EachInContents}
use Rattle.entry_defs.proofs.Space.{trees_stay}
use Rattle.entry_space.specs.Keys.{same_key}
use Rattle.entry_space.specs.Entered.{entered, filled}
use Rattle.entry_space.specs.Laws.{is_open}
use Rattle.entry_space.proofs.Grown.{entered-there, entered-new}
use Rattle.entry_space.proofs.Keys.{first-true, second-true}
use Rattle.entry_space.proofs.Stays.{filled_trees_stay}
use Rattle.space_trees.specs.Placed.{place_of, put, placed, placed_entries, placed_shape, placed_fields, placed_variants, placed_contents}
use Rattle.space_trees.specs.Formed.{has_place, has_field, rest_name, is_rest_of, has_no_rest, is_formed, are_formed, is_formed_shape, are_formed_fields, are_formed_variants, is_formed_contents}
use Rattle.space_trees.proofs.Places.{within, length-end, at-end, place-new}
use Rattle.space_trees.proofs.Enters.{Enters, stays-at, Fresh, fresh-left, fresh-right, with_open, opened-fresh, open-enters}
use Rattle.space_trees.proofs.Standing.{stands, shape-stands}

-- ---- entries of a space

pub there : (s : Space) (i : Id) → i < length s → (x : EntryAt) × (entry_at s i ≡ Some x)
there [] i l = absurd (omega arith)
there (x ∷ xs) zero l = (x, refl)
there (x ∷ xs) (suc i) l = there xs i (let m : i < length xs = omega arith in m)

length-filled : (k : Id) (h : ShapeAt) (s : Space) → length (filled k h s) ≡ length s
length-filled k h [] = refl
length-filled zero h (x ∷ xs) = refl
length-filled (suc k) h (x ∷ xs) = ap suc (length-filled k h xs)

pub filled-back : (k : Id) (h : ShapeAt) (s : Space) (i : Id) (x : EntryAt) → entry_at (filled k h s) i ≡ Some x → (y : EntryAt) × (entry_at s i ≡ Some y)
filled-back k h s i x e =
    let l = within (filled k h s) i x e in
    let n = length-filled k h s in
    there s i (let m : i < length s = omega (arith, l, n) in m)

module _ (leads : Target → Id → Bool) where
  abbrev pub HasTree : Space → Id → Type 0
  HasTree s i = (e : Entry) × Holds leads s e i

  -- a space grows, and each id that comes has a tree
  pub record Adds (s t : Space) : Type 0 where
    pub more : Space
    pub grown : t ≡ s ++ more
    pub trees : (i : Id) (x : EntryAt) → entry_at t i ≡ Some x → (i < length s) ⊎ HasTree t i

  adds-none : (s : Space) → Adds s s
  adds-none s = record { more = []; grown = sym (append-nil s); trees = λ i x h. inl (within s i x h) }

  pub still : (s t : Space) (i : Id) → Adds s t → HasTree s i → HasTree t i
  still s t i a h = (h.0, subst (λ z. Holds leads z h.0 i) (sym a.grown) (trees_stay leads s a.more h.0 i h.1))

  pub adds-both : (s t u : Space) → Adds s t → Adds t u → Adds s u
  adds-both s t u a b = record {
    more = a.more ++ b.more;
    grown = b.grown ∙ ap (λ z. z ++ b.more) a.grown ∙ append_assoc s a.more b.more;
    trees = λ i x h. elim (b.trees i x h) [
      | inl l ↦ let y = there t i l in elim (a.trees i y.0 y.1) [ inl m ↦ inl m | inr g ↦ inr (still t u i b g) ]
      | inr g ↦ inr g
    ];
  }

  entered-adds : (x : EntryAt) (s : Space) (e : Entry) → Holds leads (entered x s) e (place_of x (entered x s)) → Adds s (entered x s)
  entered-adds x s e h = by (list_any (same_key x) s) refl
    where
      by : (b : Bool) → list_any (same_key x) s ≡ b → Adds s (entered x s)
      by true r = subst (Adds s) (sym (entered-there x s r)) (adds-none s)
      by false r = record {
        more = x ∷ [];
        grown = entered-new x s r;
        trees = λ i y k. elim (cases_lt i (length s)) [
          | inl l ↦ inl l
          | inr m ↦
              let w = within (entered x s) i y k in
              let n = ap length (entered-new x s r) ∙ length-end s x in
              let last : length s ≡ i = omega (arith, m, w, n) in
              inr (e, subst (Holds leads (entered x s) e) (ap (place_of x) (entered-new x s r) ∙ place-new x s r ∙ last) h)
        ];
      }

  put-adds : (x : EntryAt) (s : Space) (e : Entry) → Holds leads (put x s).0 e (put x s).1 → Adds s (put x s).0
  unfolding put
  put-adds x s e h = entered-adds x s e h

  then-put : (x : EntryAt) (e : Entry) (s a : Space) → Adds s a → Holds leads (put x a).0 e (put x a).1 → Adds s (put x a).0
  then-put x e s a h g = adds-both s a (put x a).0 h (put-adds x a e g)

  -- an item, where it was opened and what is in it entered
  item-adds : (n : List ℕ) (e : Entry) (s a : Space) (h : ShapeAt) (more : Space) → filled (length s) h a ≡ s ++ more → entry_at a (length s) ≡ Some (is_open n (length s)) → Adds (with_open n s) a
      → Holds leads (filled (length s) h a) e (length s) → Adds s (filled (length s) h a)
  item-adds n e s a h more grown open_there inside tree = record {
    more = more;
    grown = grown;
    trees = λ i x k.
        let y = filled-back (length s) h a i x k in
        elim (inside.trees i y.0 y.1) [
          | inl l ↦ elim (cases_lt i (length s)) [
            | inl m ↦ inl m
            | inr m ↦
                let w = length-end s (is_open n (length s)) in
                let last : length s ≡ i = omega (arith, l, m, w) in
                inr (e, subst (Holds leads (filled (length s) h a) e) last tree)
          ]
          | inr g ↦ inr (g.0, filled_trees_stay leads n (length s) h a g.0 i open_there g.1)
        ];
  }

-- ---- trees

module _ (ids : Target → Id) (leads : Target → Id → Bool) (OK : Target → Type 0) (lead : (q : Target) → OK q → leads q (ids q) ≡ true) where
  -- contents enter as those of an enum's one variant
  contents-enter : (c : Contents) (s : Space) → is_formed_contents c ≡ true → EachInContents Any OK c → Fresh s (items_in_contents c) → Enters s (placed_contents ids c s).0 (items_in_contents c)
  contents-enter c s f o d =
      subst (Enters s (placed_contents ids c s).0) (append-nil (items_in_contents c))
      (
      shape-stands ids leads OK lead (enum_shape false untagged (variant_then [] [] c no_variants)) s (ap (λ b. b && true) f) (o, tt) (subst (Fresh s) (sym (append-nil (items_in_contents c))) d)
      ).0

  mutual
    pub tree-adds : (e : Entry) (s : Space) → is_formed e ≡ true → Each Any OK e → Fresh s (items_in e) → Adds leads s (placed ids None e s).0
    tree-adds boolean_entry s f o d = put-adds leads boolean_at s boolean_entry (stands ids leads OK lead boolean_entry s f o d).1
    tree-adds (integer_entry g) s f o d = put-adds leads (integer_at g) s (integer_entry g) (stands ids leads OK lead (integer_entry g) s f o d).1
    tree-adds text_entry s f o d = put-adds leads text_at s text_entry (stands ids leads OK lead text_entry s f o d).1
    tree-adds (native_entry g) s f o d = put-adds leads (native_at g) s (native_entry g) (stands ids leads OK lead (native_entry g) s f o d).1
    tree-adds any_entry s f o d = put-adds leads any_at s any_entry (stands ids leads OK lead any_entry s f o d).1
    tree-adds unit_entry s f o d = put-adds leads null_at s unit_entry (stands ids leads OK lead unit_entry s f o d).1
    tree-adds (option_entry e) s f o d =
        let a = placed ids None e s in then-put leads (option_at a.1) (option_entry e) s a.0 (tree-adds e s f o d) (stands ids leads OK lead (option_entry e) s f o d).1
    tree-adds (vec_entry e) s f o d = let a = placed ids None e s in then-put leads (vec_at a.1) (vec_entry e) s a.0 (tree-adds e s f o d) (stands ids leads OK lead (vec_entry e) s f o d).1
    tree-adds (set_entry e) s f o d = let a = placed ids None e s in then-put leads (set_at a.1) (set_entry e) s a.0 (tree-adds e s f o d) (stands ids leads OK lead (set_entry e) s f o d).1
    tree-adds (array_entry e n) s f o d =
        let a = placed ids None e s in then-put leads (array_at a.1 n) (array_entry e n) s a.0 (tree-adds e s f o d) (stands ids leads OK lead (array_entry e n) s f o d).1
    tree-adds (map_entry k e) s f o d =
        let a = placed ids None k s in
        let b = placed ids None e a.0 in
        let fk = first-true (is_formed k) (is_formed e) f in
        let dk = fresh-left s (items_in k) (items_in e) d in
        let h = stands ids leads OK lead k s fk o.0 dk in
        let g = tree-adds e a.0 (second-true (is_formed k) (is_formed e) f) o.1 (fresh-right s a.0 (items_in k) (items_in e) h.0 d) in
        then-put leads (map_at a.1 b.1) (map_entry k e) s b.0 (adds-both leads s a.0 b.0 (tree-adds k s fk o.0 dk) g) (stands ids leads OK lead (map_entry k e) s f o d).1
    tree-adds (tuple_entry es) s f o d =
        let a = placed_entries ids es s in then-put leads (tuple_entry_at a.1) (tuple_entry es) s a.0 (entries-add es s f o d) (stands ids leads OK lead (tuple_entry es) s f o d).1
    tree-adds (reference q) s f o d = put-adds leads (reference_at (ids q)) s (reference q) (stands ids leads OK lead (reference q) s f o d).1
    tree-adds (item n h) s f o d =
        let x : ItemEntry = record { name = n; shape = h } in
        let w = with_open n s in
        let a = placed_shape ids h w in
        let fresh = fresh-right s w (x ∷ []) (items_in_shape h) (open-enters s x) d in
        let inner = (shape-stands ids leads OK lead h w f o.1 fresh).0 in
        let inside = shape-adds h w f o.1 fresh in
        let open_there : entry_at a.0 (length s) ≡ Some (is_open n (length s)) = stays-at w a.0 (items_in_shape h) (length s) (is_open n (length s)) inner (at-end s (is_open n (length s)) []) in
        let opened = opened-fresh s x (items_in_shape h) d in
        let end : Space × Id → Space = λ p. filled p.1 (placed_shape ids h p.0).1 (placed_shape ids h p.0).0 in
        let whole = stands ids leads OK lead (item n h) s f o d in
        let grown : end (w, length s) ≡ s ++ whole.0.more = sym (ap end opened) ∙ whole.0.grown in
        let tree : Holds leads (end (w, length s)) (item n h) (length s) = subst (λ (p : Space × Id). Holds leads (end p) (item n h) p.1) opened whole.1 in
        subst (λ (p : Space × Id). Adds leads s (end p)) (sym opened) (item-adds leads n (item n h) s a.0 a.1 whole.0.more grown open_there inside tree)

    entries-add : (es : Entries) (s : Space) → are_formed es ≡ true → EachEntry Any OK es → Fresh s (items_in_entries es) → Adds leads s (placed_entries ids es s).0
    entries-add no_entries s f o d = adds-none leads s
    entries-add (entry_then e es) s f o d =
        let a = placed ids None e s in
        let fe = first-true (is_formed e) (are_formed es) f in
        let de = fresh-left s (items_in e) (items_in_entries es) d in
        let h = stands ids leads OK lead e s fe o.0 de in
        let g = entries-add es a.0 (second-true (is_formed e) (are_formed es) f) o.1 (fresh-right s a.0 (items_in e) (items_in_entries es) h.0 d) in
        adds-both leads s a.0 (placed_entries ids es a.0).0 (tree-adds e s fe o.0 de) g
    entries-add (entry_again es) s f o d = entries-add es s (second-true (has_place es) (are_formed es) f) o d

    pub shape-adds : (h : Shape) (s : Space) → is_formed_shape h ≡ true → EachInShape Any OK h → Fresh s (items_in_shape h) → Adds leads s (placed_shape ids h s).0
    shape-adds (struct_shape closed fs) s f o d = fields-add fs s (second-true (is_rest_of (rest_name fs) (rest_of fs)) (are_formed_fields fs) f) o.1 d
    shape-adds (enum_shape closed tag ws) s f o d = variants-add ws s f o d
    shape-adds (newtype_shape e rule) s f o d = tree-adds e s f o d

    fields-add : (fs : Fields) (s : Space) → are_formed_fields fs ≡ true → EachField Any OK fs → Fresh s (items_in_fields fs) → Adds leads s (placed_fields ids fs s).0
    fields-add no_fields s f o d = adds-none leads s
    fields-add (field_then i m e t fs) s f o d =
        let a = placed ids None e s in
        let fe = first-true (is_formed e) (are_formed_fields fs) f in
        let de = fresh-left s (items_in e) (items_in_fields fs) d in
        let h = stands ids leads OK lead e s fe o.0 de in
        let g = fields-add fs a.0 (second-true (is_formed e) (are_formed_fields fs) f) o.1 (fresh-right s a.0 (items_in e) (items_in_fields fs) h.0 d) in
        adds-both leads s a.0 (placed_fields ids fs a.0).0 (tree-adds e s fe o.0 de) g
    fields-add (field_again i m fs) s f o d = fields-add fs s (second-true (has_field fs) (are_formed_fields fs) f) o d
    fields-add (rest_field i e) s f o d = tree-adds e s f o d

    variants-add : (ws : Variants) (s : Space) → are_formed_variants ws ≡ true → EachVariant Any OK ws → Fresh s (items_in_variants ws) → Adds leads s (placed_variants ids ws s).0
    variants-add no_variants s f o d = adds-none leads s
    variants-add (variant_then i m c ws) s f o d =
        let a = placed_contents ids c s in
        let fc = first-true (is_formed_contents c) (are_formed_variants ws) f in
        let dc = fresh-left s (items_in_contents c) (items_in_variants ws) d in
        let h = contents-enter c s fc o.0 dc in
        let g = variants-add ws a.0 (second-true (is_formed_contents c) (are_formed_variants ws) f) o.1 (fresh-right s a.0 (items_in_contents c) (items_in_variants ws) h d) in
        adds-both leads s a.0 (placed_variants ids ws a.0).0 (contents-add c s fc o.0 dc) g

    contents-add : (c : Contents) (s : Space) → is_formed_contents c ≡ true → EachInContents Any OK c → Fresh s (items_in_contents c) → Adds leads s (placed_contents ids c s).0
    contents-add unit_contents s f o d = adds-none leads s
    contents-add (newtype_contents e) s f o d = tree-adds e s f o d
    contents-add (tuple_contents es) s f o d = entries-add es s f o d
    contents-add (struct_contents fs) s f o d = fields-add fs s (second-true (has_no_rest (rest_of fs)) (are_formed_fields fs) f) o.1 d
