-- A tree that is entered stands at its id.
use Rattle.std.proofs.Common.{◌≡◌, ℕ, List, [], ◌∷◌, ◌++◌, map, reverse, length, Bool, true, false, Option, Some, None, option_map, refl, sym, ap, subst, ◌∙◌, true≢false, codes, append_assoc}
use Rattle.std.proofs.lemmas.Slice.Eq.{bytes_eq-Decides}
use Rattle.entry_defs.specs.Entry.{Target, Entry, boolean_entry, integer_entry, text_entry, native_entry, any_entry, unit_entry, option_entry, vec_entry, set_entry, map_entry, tuple_entry, array_entry, reference, item, Entries, no_entries, entry_then, entry_again, Shape, struct_shape, enum_shape, newtype_shape, Fields, no_fields, field_then, field_again, rest_field, Rest, no_rest, rest, rest_of, Variants, no_variants, variant_then, Contents, unit_contents, newtype_contents, tuple_contents, struct_contents}
use Rattle.entry_defs.specs.Space.{Id, FieldAt, RestAt, ContentsAt, VariantAt, ShapeAt, newtype_shape_at, EntryAt, boolean_at, integer_at, text_at, native_at, any_at, null_at, option_at, vec_at, set_at, map_at, tuple_entry_at, array_at, reference_at, item_at, Space, entry_at, next_id, next_field_id, Holds, HoldsEntries, HoldsShape, HoldsFields, HoldsVariants, HoldsContents}
use Rattle.entry_defs.specs.Table.{ItemEntry, items_in, items_in_entries, items_in_shape, items_in_fields, items_in_variants, items_in_contents}
use Rattle.entry_defs.specs.Sound.{Any, Each, EachEntry, EachInShape, EachField, EachVariant, EachInContents}
use Rattle.naming_defs.specs.Names.{field_names, field_name}
use Rattle.naming_defs.specs.Good.{is_good_name}
use Rattle.space_defs.specs.Ordered.{parts_of, AreBelow}
use Rattle.entry_types.specs.View.{rest_identifier}
use Rattle.entry_space.specs.Entered.{filled}
use Rattle.entry_space.specs.Laws.{is_open}
use Rattle.entry_space.proofs.Keys.{first-true, second-true}
use Rattle.entry_space.proofs.Stays.{filled_trees_stay}
use Rattle.space_trees.specs.Placed.{put, following, following_field, rest_given, placed, placed_entries, placed_shape, placed_fields, placed_variants, placed_contents}
use Rattle.space_trees.specs.Formed.{has_place, has_field, own_identifiers, rest_name, is_rest_of, has_no_rest, is_formed, are_formed, is_formed_shape, are_formed_fields, are_formed_variants, is_formed_contents}
use Rattle.space_trees.proofs.Places.{names-filled, at-end, filled-end, at-filled, lower-filled, is_item}
use Rattle.space_trees.proofs.Enters.{Enters, enters-none, enters-both, enters-then, stays-at, keeps, Fresh, fresh-left, fresh-right, put-done, with_open, opened-fresh, open-enters}
use Rattle.space_trees.proofs.Kept.{entries-kept, contents-kept, shape-kept, held-below, entries-below}

-- ---- rests

given-if : (n : List ℕ) (r : Rest) → has_no_rest r ≡ true → is_rest_of n r ≡ true
given-if n no_rest h = refl
given-if n (rest i e) h = absurd (true≢false (sym h))

module _ (ids : Target → Id) where
  own-names : (fs : Fields) (s : Space) → map (λ g. g.identifier) (placed_fields ids fs s).1 ≡ own_identifiers fs
  own-names no_fields s = refl
  own-names (field_then i n e t fs) s = ap (λ z. i ∷ z) (own-names fs (placed ids None e s).0)
  own-names (field_again i n fs) s = ap (λ z. i ∷ z) (own-names fs s)
  own-names (rest_field i e) s = refl

  json-names : (fs : Fields) (s : Space) → map (λ g. g.name) (placed_fields ids fs s).1 ≡ field_names fs
  json-names no_fields s = refl
  json-names (field_then i n e t fs) s = ap (λ z. n ∷ z) (json-names fs (placed ids None e s).0)
  json-names (field_again i n fs) s = ap (λ z. n ∷ z) (json-names fs s)
  json-names (rest_field i e) s = refl

  rest-named : (fs : Fields) (s : Space) → rest_name fs ≡ rest_identifier (placed_fields ids fs s).1
  rest-named fs s = λ x. field_name is_good_name (reverse (sym (own-names fs s) x)) (sym (json-names fs s) x) (codes "extra")

  no-rest : (fs : Fields) (s : Space) → has_no_rest (rest_of fs) ≡ true → (placed_fields ids fs s).2 ≡ None
  no-rest no_fields s h = refl
  no-rest (field_then i n e t fs) s h = no-rest fs (placed ids None e s).0 h
  no-rest (field_again i n fs) s h = no-rest fs s h
  no-rest (rest_field i e) s h = absurd (true≢false (sym h))

  next-place : (es : Entries) (s : Space) → has_place es ≡ true → next_id (placed_entries ids es s).1 ≡ Some (following (placed_entries ids es s).1)
  next-place no_entries s h = absurd (true≢false (sym h))
  next-place (entry_then e es) s h = refl
  next-place (entry_again es) s h = refl

  abbrev named_rest : List ℕ → Option Id → Option RestAt
  named_rest n o = option_map (λ i. record { identifier = n; entry = i }) o

  next-field : (n : List ℕ) (fs : Fields) (s : Space) → has_field fs ≡ true
      → next_field_id (placed_fields ids fs s).1 (named_rest n (placed_fields ids fs s).2) ≡ Some (following_field (placed_fields ids fs s).1 (placed_fields ids fs s).2)
  next-field n no_fields s h = absurd (true≢false (sym h))
  next-field n (field_then i m e t fs) s h = refl
  next-field n (field_again i m fs) s h = refl
  next-field n (rest_field i e) s h = refl

  module _ (leads : Target → Id → Bool) (OK : Target → Type 0) (led : (q : Target) → OK q → leads q (ids q) ≡ true) where
    abbrev pub Stood : Entry → Space → Space × Id → Type 0
    Stood e s a = Enters s a.0 (items_in e) × Holds leads a.0 e a.1

    abbrev StoodEntries : Entries → Space → Space × List Id → Type 0
    StoodEntries es s a = Enters s a.0 (items_in_entries es) × HoldsEntries leads a.0 es a.1

    abbrev pub StoodShape : Shape → Space → Space × ShapeAt → Type 0
    StoodShape h s a = Enters s a.0 (items_in_shape h) × HoldsShape leads a.0 h a.1

    abbrev StoodFields : Fields → Space → Space × List FieldAt × Option Id → Type 0
    StoodFields fs s a = Enters s a.0 (items_in_fields fs) × ((n : List ℕ) → is_rest_of n (rest_of fs) ≡ true → HoldsFields leads a.0 fs a.1 (named_rest n a.2))

    abbrev StoodVariants : Variants → Space → Space × List VariantAt → Type 0
    StoodVariants ws s a = Enters s a.0 (items_in_variants ws) × HoldsVariants leads a.0 ws a.1

    abbrev StoodContents : Contents → Space → Space × ContentsAt → Type 0
    StoodContents c s a = Enters s a.0 (items_in_contents c) × HoldsContents leads a.0 c a.1

    -- what holds one part
    one : (e : Entry) (s : Space) (a : Space × Id) (x : EntryAt) → is_item x ≡ false → parts_of x ≡ a.1 ∷ [] → Stood e s a
        → Enters s (put x a.0).0 (items_in e) × (entry_at (put x a.0).0 (put x a.0).1 ≡ Some x) × Holds leads (put x a.0).0 e a.1
    one e s a x q w h =
        let p = put-done x a.0 q (subst (AreBelow (length a.0)) (sym w) (held-below leads a.0 e a.1 h.1, tt)) in
        (enters-then s a.0 (put x a.0).0 (items_in e) h.0 p.0, p.1, keeps leads a.0 (put x a.0).0 [] p.0 e a.1 h.1)

    -- an item, where it was opened and what is in it entered
    item-done : (n : List ℕ) (h : Shape) (s : Space) (a : Space × ShapeAt) → StoodShape h (with_open n s) a → Stood (item n h) s (filled (length s) a.1 a.0, length s)
    item-done n h s a r =
        let x : ItemEntry = record { name = n; shape = h } in
        let both : Enters s a.0 (x ∷ items_in_shape h) = enters-both s (with_open n s) a.0 (x ∷ []) (items_in_shape h) (open-enters s x) r.0 in
        let open_there : entry_at a.0 (length s) ≡ Some (is_open n (length s)) = stays-at (with_open n s) a.0 (items_in_shape h) (length s) (is_open n (length s)) r.0 (at-end s (is_open n (length s)) []) in (
          record {
            more = item_at n a.1 ∷ r.0.more;
            grown =
                ap (filled (length s) a.1) (r.0.grown ∙ append_assoc s (is_open n (length s) ∷ []) r.0.more)
                ∙ filled-end s n a.1 (newtype_shape_at (length s) None) r.0.more;
            named = names-filled (length s) a.1 a.0 ∙ both.named;
            lower = λ low. lower-filled (length s) a.1 a.0 (both.lower low);
          },
          (
            a.1,
            at-filled a.0 (length s) n a.1 (newtype_shape_at (length s) None) open_there,
            shape-kept leads a.0 (filled (length s) a.1 a.0) (λ e i g. filled_trees_stay leads n (length s) a.1 a.0 e i open_there g) h a.1 r.1,
          ),
        )

    open-fresh : (s : Space) (x : ItemEntry) (xs : List ItemEntry) → Fresh s (x ∷ xs) → Fresh (with_open x.name s) xs
    open-fresh s x xs d = fresh-right s (with_open x.name s) (x ∷ []) xs (open-enters s x) d

    mutual
      pub stands : (e : Entry) (s : Space) → is_formed e ≡ true → Each Any OK e → Fresh s (items_in e) → Stood e s (placed ids None e s)
      stands boolean_entry s f o d = put-done boolean_at s refl tt
      stands (integer_entry g) s f o d = put-done (integer_at g) s refl tt
      stands text_entry s f o d = put-done text_at s refl tt
      stands (native_entry g) s f o d = put-done (native_at g) s refl tt
      stands any_entry s f o d = put-done any_at s refl tt
      stands unit_entry s f o d = put-done null_at s refl tt
      stands (option_entry e) s f o d =
          let a = placed ids None e s in
          let r = one e s a (option_at a.1) refl refl (stands e s f o d) in (r.0, (a.1, r.1, r.2))
      stands (vec_entry e) s f o d =
          let a = placed ids None e s in
          let r = one e s a (vec_at a.1) refl refl (stands e s f o d) in (r.0, (a.1, r.1, r.2))
      stands (set_entry e) s f o d =
          let a = placed ids None e s in
          let r = one e s a (set_at a.1) refl refl (stands e s f o d) in (r.0, (a.1, r.1, r.2))
      stands (array_entry e n) s f o d =
          let a = placed ids None e s in
          let r = one e s a (array_at a.1 n) refl refl (stands e s f o d) in (r.0, (a.1, r.1, r.2))
      stands (map_entry k e) s f o d =
          let a = placed ids None k s in
          let b = placed ids None e a.0 in
          let h = stands k s (first-true (is_formed k) (is_formed e) f) o.0 (fresh-left s (items_in k) (items_in e) d) in
          let g = stands e a.0 (second-true (is_formed k) (is_formed e) f) o.1 (fresh-right s a.0 (items_in k) (items_in e) h.0 d) in
          let there : Holds leads b.0 k a.1 = keeps leads a.0 b.0 (items_in e) g.0 k a.1 h.1 in
          let p = put-done (map_at a.1 b.1) b.0 refl (held-below leads b.0 k a.1 there, (held-below leads b.0 e b.1 g.1, tt)) in
          let t = (put (map_at a.1 b.1) b.0).0 in (
            enters-then s b.0 t (items_in k ++ items_in e) (enters-both s a.0 b.0 (items_in k) (items_in e) h.0 g.0) p.0,
            (a.1, b.1, p.1, keeps leads b.0 t [] p.0 k a.1 there, keeps leads b.0 t [] p.0 e b.1 g.1),
          )
      stands (tuple_entry es) s f o d =
          let a = placed_entries ids es s in
          let h = entries-stand es s f o d in
          let p = put-done (tuple_entry_at a.1) a.0 refl (entries-below leads a.0 es a.1 h.1) in
          let t = (put (tuple_entry_at a.1) a.0).0 in
          (enters-then s a.0 t (items_in_entries es) h.0 p.0, (a.1, p.1, entries-kept leads a.0 t (keeps leads a.0 t [] p.0) es a.1 h.1))
      stands (reference q) s f o d = let p = put-done (reference_at (ids q)) s refl tt in (p.0, (ids q, p.1, led q o))
      stands (item n h) s f o d =
          let x : ItemEntry = record { name = n; shape = h } in
          subst (λ (p : Space × Id). Stood (item n h) s (filled p.1 (placed_shape ids h p.0).1 (placed_shape ids h p.0).0, p.1)) (sym (opened-fresh s x (items_in_shape h) d))
          (item-done n h s (placed_shape ids h (with_open n s)) (shape-stands h (with_open n s) f o.1 (open-fresh s x (items_in_shape h) d)))

      entries-stand : (es : Entries) (s : Space) → are_formed es ≡ true → EachEntry Any OK es → Fresh s (items_in_entries es) → StoodEntries es s (placed_entries ids es s)
      entries-stand no_entries s f o d = (enters-none s, tt)
      entries-stand (entry_then e es) s f o d =
          let a = placed ids None e s in
          let b = placed_entries ids es a.0 in
          let h = stands e s (first-true (is_formed e) (are_formed es) f) o.0 (fresh-left s (items_in e) (items_in_entries es) d) in
          let g = entries-stand es a.0 (second-true (is_formed e) (are_formed es) f) o.1 (fresh-right s a.0 (items_in e) (items_in_entries es) h.0 d) in
          (enters-both s a.0 b.0 (items_in e) (items_in_entries es) h.0 g.0, (keeps leads a.0 b.0 (items_in_entries es) g.0 e a.1 h.1, g.1))
      entries-stand (entry_again es) s f o d =
          let g = entries-stand es s (second-true (has_place es) (are_formed es) f) o d in
          (g.0, (next-place es s (first-true (has_place es) (are_formed es) f), g.1))

      pub shape-stands : (h : Shape) (s : Space) → is_formed_shape h ≡ true → EachInShape Any OK h → Fresh s (items_in_shape h) → StoodShape h s (placed_shape ids h s)
      shape-stands (struct_shape closed fs) s f o d =
          let a = placed_fields ids fs s in
          let r = fields-stand fs s (second-true (is_rest_of (rest_name fs) (rest_of fs)) (are_formed_fields fs) f) o.1 d in
          let is_named : is_rest_of (rest_identifier a.1) (rest_of fs) ≡ true =
          subst (λ n. is_rest_of n (rest_of fs) ≡ true) (rest-named fs s) (first-true (is_rest_of (rest_name fs) (rest_of fs)) (are_formed_fields fs) f)
          in (r.0, (a.1, rest_given a.1 a.2, refl, r.1 (rest_identifier a.1) is_named))
      shape-stands (enum_shape closed tag ws) s f o d =
          let a = placed_variants ids ws s in
          let r = variants-stand ws s f o d in (r.0, (a.1, refl, r.1))
      shape-stands (newtype_shape e rule) s f o d =
          let a = placed ids None e s in
          let r = stands e s f o d in (r.0, (a.1, refl, r.1))

      fields-stand : (fs : Fields) (s : Space) → are_formed_fields fs ≡ true → EachField Any OK fs → Fresh s (items_in_fields fs) → StoodFields fs s (placed_fields ids fs s)
      fields-stand no_fields s f o d = (enters-none s, λ n w. tt)
      fields-stand (field_then i m e t fs) s f o d =
          let a = placed ids None e s in
          let b = placed_fields ids fs a.0 in
          let h = stands e s (first-true (is_formed e) (are_formed_fields fs) f) o.0 (fresh-left s (items_in e) (items_in_fields fs) d) in
          let g = fields-stand fs a.0 (second-true (is_formed e) (are_formed_fields fs) f) o.1 (fresh-right s a.0 (items_in e) (items_in_fields fs) h.0 d) in (
            enters-both s a.0 b.0 (items_in e) (items_in_fields fs) h.0 g.0,
            λ n w. (refl, refl, refl, keeps leads a.0 b.0 (items_in_fields fs) g.0 e a.1 h.1, g.1 n w),
          )
      fields-stand (field_again i m fs) s f o d =
          let g = fields-stand fs s (second-true (has_field fs) (are_formed_fields fs) f) o d in
          (g.0, λ n w. (refl, refl, refl, next-field n fs s (first-true (has_field fs) (are_formed_fields fs) f), g.1 n w))
      fields-stand (rest_field i e) s f o d =
          let h = stands e s f o d in (h.0, λ n w. (sym ((bytes_eq-Decides i n).0 w), h.1))

      variants-stand : (ws : Variants) (s : Space) → are_formed_variants ws ≡ true → EachVariant Any OK ws → Fresh s (items_in_variants ws) → StoodVariants ws s (placed_variants ids ws s)
      variants-stand no_variants s f o d = (enters-none s, tt)
      variants-stand (variant_then i m c ws) s f o d =
          let a = placed_contents ids c s in
          let b = placed_variants ids ws a.0 in
          let h = contents-stand c s (first-true (is_formed_contents c) (are_formed_variants ws) f) o.0 (fresh-left s (items_in_contents c) (items_in_variants ws) d) in
          let g = variants-stand ws a.0 (second-true (is_formed_contents c) (are_formed_variants ws) f) o.1 (fresh-right s a.0 (items_in_contents c) (items_in_variants ws) h.0 d) in (
            enters-both s a.0 b.0 (items_in_contents c) (items_in_variants ws) h.0 g.0,
            (refl, refl, contents-kept leads a.0 b.0 (keeps leads a.0 b.0 (items_in_variants ws) g.0) c a.1 h.1, g.1),
          )

      contents-stand : (c : Contents) (s : Space) → is_formed_contents c ≡ true → EachInContents Any OK c → Fresh s (items_in_contents c) → StoodContents c s (placed_contents ids c s)
      contents-stand unit_contents s f o d = (enters-none s, refl)
      contents-stand (newtype_contents e) s f o d =
          let a = placed ids None e s in
          let r = stands e s f o d in (r.0, (a.1, refl, r.1))
      contents-stand (tuple_contents es) s f o d =
          let a = placed_entries ids es s in
          let r = entries-stand es s f o d in (r.0, (a.1, refl, r.1))
      contents-stand (struct_contents fs) s f o d =
          let a = placed_fields ids fs s in
          let none = first-true (has_no_rest (rest_of fs)) (are_formed_fields fs) f in
          let r = fields-stand fs s (second-true (has_no_rest (rest_of fs)) (are_formed_fields fs) f) o.1 d in
          (r.0, (a.1, refl, subst (λ p. HoldsFields leads a.0 fs a.1 (named_rest [] p)) (no-rest fs s none) (r.1 [] (given-if [] (rest_of fs) none))))
