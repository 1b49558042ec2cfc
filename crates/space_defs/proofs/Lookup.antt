-- The items of a table and the items of a space that holds it, one beside the other.
use Rattle.std.proofs.Common.{◌≡◌, inl, inr, ℕ, zero, suc, ◌+◌, List, [], ◌∷◌, ◌++◌, map, Bool, true, false, cond, Option, Some, None, refl, sym, ap, ◌∙◌, subst, true≢false, bytes_eq, flat_map, is_some, arith}
use Rattle.std.specs.List.{AllZip, AllByRecursion, IsDistinct}
use Rattle.std.proofs.lemmas.Slice.Eq.{bytes_eq-Decides}
use Rattle.entry_defs.specs.Entry.{Target, Entry, boolean_entry, integer_entry, text_entry, native_entry, any_entry, unit_entry, option_entry, vec_entry, set_entry, map_entry, tuple_entry, array_entry, reference, item, Entries, no_entries, entry_then, entry_again, Shape, struct_shape, enum_shape, newtype_shape, Fields, no_fields, field_then, field_again, rest_field, Variants, no_variants, variant_then, Contents, unit_contents, newtype_contents, tuple_contents, struct_contents}
use Rattle.entry_defs.specs.Space.{Id, FieldAt, RestAt, ContentsAt, VariantAt, ShapeAt, EntryAt, item_at, Space, entry_at, Holds, HoldsEntries, HoldsShape, HoldsFields, HoldsVariants, HoldsContents}
use Rattle.entry_defs.specs.Table.{ItemEntry, TargetEntry, Table, item_named, items_in, items_in_entries, items_in_shape, items_in_fields, items_in_variants, items_in_contents, items_of}
use Rattle.space_defs.specs.Items.{ItemAt, item_then, items_from, items_at}
use Rattle.space_defs.specs.Held.{Stands, ItemIsHeld, HoldsTable}
use Rattle.space_defs.proofs.Lists.{In, in_either, of_flat, of_map, in_map, all_in, Beside, zip_right, same_names, differs}

-- ---- items inside what is held are held

module _ (leads : Target → Id → Bool) (space : Space) where
  mutual
    inside : (e : Entry) (i : Id) → Holds leads space e i → (x : ItemEntry) → In x (items_in e) → ItemIsHeld leads space x
    inside boolean_entry i h x a = absurd a
    inside (integer_entry g) i h x a = absurd a
    inside text_entry i h x a = absurd a
    inside (native_entry f) i h x a = absurd a
    inside any_entry i h x a = absurd a
    inside unit_entry i h x a = absurd a
    inside (option_entry e) i h x a = inside e h.0 h.2 x a
    inside (vec_entry e) i h x a = inside e h.0 h.2 x a
    inside (set_entry e) i h x a = inside e h.0 h.2 x a
    inside (map_entry k e) i h x a =
        let first = inside k h.0 h.3 x in
        let second = inside e h.1 h.4 x in
        elim (in_either x (items_in k) (items_in e) a) [ inl b ↦ first b | inr b ↦ second b ]
    inside (tuple_entry es) i h x a = inside_entries es h.0 h.2 x a
    inside (array_entry e n) i h x a = inside e h.0 h.2 x a
    inside (reference q) i h x a = absurd a
    inside (item n s) i h x (inl e) = subst (ItemIsHeld leads space) e (i, h)
    inside (item n s) i h x (inr a) = inside_shape s h.0 h.2 x a

    inside_entries : (es : Entries) (js : List Id) → HoldsEntries leads space es js → (x : ItemEntry) → In x (items_in_entries es) → ItemIsHeld leads space x
    inside_entries no_entries js h x a = absurd a
    inside_entries (entry_then e es) [] h x a = absurd h
    inside_entries (entry_then e es) (j ∷ js) h x a =
        let first = inside e j h.0 x in
        let second = inside_entries es js h.1 x in
        elim (in_either x (items_in e) (items_in_entries es) a) [ inl b ↦ first b | inr b ↦ second b ]
    inside_entries (entry_again es) [] h x a = absurd h
    inside_entries (entry_again es) (j ∷ js) h x a = inside_entries es js h.1 x a

    inside_shape : (c : Shape) (s : ShapeAt) → HoldsShape leads space c s → (x : ItemEntry) → In x (items_in_shape c) → ItemIsHeld leads space x
    inside_shape (struct_shape closed fs) s h x a = inside_fields fs h.0 h.1 h.3 x a
    inside_shape (enum_shape closed tag ws) s h x a = inside_variants ws h.0 h.2 x a
    inside_shape (newtype_shape e rule) s h x a = inside e h.0 h.2 x a

    inside_fields : (fs : Fields) (gs : List FieldAt) (p : Option RestAt) → HoldsFields leads space fs gs p → (x : ItemEntry) → In x (items_in_fields fs) → ItemIsHeld leads space x
    inside_fields no_fields gs p h x a = absurd a
    inside_fields (field_then i n e s fs) [] p h x a = absurd h
    inside_fields (field_then i n e s fs) (g ∷ gs) p h x a =
        let first = inside e g.entry h.3 x in
        let second = inside_fields fs gs p h.4 x in
        elim (in_either x (items_in e) (items_in_fields fs) a) [ inl b ↦ first b | inr b ↦ second b ]
    inside_fields (field_again i n fs) [] p h x a = absurd h
    inside_fields (field_again i n fs) (g ∷ gs) p h x a = inside_fields fs gs p h.4 x a
    inside_fields (rest_field i e) [] None h x a = absurd h
    inside_fields (rest_field i e) [] (Some p) h x a = inside e p.entry h.1 x a
    inside_fields (rest_field i e) (g ∷ gs) p h x a = absurd h

    inside_variants : (ws : Variants) (xs : List VariantAt) → HoldsVariants leads space ws xs → (x : ItemEntry) → In x (items_in_variants ws) → ItemIsHeld leads space x
    inside_variants no_variants xs h x a = absurd a
    inside_variants (variant_then i n c ws) [] h x a = absurd h
    inside_variants (variant_then i n c ws) (y ∷ ys) h x a =
        let first = inside_contents c y.contents h.2 x in
        let second = inside_variants ws ys h.3 x in
        elim (in_either x (items_in_contents c) (items_in_variants ws) a) [ inl b ↦ first b | inr b ↦ second b ]

    inside_contents : (c : Contents) (y : ContentsAt) → HoldsContents leads space c y → (x : ItemEntry) → In x (items_in_contents c) → ItemIsHeld leads space x
    inside_contents unit_contents y h x a = absurd a
    inside_contents (newtype_contents e) y h x a = inside e h.0 h.2 x a
    inside_contents (tuple_contents es) y h x a = inside_entries es h.0 h.2 x a
    inside_contents (struct_contents fs) y h x a = inside_fields fs h.0 None h.2 x a

  in_target : (ts : List TargetEntry) → AllByRecursion (λ y. ItemIsHeld leads space y.led_to) ts → (x : ItemEntry) → In x (map (λ y. y.led_to) ts) → ItemIsHeld leads space x
  in_target ts h x a =
      let r = of_map (λ y. y.led_to) x ts a in
      subst (ItemIsHeld leads space) r.is (all_in (λ y. ItemIsHeld leads space y.led_to) r.of ts h r.among)

  under_target : (ts : List TargetEntry) → AllByRecursion (λ y. ItemIsHeld leads space y.led_to) ts → (x : ItemEntry) → In x (flat_map (λ y. items_in_shape y.led_to.shape) ts) → ItemIsHeld leads space x
  under_target ts h x a =
      let r = of_flat (λ y. items_in_shape y.led_to.shape) x ts a in
      let k = all_in (λ y. ItemIsHeld leads space y.led_to) r.of ts h r.among in
      inside_shape r.of.led_to.shape k.1.0 k.1.2 x r.inside

  in_tree : (es : List Entry) → AllByRecursion (λ e. (i : Id) × Stands leads space e i) es → (x : ItemEntry) → In x (flat_map items_in es) → ItemIsHeld leads space x
  in_tree es h x a =
      let r = of_flat items_in x es a in
      let k = all_in (λ e. (i : Id) × Stands leads space e i) r.of es h r.among in
      elim k.1 [
        | inl b ↦ inside r.of k.0 b x r.inside
        | inr b ↦ absurd (subst (λ e. In x (items_in e)) b.1 r.inside)
      ]

-- ---- the items of a space are those at its ids

abbrev entry_or : EntryAt → Option EntryAt → EntryAt
entry_or d None = d
entry_or d (Some e) = e

some_is : (a b : EntryAt) → Some a ≡ Some b → a ≡ b
some_is a b e = ap (entry_or a) e

named_or : (k : Id) (e : EntryAt) (is : List ItemAt) (y : ItemAt) → In y is → In y (item_then k e is)
named_or k (item_at n s) is y h = inr h
named_or k _ is y h = h

listed_from : (es : Space) (k i j : Id) (n : List ℕ) (s : ShapeAt) → j ≡ k + i → entry_at es i ≡ Some (item_at n s) → In (record { id = j; name = n; shape = s }) (items_from k es)
listed_from [] k i j n s e h = absurd (true≢false (ap is_some (sym h)))
listed_from (x ∷ xs) k zero j n s e h =
    let k_is : k ≡ j = omega arith in
    subst (λ z. In (record { id = j; name = n; shape = s }) (item_then k z (items_from (suc k) xs))) (sym (some_is x (item_at n s) h)) (inl (ap (λ z. record { id = z; name = n; shape = s }) k_is))
listed_from (x ∷ xs) k (suc i) j n s e h = named_or k x (items_from (suc k) xs) _ (listed_from xs (suc k) i j n s (omega arith) h)

pub listed : (space : Space) (i : Id) (n : List ℕ) (s : ShapeAt) → entry_at space i ≡ Some (item_at n s) → In (record { id = i; name = n; shape = s }) (items_at space)
listed space i n s h = listed_from space 0 i i n s (omega arith) h

record Placed (es : Space) (k : Id) (y : ItemAt) : Type 0 where
  place : Id
  is : y.id ≡ k + place
  there : entry_at es place ≡ Some (item_at y.name y.shape)

placed_later : (e : EntryAt) (es : Space) (k : Id) (y : ItemAt) → Placed es (suc k) y → Placed (e ∷ es) k y
placed_later e es k y p = let m : y.id ≡ suc k + p.place = p.is in record { place = suc p.place; is = omega arith; there = p.there }

placed_then : (e : EntryAt) (es : Space) (k : Id) (y : ItemAt) → (In y (items_from (suc k) es) → Placed (e ∷ es) k y) → In y (item_then k e (items_from (suc k) es)) → Placed (e ∷ es) k y
placed_then (item_at n s) es k y f (inl e) = subst (Placed (item_at n s ∷ es) k) e (record { place = 0; is = omega arith; there = refl })
placed_then (item_at n s) es k y f (inr a) = f a
placed_then _ es k y f a = f a

placed_from : (es : Space) (k : Id) (y : ItemAt) → In y (items_from k es) → Placed es k y
placed_from [] k y a = absurd a
placed_from (e ∷ es) k y a = let rec = placed_from es (suc k) y in placed_then e es k y (λ b. placed_later e es k y (rec b)) a

pub placed : (space : Space) (y : ItemAt) → In y (items_at space) → entry_at space y.id ≡ Some (item_at y.name y.shape)
placed space y a =
    let p = placed_from space 0 y a in
    let e : y.id ≡ 0 + p.place = p.is in
    let f : p.place ≡ y.id = omega arith in
    subst (λ z. entry_at space z ≡ Some (item_at y.name y.shape)) f p.there

-- ---- in the same order

abbrev first_name : List (List ℕ) → List ℕ
first_name [] = []
first_name (n ∷ ns) = n

abbrev other_names : List (List ℕ) → List (List ℕ)
other_names [] = []
other_names (n ∷ ns) = ns

abbrev has_names : List (List ℕ) → Bool
has_names [] = false
has_names (n ∷ ns) = true

abbrev names_of : List ItemEntry → List (List ℕ)
names_of xs = map (λ x. x.name) xs

abbrev names_at : List ItemAt → List (List ℕ)
names_at ys = map (λ y. y.name) ys

first_differs : (n : List ℕ) (ns : List (List ℕ)) → IsDistinct bytes_eq (n ∷ ns) → AllByRecursion (λ y. bytes_eq n y ≡ false) ns
unfolding IsDistinct
first_differs n ns d = d.0

others_differ : (n : List ℕ) (ns : List (List ℕ)) → IsDistinct bytes_eq (n ∷ ns) → IsDistinct bytes_eq ns
unfolding IsDistinct
others_differ n ns d = d.1

pub named_found : (xs : List ItemEntry) → IsDistinct bytes_eq (names_of xs) → (x : ItemEntry) → In x xs → item_named x.name xs ≡ Some x
named_found [] d x a = absurd a
named_found (y ∷ ys) d x (inl e) = subst (λ z. item_named z.name (y ∷ ys) ≡ Some z) e (ap (λ b. cond b (Some y) (item_named y.name ys)) (same_names y.name y.name refl))
named_found (y ∷ ys) d x (inr a) =
    let rec = named_found ys (others_differ y.name (names_of ys) d) x a in
    elim (bytes_eq x.name y.name) as (λ b. bytes_eq x.name y.name ≡ b → cond b (Some y) (item_named x.name ys) ≡ Some x) [
      | true ↦ λ e. absurd (differs y.name (names_of ys) (first_differs y.name (names_of ys) d) (subst (λ z. In z (names_of ys)) ((bytes_eq-Decides x.name y.name).0 e) (in_map (λ z. z.name) x ys a)))
      | false ↦ λ e. rec
    ] refl

one_of_a_name : (ys : List ItemAt) → IsDistinct bytes_eq (names_at ys) → (x y : ItemAt) → In x ys → In y ys → x.name ≡ y.name → x ≡ y
one_of_a_name [] d x y a b e = absurd a
one_of_a_name (z ∷ zs) d x y (inl f) (inl g) e = sym f ∙ g
one_of_a_name (z ∷ zs) d x y (inl f) (inr b) e =
    absurd (differs z.name (names_at zs) (first_differs z.name (names_at zs) d) (subst (λ n. In n (names_at zs)) (sym (ap (λ w. w.name) f ∙ e)) (in_map (λ w. w.name) y zs b)))
one_of_a_name (z ∷ zs) d x y (inr a) (inl g) e =
    absurd (differs z.name (names_at zs) (first_differs z.name (names_at zs) d) (subst (λ n. In n (names_at zs)) (e ∙ sym (ap (λ w. w.name) g)) (in_map (λ w. w.name) x zs a)))
one_of_a_name (z ∷ zs) d x y (inr a) (inr b) e = one_of_a_name zs (others_differ z.name (names_at zs) d) x y a b e

module _ (leads : Target → Id → Bool) (space : Space) where
  -- an item of the table and one of the space: of one name, and the one held by the other
  abbrev pub Matches : ItemEntry → ItemAt → Type 0
  Matches x y = (y.name ≡ x.name) × HoldsShape leads space x.shape y.shape

  abbrev Met : List ItemAt → ItemEntry → Type 0
  Met ys x = Beside Matches x ys

  -- a match of another name than the first item's stands later
  later : (y : ItemAt) (ys : List ItemAt) (x : ItemEntry) → (bytes_eq y.name x.name ≡ false) → Met (y ∷ ys) x → Met ys x
  later y ys x d m = go m.other m.among m.related
    where
      go : (z : ItemAt) → In z (y ∷ ys) → Matches x z → Met ys x
      go z (inl e) r = absurd (true≢false (sym (same_names y.name x.name (sym (ap (λ w. w.name) e ∙ r.0))) ∙ d))
      go z (inr a) r = record { other = z; among = a; related = r }

  -- a match of the first item stands first
  at_front : (x : ItemEntry) (xs : List ItemEntry) (y : ItemAt) (ys : List ItemAt) → names_at ys ≡ names_of xs → AllByRecursion (λ n. bytes_eq x.name n ≡ false) (names_of xs) → Met (y ∷ ys) x → Matches x y
  at_front x xs y ys n d m = go m.other m.among m.related
    where
      go : (z : ItemAt) → In z (y ∷ ys) → Matches x z → Matches x y
      go z (inl e) r = subst (Matches x) (sym e) r
      go z (inr a) r = absurd (differs x.name (names_of xs) d (subst (λ l. In x.name l) n (subst (λ w. In w (names_at ys)) r.0 (in_map (λ w. w.name) z ys a))))

  in_order : (xs : List ItemEntry) (ys : List ItemAt) → names_at ys ≡ names_of xs → IsDistinct bytes_eq (names_of xs) → ((x : ItemEntry) → In x xs → Met ys x) → AllZip Matches xs ys
  in_order [] [] n d m = tt
  in_order [] (y ∷ ys) n d m = absurd (true≢false (ap has_names n))
  in_order (x ∷ xs) [] n d m = absurd (true≢false (sym (ap has_names n)))
  in_order (x ∷ xs) (y ∷ ys) n d m =
      let n0 : y.name ≡ x.name = ap first_name n in
      let n1 : names_at ys ≡ names_of xs = ap other_names n in
      let apart = first_differs x.name (names_of xs) d in
      let apart_at : (z : ItemEntry) → In z xs → bytes_eq y.name z.name ≡ false
      = λ z a. subst (λ w. bytes_eq w z.name ≡ false) (sym n0) (all_in (λ w. bytes_eq x.name w ≡ false) z.name (names_of xs) apart (in_map (λ w. w.name) z xs a)) in (
        at_front x xs y ys n1 apart (m x (inl refl)),
        in_order xs ys n1 (others_differ x.name (names_of xs) d) (λ z a. later y ys z (apart_at z a) (m z (inr a))),
      )

-- ---- what is known where a space holds a table

-- the item of the table that stands at an id
pub record ItemFound (leads : Target → Id → Bool) (space : Space) (t : Table) (n : List ℕ) (s : ShapeAt) : Type 0 where
  pub shape : Shape
  pub named : item_named n (items_of t) ≡ Some (record { name = n; shape = shape })
  pub held : HoldsShape leads space shape s

module _ (leads : Target → Id → Bool) (space : Space) (t : Table) (h : HoldsTable leads space t) where
  held : (x : ItemEntry) → In x (items_of t) → ItemIsHeld leads space x
  held x a =
      let trees = flat_map items_in t.trees in
      let under = flat_map (λ y. items_in_shape y.led_to.shape) t.targets in
      let led = map (λ y. y.led_to) t.targets in
      elim (in_either x (led ++ under) trees a) [
        | inl b ↦ elim (in_either x led under b) [
          | inl c ↦ in_target leads space t.targets h.targets x c
          | inr c ↦ under_target leads space t.targets h.targets x c
        ]
        | inr b ↦ in_tree leads space t.trees h.trees x b
      ]

  met : (x : ItemEntry) → In x (items_of t) → Beside (Matches leads space) x (items_at space)
  met x a =
      let k = held x a in
      record { other = record { id = k.0; name = x.name; shape = k.1.0 }; among = listed space k.0 x.name k.1.0 k.1.1; related = (refl, k.1.2) }

  pub matched : AllZip (Matches leads space) (items_of t) (items_at space)
  matched = in_order leads space (items_of t) (items_at space) h.named h.distinct met

  pub found : (i : Id) (n : List ℕ) (s : ShapeAt) → entry_at space i ≡ Some (item_at n s) → ItemFound leads space t n s
  found i n s e =
      let b = zip_right (Matches leads space) (record { id = i; name = n; shape = s }) (items_of t) (items_at space) matched (listed space i n s e) in
      let x = b.other in
      let f = named_found (items_of t) h.distinct x b.among in
      let same : x ≡ record { name = n; shape = x.shape } = ap (λ z. record { name = z; shape = x.shape }) (sym b.related.0) in
      record { shape = x.shape; named = subst (λ z. item_named z (items_of t) ≡ Some x) (sym b.related.0) f ∙ ap (λ z. Some z) same; held = b.related.1 }

  pub one_id : (i j : Id) (n : List ℕ) (s u : ShapeAt) → entry_at space i ≡ Some (item_at n s) → entry_at space j ≡ Some (item_at n u) → i ≡ j
  one_id i j n s u a b =
      ap (λ y. y.id) (one_of_a_name (items_at space) (subst (IsDistinct bytes_eq) (sym h.named) h.distinct) (record { id = i; name = n; shape = s }) (record { id = j; name = n; shape = u }) (listed space i n s a) (listed space j n u b) refl)
