-- In a space that holds a table an item reaches another by uses exactly where it does in the table.
use Rattle.std.proofs.Common.{◌≡◌, ◌⊎◌, inl, inr, ◌≤◌, ℕ, zero, suc, List, [], ◌∷◌, ◌++◌, map, length, Contains, Bool, true, false, Option, Some, None, is_some, refl, sym, ap, ◌∙◌, subst, true≢false, arith}
use Rattle.std.specs.List.{AllZip}
use Rattle.entry_defs.specs.Entry.{Target, Entry, boolean_entry, integer_entry, text_entry, native_entry, any_entry, unit_entry, option_entry, vec_entry, set_entry, map_entry, tuple_entry, array_entry, reference, item, Entries, no_entries, entry_then, entry_again, Shape, struct_shape, enum_shape, newtype_shape, Contents, unit_contents, newtype_contents, tuple_contents, struct_contents, FieldEntry, fields_of, variants_of}
use Rattle.entry_defs.specs.Space.{Id, FieldAt, ContentsAt, ShapeAt, EntryAt, item_at, Space, entry_at, Holds, HoldsEntries, HoldsShape, HoldsContents}
use Rattle.entry_defs.specs.Table.{ItemEntry, Table, target_item, target_name, item_name, item_named, items_of}
use Rattle.emit_defs.specs.Setting.{uses, uses_of_entries, uses_of_fields, uses_of_contents, uses_of_shape, uses_of_item, boxes}
use Rattle.emit_defs.specs.Boxing.{Uses, ReachesByValue, one_use, more_uses, BoxesAreExact}
use Rattle.use_graph.specs.Graph as graph
use Rattle.use_graph.specs.Graph.{Graph, row_of, Reaches}
use Rattle.use_graph.specs.Laws.{ReachingIsDecided}
use Rattle.space_defs.specs.Uses.{used_by_contents, used_by_shape, used_by, uses_at, boxes_at}
use Rattle.space_defs.specs.Held.{HoldsTable}
use Rattle.space_defs.proofs.Lists.{In, in_left, in_right, in_either, in_flat, of_flat, of_map, in_map, zip_left, zip_right, contains_in, in_contains, in_among, among_in, same_bools, length_map}
use Rattle.space_defs.proofs.Pairs.{id_or, FieldHeld, fields_held, VariantHeld, variants_held}
use Rattle.space_defs.proofs.Lookup.{found, one_id}

-- ---- the row of an id

abbrev used_or : EntryAt → Option EntryAt → List Id
used_or d None = used_by d
used_or d (Some x) = used_by x

row_at : (es : Space) (i : Id) (e : EntryAt) → entry_at es i ≡ Some e → row_of (map used_by es) i ≡ used_by e
row_at [] i e h = absurd (true≢false (sym (ap is_some h)))
row_at (x ∷ xs) zero e h = ap (used_or x) h
row_at (x ∷ xs) (suc i) e h = row_at xs i e h

used_in : (space : Space) (i j : Id) (e : EntryAt) → entry_at space i ≡ Some e → graph.Uses (uses_at space) i j → In j (used_by e)
used_in space i j e h u = contains_in j (used_by e) (subst (λ r. Contains r j) (row_at space i e h) u)

pub uses_it : (space : Space) (i j : Id) (e : EntryAt) → entry_at space i ≡ Some e → In j (used_by e) → graph.Uses (uses_at space) i j
uses_it space i j e h a = subst (λ r. Contains r j) (sym (row_at space i e h)) (in_contains j (used_by e) a)

reaches_on : (g : Graph) (i j k : Id) → Reaches g i j → Reaches g j k → Reaches g i k
reaches_on g _ _ k (graph.one_use i j u) r = graph.more_uses i j k u r
reaches_on g _ _ k (graph.more_uses i m j u v) r = graph.more_uses i m k u (reaches_on g m j k v r)

only : (P : Id → Type 0) (j k : Id) → In j (k ∷ []) → P k → P j
only P j k (inl e) p = subst P e p
only P j k (inr b) p = absurd b

module _ (leads : Target → Id → Bool) (space : Space) (t : Table) (h : HoldsTable leads space t) where
  abbrev name : Target → List ℕ
  name q = target_name t q

  abbrev g : Graph
  g = uses_at space

  -- what stands at a used id: it uses no more than these
  record Part (us : List (List ℕ)) (j : Id) : Type 0 where
    to : Entry
    held : Holds leads space to j
    within : (u : List ℕ) → In u (uses name to) → In u us

  abbrev itself : (e : Entry) (j : Id) → Holds leads space e j → Part (uses name e) j
  itself e j k = record { to = e; held = k; within = λ u a. a }

  abbrev wider : (us vs : List (List ℕ)) (j : Id) → ((u : List ℕ) → In u us → In u vs) → Part us j → Part vs j
  wider us vs j f p = record { to = p.to; held = p.held; within = λ u a. f u (p.within u a) }

  abbrev the_part : (us : List (List ℕ)) (j k : Id) → In j (k ∷ []) → Part us k → Part us j
  the_part us j k a p = only (Part us) j k a p

  -- ---- one step in the space

  parts_of_entries : (es : Entries) (js : List Id) → HoldsEntries leads space es js → (j : Id) → In j js → Part (uses_of_entries name es) j
  parts_of_entries no_entries [] k j a = absurd a
  parts_of_entries no_entries (i ∷ js) k j a = absurd k
  parts_of_entries (entry_then e es) [] k j a = absurd k
  parts_of_entries (entry_then e es) (i ∷ js) k j (inl x) =
      subst (Part (uses name e ++ uses_of_entries name es)) x (wider (uses name e) (uses name e ++ uses_of_entries name es) i (λ u. in_left u (uses name e) (uses_of_entries name es)) (itself e i k.0))
  parts_of_entries (entry_then e es) (i ∷ js) k j (inr a) =
      wider (uses_of_entries name es) (uses name e ++ uses_of_entries name es) j (λ u. in_right u (uses name e) (uses_of_entries name es)) (parts_of_entries es js k.1 j a)
  parts_of_entries (entry_again es) [] k j a = absurd k
  parts_of_entries (entry_again es) (i ∷ []) k j a = absurd (true≢false (sym (ap is_some k.0)))
  parts_of_entries (entry_again es) (i ∷ l ∷ js) k j (inl x) = parts_of_entries es (l ∷ js) k.1 j (inl (ap (id_or i) k.0 ∙ x))
  parts_of_entries (entry_again es) (i ∷ l ∷ js) k j (inr a) = parts_of_entries es (l ∷ js) k.1 j a

  parts_of_fields : (fs : List FieldEntry) (gs : List FieldAt) → AllZip (FieldHeld leads space) fs gs → (j : Id) → In j (map (λ y. y.entry) gs) → Part (uses_of_fields name fs) j
  parts_of_fields fs gs z j a =
      let r = of_map (λ y. y.entry) j gs a in
      let b = zip_right (FieldHeld leads space) r.of fs gs z r.among in
      let f = b.other in
      subst (Part (uses_of_fields name fs)) r.is (wider (uses name f.entry) (uses_of_fields name fs) r.of.entry (λ u. in_flat (λ x. uses name x.entry) u f fs b.among) (itself f.entry r.of.entry b.related.entry))

  parts_of_contents : (c : Contents) (x : ContentsAt) → HoldsContents leads space c x → (j : Id) → In j (used_by_contents x) → Part (uses_of_contents name c) j
  parts_of_contents unit_contents x k j a = absurd (subst (λ y. In j (used_by_contents y)) k a)
  parts_of_contents (newtype_contents e) x k j a = the_part (uses name e) j k.0 (subst (λ y. In j (used_by_contents y)) k.1 a) (itself e k.0 k.2)
  parts_of_contents (tuple_contents es) x k j a = parts_of_entries es k.0 k.2 j (subst (λ y. In j (used_by_contents y)) k.1 a)
  parts_of_contents (struct_contents fs) x k j a = parts_of_fields (fields_of fs) k.0 (fields_held leads space fs k.0 None k.2) j (subst (λ y. In j (used_by_contents y)) k.1 a)

  parts_of_shape : (c : Shape) (s : ShapeAt) → HoldsShape leads space c s → (j : Id) → In j (used_by_shape s) → Part (uses_of_shape name c) j
  parts_of_shape (struct_shape closed fs) s k j a = parts_of_fields (fields_of fs) k.0 (fields_held leads space fs k.0 k.1 k.3) j (subst (λ y. In j (used_by_shape y)) k.2 a)
  parts_of_shape (enum_shape closed tag ws) s k j a =
      let b = subst (λ y. In j (used_by_shape y)) k.1 a in
      let r = of_flat (λ x. used_by_contents x.contents) j k.0 b in
      let o = zip_right (VariantHeld leads space) r.of (variants_of ws) k.0 (variants_held leads space ws k.0 k.2) r.among in
      wider (uses_of_contents name o.other.contents) (uses_of_shape name (enum_shape closed tag ws)) j (λ u. in_flat (λ w. uses_of_contents name w.contents) u o.other (variants_of ws) o.among)
      (parts_of_contents o.other.contents r.of.contents o.related.contents j r.inside)
  parts_of_shape (newtype_shape e rule) s k j a = the_part (uses name e) j k.0 (subst (λ y. In j (used_by_shape y)) k.1 a) (itself e k.0 k.2)

  -- what is used by way of an entry: of an item, what that item uses
  abbrev Passes : Entry → List ℕ → Type 0
  Passes (item n s) u = Uses t n u
  Passes e u = In u (uses name e)

  record Step (e : Entry) (j : Id) : Type 0 where
    to : Entry
    held : Holds leads space to j
    passes : (u : List ℕ) → In u (uses name to) → Passes e u

  led_name : (q : Target) (x : ItemEntry) → target_item t q ≡ Some x → name q ≡ x.name
  led_name q x e = ap item_name e

  step : (e : Entry) (i j : Id) → Holds leads space e i → graph.Uses g i j → Step e j
  step boolean_entry i j k u = absurd (used_in space i j _ k u)
  step (integer_entry x) i j k u = absurd (used_in space i j _ k u)
  step text_entry i j k u = absurd (used_in space i j _ k u)
  step (native_entry f) i j k u = absurd (used_in space i j _ k u)
  step any_entry i j k u = absurd (used_in space i j _ k u)
  step unit_entry i j k u = absurd (used_in space i j _ k u)
  step (option_entry e) i j k u = let p = the_part (uses name e) j k.0 (used_in space i j _ k.1 u) (itself e k.0 k.2) in record { to = p.to; held = p.held; passes = p.within }
  step (vec_entry e) i j k u = absurd (used_in space i j _ k.1 u)
  step (set_entry e) i j k u = absurd (used_in space i j _ k.1 u)
  step (map_entry l e) i j k u = absurd (used_in space i j _ k.2 u)
  step (tuple_entry es) i j k u = let p = parts_of_entries es k.0 k.2 j (used_in space i j _ k.1 u) in record { to = p.to; held = p.held; passes = p.within }
  step (array_entry e n) i j k u = let p = the_part (uses name e) j k.0 (used_in space i j _ k.1 u) (itself e k.0 k.2) in record { to = p.to; held = p.held; passes = p.within }
  step (reference q) i j k u =
      let l = h.led q k.0 k.2 in
      let p = the_part (l.0.name ∷ []) j k.0 (used_in space i j _ k.1 u) (itself (item l.0.name l.0.shape) k.0 l.2) in
      record { to = p.to; held = p.held; passes = λ v a. subst (λ n. In v (n ∷ [])) (sym (led_name q l.0 l.1)) (p.within v a) }
  step (item n c) i j k u =
      let f = found leads space t h i n k.0 k.1 in
      let p = parts_of_shape f.shape k.0 f.held j (used_in space i j _ k.1 u) in
      record { to = p.to; held = p.held; passes = λ v a. in_among v (uses_of_item name (item_named n (items_of t))) (subst (λ o. In v (uses_of_item name o)) (sym f.named) (p.within v a)) }

  -- ---- ways in the space are ways in the table

  abbrev Ends : List ℕ → List ℕ → Type 0
  Ends u n = (u ≡ n) ⊎ ReachesByValue t u n

  record Comes (e : Entry) (n : List ℕ) : Type 0 where
    by : List ℕ
    used : In by (uses name e)
    ends : Ends by n

  -- an item reaches, and another entry uses what does or is that item
  abbrev Way : Entry → List ℕ → Type 0
  Way (item m s) n = ReachesByValue t m n
  Way e n = Comes e n

  passed : (e : Entry) (u n : List ℕ) → Passes e u → Ends u n → Way e n
  passed (item m s) u n p (inl e) = one_use m n (subst (Uses t m) e p)
  passed (item m s) u n p (inr r) = more_uses m u n p r
  passed _ u n p k = record { by = u; used = p; ends = k }

  comes : (e : Entry) (n : List ℕ) → Way e n → Comes e n
  comes (item m s) n w = record { by = m; used = inl refl; ends = inr w }
  comes _ n w = w

  abbrev name_of_form : Option EntryAt → Option (List ℕ)
  name_of_form (Some (item_at n s)) = Some n
  name_of_form _ = None

  abbrev name_or : List ℕ → Option (List ℕ) → List ℕ
  name_or d None = d
  name_or d (Some n) = n

  no_item : (n : List ℕ) (s : ShapeAt) (e : EntryAt) (i : Id) → name_of_form (Some e) ≡ None → entry_at space i ≡ Some e → entry_at space i ≡ Some (item_at n s) → ⊥
  no_item n s e i z a b = true≢false (ap is_some (ap name_of_form (sym b ∙ a) ∙ z))

  -- what stands where an item is uses that item
  uses_item : (e : Entry) (i : Id) → Holds leads space e i → (n : List ℕ) (s : ShapeAt) → entry_at space i ≡ Some (item_at n s) → In n (uses name e)
  uses_item boolean_entry i k n s b = absurd (no_item n s _ i refl k b)
  uses_item (integer_entry x) i k n s b = absurd (no_item n s _ i refl k b)
  uses_item text_entry i k n s b = absurd (no_item n s _ i refl k b)
  uses_item (native_entry f) i k n s b = absurd (no_item n s _ i refl k b)
  uses_item any_entry i k n s b = absurd (no_item n s _ i refl k b)
  uses_item unit_entry i k n s b = absurd (no_item n s _ i refl k b)
  uses_item (option_entry e) i k n s b = absurd (no_item n s _ i refl k.1 b)
  uses_item (vec_entry e) i k n s b = absurd (no_item n s _ i refl k.1 b)
  uses_item (set_entry e) i k n s b = absurd (no_item n s _ i refl k.1 b)
  uses_item (map_entry l e) i k n s b = absurd (no_item n s _ i refl k.2 b)
  uses_item (tuple_entry es) i k n s b = absurd (no_item n s _ i refl k.1 b)
  uses_item (array_entry e l) i k n s b = absurd (no_item n s _ i refl k.1 b)
  uses_item (reference q) i k n s b = absurd (no_item n s _ i refl k.1 b)
  uses_item (item m c) i k n s b = inl (ap (name_or m) (ap name_of_form (sym k.1 ∙ b)))

  reached : (i j : Id) → Reaches g i j → (e : Entry) → Holds leads space e i → (n : List ℕ) (s : ShapeAt) → entry_at space j ≡ Some (item_at n s) → Way e n
  reached _ _ (graph.one_use i j u) e k n s b =
      let x = step e i j k u in
      passed e n n (x.passes n (uses_item x.to j x.held n s b)) (inl refl)
  reached _ _ (graph.more_uses i l j u r) e k n s b =
      let x = step e i l k u in
      let w = comes x.to n (reached l j r x.to x.held n s b) in
      passed e w.by n (x.passes w.by w.used) w.ends

  -- ---- ways in the table are ways in the space

  abbrev Onward : Id → Id → Type 0
  Onward i j = (i ≡ j) ⊎ Reaches g i j

  use_then : (i k j : Id) → graph.Uses g i k → Onward k j → Reaches g i j
  use_then i k j u (inl e) = graph.one_use i j (subst (graph.Uses g i) e u)
  use_then i k j u (inr r) = graph.more_uses i k j u r

  -- the item of that name is come to
  record Found (u : List ℕ) (i : Id) : Type 0 where
    at : Id
    shape : ShapeAt
    there : entry_at space at ≡ Some (item_at u shape)
    onward : Onward i at

  after : (u : List ℕ) (i k : Id) → graph.Uses g i k → Found u k → Found u i
  after u i k v f = record { at = f.at; shape = f.shape; there = f.there; onward = inr (use_then i k f.at v f.onward) }

  record FoundBy (u : List ℕ) (js : List Id) : Type 0 where
    by : Id
    among : In by js
    rest : Found u by

  abbrev the_found : (u : List ℕ) (j : Id) → Found u j → FoundBy u (j ∷ [])
  the_found u j f = record { by = j; among = inl refl; rest = f }

  used_after : (u : List ℕ) (i : Id) (e : EntryAt) → entry_at space i ≡ Some e → FoundBy u (used_by e) → Found u i
  used_after u i e b f = after u i f.by (uses_it space i f.by e b f.among) f.rest

  mutual
    finds : (e : Entry) (i : Id) → Holds leads space e i → (u : List ℕ) → In u (uses name e) → Found u i
    finds boolean_entry i k u a = absurd a
    finds (integer_entry x) i k u a = absurd a
    finds text_entry i k u a = absurd a
    finds (native_entry f) i k u a = absurd a
    finds any_entry i k u a = absurd a
    finds unit_entry i k u a = absurd a
    finds (option_entry e) i k u a = used_after u i _ k.1 (the_found u k.0 (finds e k.0 k.2 u a))
    finds (vec_entry e) i k u a = absurd a
    finds (set_entry e) i k u a = absurd a
    finds (map_entry l e) i k u a = absurd a
    finds (tuple_entry es) i k u a = used_after u i _ k.1 (finds_entries es k.0 k.2 u a)
    finds (array_entry e n) i k u a = used_after u i _ k.1 (the_found u k.0 (finds e k.0 k.2 u a))
    finds (reference q) i k u (inl e) =
        let l = h.led q k.0 k.2 in
        let n : l.0.name ≡ u = sym (led_name q l.0 l.1) ∙ e in
        used_after u i _ k.1 (the_found u k.0 (record { at = k.0; shape = l.2.0; there = subst (λ m. entry_at space k.0 ≡ Some (item_at m l.2.0)) n l.2.1; onward = inl refl }))
    finds (reference q) i k u (inr b) = absurd b
    finds (item n c) i k u (inl e) = record { at = i; shape = k.0; there = subst (λ m. entry_at space i ≡ Some (item_at m k.0)) e k.1; onward = inl refl }
    finds (item n c) i k u (inr b) = absurd b

    finds_entries : (es : Entries) (js : List Id) → HoldsEntries leads space es js → (u : List ℕ) → In u (uses_of_entries name es) → FoundBy u js
    finds_entries no_entries js k u a = absurd a
    finds_entries (entry_then e es) [] k u a = absurd k
    finds_entries (entry_then e es) (j ∷ js) k u a =
        let first = finds e j k.0 u in
        let rec = finds_entries es js k.1 u in
        elim (in_either u (uses name e) (uses_of_entries name es) a) [
          | inl b ↦ record { by = j; among = inl refl; rest = first b }
          | inr b ↦ let f = rec b in record { by = f.by; among = inr f.among; rest = f.rest }
        ]
    finds_entries (entry_again es) [] k u a = absurd k
    finds_entries (entry_again es) (j ∷ js) k u a = let f = finds_entries es js k.1 u a in record { by = f.by; among = inr f.among; rest = f.rest }

  finds_fields : (fs : List FieldEntry) (gs : List FieldAt) → AllZip (FieldHeld leads space) fs gs → (u : List ℕ) → In u (uses_of_fields name fs) → FoundBy u (map (λ y. y.entry) gs)
  finds_fields fs gs z u a =
      let r = of_flat (λ x. uses name x.entry) u fs a in
      let b = zip_left (FieldHeld leads space) r.of fs gs z r.among in
      record { by = b.other.entry; among = in_map (λ y. y.entry) b.other gs b.among; rest = finds r.of.entry b.other.entry b.related.entry u r.inside }

  finds_contents : (c : Contents) (x : ContentsAt) → HoldsContents leads space c x → (u : List ℕ) → In u (uses_of_contents name c) → FoundBy u (used_by_contents x)
  finds_contents unit_contents x k u a = absurd a
  finds_contents (newtype_contents e) x k u a = subst (λ y. FoundBy u (used_by_contents y)) (sym k.1) (the_found u k.0 (finds e k.0 k.2 u a))
  finds_contents (tuple_contents es) x k u a = subst (λ y. FoundBy u (used_by_contents y)) (sym k.1) (finds_entries es k.0 k.2 u a)
  finds_contents (struct_contents fs) x k u a = subst (λ y. FoundBy u (used_by_contents y)) (sym k.1) (finds_fields (fields_of fs) k.0 (fields_held leads space fs k.0 None k.2) u a)

  finds_shape : (c : Shape) (s : ShapeAt) → HoldsShape leads space c s → (u : List ℕ) → In u (uses_of_shape name c) → FoundBy u (used_by_shape s)
  finds_shape (struct_shape closed fs) s k u a = subst (λ y. FoundBy u (used_by_shape y)) (sym k.2) (finds_fields (fields_of fs) k.0 (fields_held leads space fs k.0 k.1 k.3) u a)
  finds_shape (enum_shape closed tag ws) s k u a =
      let r = of_flat (λ w. uses_of_contents name w.contents) u (variants_of ws) a in
      let b = zip_left (VariantHeld leads space) r.of (variants_of ws) k.0 (variants_held leads space ws k.0 k.2) r.among in
      let f = finds_contents r.of.contents b.other.contents b.related.contents u r.inside in
      subst (λ y. FoundBy u (used_by_shape y)) (sym k.1) (record { by = f.by; among = in_flat (λ x. used_by_contents x.contents) f.by b.other k.0 b.among f.among; rest = f.rest })
  finds_shape (newtype_shape e rule) s k u a = subst (λ y. FoundBy u (used_by_shape y)) (sym k.1) (the_found u k.0 (finds e k.0 k.2 u a))

  record Arrives (n : List ℕ) (i : Id) : Type 0 where
    at : Id
    shape : ShapeAt
    there : entry_at space at ≡ Some (item_at n shape)
    reaches : Reaches g i at

  arrives_once : (m n : List ℕ) → Uses t m n → (i : Id) (s : ShapeAt) → entry_at space i ≡ Some (item_at m s) → Arrives n i
  arrives_once m n u i s b =
      let f = found leads space t h i m s b in
      let a = subst (λ o. In n (uses_of_item name o)) f.named (among_in n (uses_of_item name (item_named m (items_of t))) u) in
      let k = finds_shape f.shape s f.held n a in
      record { at = k.rest.at; shape = k.rest.shape; there = k.rest.there; reaches = use_then i k.by k.rest.at (uses_it space i k.by (item_at m s) b k.among) k.rest.onward }

  arrives : (m n : List ℕ) → ReachesByValue t m n → (i : Id) (s : ShapeAt) → entry_at space i ≡ Some (item_at m s) → Arrives n i
  arrives _ _ (one_use m n u) i s b = arrives_once m n u i s b
  arrives _ _ (more_uses m l n u r) i s b =
      let x = arrives_once m l u i s b in
      let y = arrives l n r x.at x.shape x.there in
      record { at = y.at; shape = y.shape; there = y.there; reaches = reaches_on g i x.at y.at x.reaches y.reaches }

  -- ---- boxes

  module _ (decided : ReachingIsDecided) (exact : BoxesAreExact) where
    pub boxes_same : (o u : Id) (m n : List ℕ) (s r : ShapeAt) → entry_at space o ≡ Some (item_at m s) → entry_at space u ≡ Some (item_at n r) → boxes_at space o u ≡ boxes t m n
    boxes_same o u m n s r a b =
        let enough : length g ≤ length space = let e = length_map used_by space in omega arith in
        let at = decided g (length space) u o enough in
        let of = exact t m n in
        same_bools (boxes_at space o u) (boxes t m n)
        (λ x. let f = found leads space t h u n r b in of.1 (reached u o (at.0 x) (item n f.shape) (r, b, f.held) m s a))
        (λ x. let y = arrives n m (of.0 x) u r b in at.1 (subst (Reaches g u) (one_id leads space t h y.at o m y.shape s y.there a) y.reaches))
