-- Uses by value are boxed exactly where the used item reaches the using one, so no container contains itself.
use Rattle.std.proofs.Common.{◌≡◌, ◌≤◌, ◌+◌, ℕ, suc, zero, List, [], ◌∷◌, ◌++◌, map, length, Bool, true, false, ◌||◌, cond, refl, sym, ap, ◌∙◌, subst, true≢false, Some, ◌⊎◌, inl, inr, bytes_eq, arith}
use Rattle.std.specs.List.{list_any, flat_map, IsDistinct, AllByRecursion}
use Rattle.std.proofs.lemmas.Map.Keys.{IsDistinct-cons}
use Rattle.std.proofs.lemmas.Map.Made.{length-le_from_is_member}
use Rattle.std.proofs.lemmas.Cmp.{nat_list_eq_equiv}
use Rattle.std.proofs.lemmas.Slice.Eq.{bytes_eq-Decides}
use Rattle.model_defs.specs.Types.{boxed_type, item_type, types_of, TypeModel, TypeModels, no_types, type_then}
use Rattle.model_defs.specs.Model.{container_named}
use Rattle.model_defs.specs.Reach.{is_among}
use Rattle.model_defs.proofs.Rising.{bytes_itself}
use Rattle.model_defs.proofs.Reach.{left_among, right_among}
use Rattle.entry_defs.specs.Entry.{Target, Entry, option_entry, vec_entry, set_entry, map_entry, tuple_entry, array_entry, reference, item, State, required, optional, stated, Entries, no_entries, entry_then, entry_again, Shape, struct_shape, enum_shape, newtype_shape, Fields, no_fields, field_then, field_again, rest_field, next_field, Variants, no_variants, variant_then, Contents, unit_contents, newtype_contents, tuple_contents, struct_contents, fields_of, variants_of}
use Rattle.entry_defs.specs.Table.{ItemEntry, Table, target_name, item_named, items_of}
use Rattle.emit_defs.specs.Setting.{Setting, setting_of, uses, uses_of_entries, uses_of_fields, uses_of_contents, uses_of_shape, uses_of_item, reaches_within, boxes}
use Rattle.emit_defs.specs.Models.{used, type_model, type_models, used_type, manner, manner_type, struct_models, unnamed_models, type_again, contents_models, variant_models, after_state, after_contents, shape_body, shape_defaults, model_of_item, models_of_items}
use Rattle.emit_defs.specs.Emission.{models_of}
use Rattle.emit_defs.specs.Boxing.{held, held_in_all, held_in_fields, held_in_body, held_by, Holds, Contains, at_once, further, NoneContainsItself, Uses, ReachesByValue, one_use, more_uses, BoxesAreExact}

-- ---- among joined lists

abbrev Among : List ℕ → List (List ℕ) → Type 0
Among n ns = is_among n ns ≡ true

nothing : (n : List ℕ) → Among n [] → ⊥
nothing n h = true≢false (sym h)

either : (n : List ℕ) (xs ys : List (List ℕ)) → Among n (xs ++ ys) → Among n xs ⊎ Among n ys
either n [] ys h = inr h
either n (x ∷ xs) ys h = elim (bytes_eq n x) as (λ b. (b || is_among n (xs ++ ys)) ≡ true → ((b || is_among n xs) ≡ true) ⊎ Among n ys) [
  | true ↦ λ k. inl refl
  | false ↦ λ k. either n xs ys k
] h

the_one : (n m : List ℕ) → Among n (m ∷ []) → n ≡ m
the_one n m h = elim (bytes_eq n m) as (λ b. bytes_eq n m ≡ b → (b || false) ≡ true → n ≡ m) [
  | true ↦ λ e k. (bytes_eq-Decides n m).0 e
  | false ↦ λ e k. absurd (true≢false (sym k))
] refl h

-- ---- a type holds what its entry uses and doesn't box

module _ (name : Target → List ℕ) (b : List ℕ → Bool) where
  abbrev Free : List (List ℕ) → List (List ℕ) → Type 0
  Free held uses = (n : List ℕ) → Among n held → Among n uses × (b n ≡ false)

  none_free : (uses : List (List ℕ)) → Free [] uses
  none_free uses n h = absurd (nothing n h)

  both_free : (hs us ks vs : List (List ℕ)) → Free hs us → Free ks vs → Free (hs ++ ks) (us ++ vs)
  both_free hs us ks vs f g n h = elim (either n hs ks h) [
    | inl a ↦ (left_among n us vs (f n a).0, (f n a).1)
    | inr a ↦ (right_among n us vs (g n a).0, (g n a).1)
  ]

  used_free : (m : List ℕ) → Free (held (used b m)) (m ∷ [])
  used_free m n h = elim (b m) as (λ x. b m ≡ x → Among n (held (cond x (boxed_type (item_type m)) (item_type m))) → Among n (m ∷ []) × (b n ≡ false)) [
    | true ↦ λ e k. absurd (nothing n k)
    | false ↦ λ e k. (k, ap b (the_one n m k) ∙ e)
  ] refl h

  again_free : (ts : TypeModels) (us : List (List ℕ)) → Free (held_in_all ts) us → Free (held_in_all (type_again ts)) us
  again_free no_types us f n h = absurd (nothing n h)
  again_free (type_then t ts) us f n h = elim (either n (held t) (held_in_all (type_then t ts)) h) [
    | inl a ↦ f n (left_among n (held t) (held_in_all ts) a)
    | inr a ↦ f n a
  ]

  mutual
    entry_free : (e : Entry) → Free (held (type_model name b e)) (uses name e)
    entry_free (option_entry e) = entry_free e
    entry_free (tuple_entry es) = entries_free es
    entry_free (array_entry e n) = entry_free e
    entry_free (reference q) = used_free (name q)
    entry_free (item n s) = used_free n
    entry_free _ = none_free []

    entries_free : (es : Entries) → Free (held_in_all (type_models name b es)) (uses_of_entries name es)
    entries_free no_entries = none_free []
    entries_free (entry_then e es) = both_free _ _ _ _ (entry_free e) (entries_free es)
    entries_free (entry_again es) = again_free (type_models name b es) (uses_of_entries name es) (entries_free es)

-- the manner of a field changes nothing
manner_holds : (l : Bool) (st : State) (e : Entry) (t : TypeModel) → held (manner_type (manner l st e) t) ≡ held t
manner_holds true required e t = refl
manner_holds false required e t = refl
manner_holds l (stated v) e t = refl
manner_holds l optional (option_entry e) t = refl
manner_holds l optional (vec_entry e) t = refl
manner_holds l optional (set_entry e) t = refl
manner_holds l optional (map_entry k e) t = refl
manner_holds l optional _ t = refl

module _ (s : Setting) (owner : List ℕ) where
  abbrev Unboxed : List (List ℕ) → List (List ℕ) → Type 0
  Unboxed hs us = Free s.name (s.is_boxed owner) hs us

  joined : (hs us ks vs : List (List ℕ)) → Unboxed hs us → Unboxed ks vs → Unboxed (hs ++ ks) (us ++ vs)
  joined hs us ks vs f g = both_free s.name (s.is_boxed owner) hs us ks vs f g

  of_entry : (e : Entry) → Unboxed (held (used_type s owner e)) (uses s.name e)
  of_entry e = entry_free s.name (s.is_boxed owner) e

  one_more_field : (e : Entry) (st : State) (hs us : List (List ℕ)) → Unboxed hs us → Unboxed (held (manner_type (manner (s.leads e) st e) (used_type s owner e)) ++ hs) (uses s.name e ++ us)
  one_more_field e st hs us f = joined _ _ _ _ (subst (λ z. Unboxed z (uses s.name e)) (sym (manner_holds (s.leads e) st e (used_type s owner e))) (of_entry e)) f

  fields_free : (fs : Fields) (n : ℕ) → Unboxed (held_in_fields (struct_models s owner n fs)) (uses_of_fields s.name (fields_of fs))
  fields_free no_fields n = none_free s.name (s.is_boxed owner) []
  fields_free (rest_field i e) n = none_free s.name (s.is_boxed owner) []
  fields_free (field_then i x e st fs) n = one_more_field e st _ _ (fields_free fs (after_state st n))
  fields_free (field_again i x fs) n = one_more_field (next_field fs) required _ _ (fields_free fs (after_state required n))

  -- what the places of a tuple hold
  places_hold : (ts : TypeModels) (i : ℕ) → held_in_fields (unnamed_models i (types_of ts)) ≡ held_in_all ts
  places_hold no_types i = refl
  places_hold (type_then t ts) i = ap (λ z. held t ++ z) (places_hold ts (suc i))

  places_free : (es : Entries) (i : ℕ) → Unboxed (held_in_fields (unnamed_models i (types_of (type_models s.name (s.is_boxed owner) es)))) (uses_of_entries s.name es)
  places_free es i = subst (λ z. Unboxed z (uses_of_entries s.name es)) (sym (places_hold (type_models s.name (s.is_boxed owner) es) i)) (entries_free s.name (s.is_boxed owner) es)

  one_free : (e : Entry) → Unboxed (held (used_type s owner e) ++ []) (uses s.name e)
  one_free e n h = elim (either n (held (used_type s owner e)) [] h) [ inl a ↦ of_entry e n a | inr a ↦ absurd (nothing n a) ]

  contents_free : (c : Contents) (n : ℕ) → Unboxed (held_in_fields (contents_models s owner n c)) (uses_of_contents s.name c)
  contents_free unit_contents n = none_free s.name (s.is_boxed owner) []
  contents_free (newtype_contents e) n = one_free e
  contents_free (tuple_contents es) n = places_free es 0
  contents_free (struct_contents fs) n = fields_free fs n

  variants_free : (ws : Variants) (n : ℕ)
      → Unboxed (flat_map (λ w. held_in_fields w.fields) (variant_models s owner n (variants_of ws))) (flat_map (λ w. uses_of_contents s.name w.contents) (variants_of ws))
  variants_free no_variants n = none_free s.name (s.is_boxed owner) []
  variants_free (variant_then i x c ws) n = joined _ _ _ _ (contents_free c n) (variants_free ws (after_contents c n))

  shape_free : (c : Shape) (n : ℕ) → Unboxed (held_in_body (shape_body s owner n c)) (uses_of_shape s.name c)
  shape_free (struct_shape closed fs) n = fields_free fs n
  shape_free (enum_shape closed tag ws) n = variants_free ws n
  shape_free (newtype_shape e rule) n = one_free e

items_free : (s : Setting) (m : List ℕ) (is : List ItemEntry) (n : ℕ) → Free s.name (s.is_boxed m) (held_by (container_named m (models_of_items s n is))) (uses_of_item s.name (item_named m is))
items_free s m [] n = none_free s.name (s.is_boxed m) []
items_free s m (i ∷ is) n =
    let rec = items_free s m is (n + length (shape_defaults i.shape)) in
    elim (bytes_eq m i.name) as (λ x. bytes_eq m i.name ≡ x →
    Free s.name (s.is_boxed m) (held_by (cond x (Some (model_of_item s n i)) (container_named m (models_of_items s (n + length (shape_defaults i.shape)) is)))) (uses_of_item s.name (cond x (Some i) (item_named m is)))) [
      | true ↦ λ e. subst (λ z. Free s.name (s.is_boxed z) (held_in_body (shape_body s i.name n i.shape)) (uses_of_shape s.name i.shape)) (sym ((bytes_eq-Decides m i.name).0 e)) (shape_free s i.name i.shape n)
      | false ↦ λ e. rec
    ] refl

-- ---- a way by uses gives one without repeats, which is no longer than the table

any_of : (p : List ℕ → Bool) (u : List ℕ) (us : List (List ℕ)) → Among u us → p u ≡ true → list_any p us ≡ true
any_of p u [] a h = absurd (nothing u a)
any_of p u (x ∷ xs) a h = elim (bytes_eq u x) as (λ b. bytes_eq u x ≡ b → (b || is_among u xs) ≡ true → (p x || list_any p xs) ≡ true) [
  | true ↦ λ e k. ap (λ b. b || list_any p xs) (ap p (sym ((bytes_eq-Decides u x).0 e)) ∙ h)
  | false ↦ λ e k. or_true (p x) (list_any p xs) (any_of p u xs k h)
] refl a
  where
    or_true : (a b : Bool) → b ≡ true → (a || b) ≡ true
    or_true true b h = refl
    or_true false b h = h

module _ (name : Target → List ℕ) (is : List ItemEntry) (goal : List ℕ) where
  abbrev Step : List ℕ → List ℕ → Type 0
  Step m n = Among n (uses_of_item name (item_named m is))

  -- through these items in order, and then to the goal
  abbrev Way : List ℕ → List (List ℕ) → Type 0
  Way m [] = Step m goal
  Way m (n ∷ ns) = Step m n × Way n ns

  record Simple (m : List ℕ) : Type 0 where
    through : List (List ℕ)
    way : Way m through
    distinct : IsDistinct bytes_eq (m ∷ through)

  first_distinct : (m : List ℕ) (ns : List (List ℕ)) → IsDistinct bytes_eq (m ∷ ns) → IsDistinct bytes_eq ns
  unfolding IsDistinct
  first_distinct m ns d = d.1

  no_other : (m : List ℕ) → IsDistinct bytes_eq (m ∷ [])
  unfolding IsDistinct
  no_other m = (tt, tt)

  -- the way from an item on it
  cut : (x m : List ℕ) (ns : List (List ℕ)) → Among x (m ∷ ns) → Way m ns → IsDistinct bytes_eq (m ∷ ns) → Simple x
  cut x m [] a w d =
      let e = the_one x m a in
      subst Simple (sym e) (record { through = []; way = w; distinct = d })
  cut x m (n ∷ ns) a w d =
      let rec = cut x n ns in
      elim (bytes_eq x m) as (λ b. bytes_eq x m ≡ b → (b || is_among x (n ∷ ns)) ≡ true → Simple x) [
        | true ↦ λ e k. subst Simple (sym ((bytes_eq-Decides x m).0 e)) (record { through = n ∷ ns; way = w; distinct = d })
        | false ↦ λ e k. rec k w.1 (first_distinct m (n ∷ ns) d)
      ] refl a

  apart : (x : List ℕ) (ns : List (List ℕ)) → is_among x ns ≡ false → AllByRecursion (λ y. bytes_eq x y ≡ false) ns
  apart x [] h = tt
  apart x (n ∷ ns) h =
      let rec = apart x ns in
      elim (bytes_eq x n) as (λ b. (b || is_among x ns) ≡ false → (b ≡ false) × AllByRecursion (λ y. bytes_eq x y ≡ false) ns) [
        | true ↦ λ k. absurd (true≢false k)
        | false ↦ λ k. (refl, rec k)
      ] h

  one_more : (x m : List ℕ) → Step x m → Simple m → Simple x
  one_more x m u p = elim (is_among x (m ∷ p.through)) as (λ b. is_among x (m ∷ p.through) ≡ b → Simple x) [
    | true ↦ λ e. cut x m p.through e p.way p.distinct
    | false ↦ λ e. record { through = m ∷ p.through; way = (u, p.way); distinct = IsDistinct-cons bytes_eq x (m ∷ p.through) (apart x (m ∷ p.through) e) p.distinct }
  ] refl

  last_step : (x : List ℕ) → Step x goal → Simple x
  last_step x u = record { through = []; way = u; distinct = no_other x }

  -- what uses something is an item
  is_item : (m n : List ℕ) (xs : List ItemEntry) → Among n (uses_of_item name (item_named m xs)) → Among m (map (λ i. i.name) xs)
  is_item m n [] h = absurd (nothing n h)
  is_item m n (x ∷ xs) h =
      let rec = is_item m n xs in
      elim (bytes_eq m x.name) as (λ b. Among n (uses_of_item name (cond b (Some x) (item_named m xs))) → (b || is_among m (map (λ i. i.name) xs)) ≡ true) [ true ↦ λ k. refl | false ↦ λ k. rec k ] h

  all_items : (m : List ℕ) (ns : List (List ℕ)) → Way m ns → (q : List ℕ) → Among q (m ∷ ns) → Among q (map (λ i. i.name) is)
  all_items m [] w q a = subst (λ z. Among z (map (λ i. i.name) is)) (sym (the_one q m a)) (is_item m goal is w)
  all_items m (n ∷ ns) w q a =
      let rec = all_items n ns w.1 q in
      elim (bytes_eq q m) as (λ b. bytes_eq q m ≡ b → (b || is_among q (n ∷ ns)) ≡ true → Among q (map (λ i. i.name) is)) [
        | true ↦ λ e k. subst (λ z. Among z (map (λ i. i.name) is)) (sym ((bytes_eq-Decides q m).0 e)) (is_item m n is w.0)
        | false ↦ λ e k. rec k
      ] refl a

  as_many : (xs : List ItemEntry) → length (map (λ i. i.name) xs) ≡ length xs
  as_many [] = refl
  as_many (x ∷ xs) = ap suc (as_many xs)

  long : (m : List ℕ) (p : Simple m) → suc (length p.through) ≤ length is
  long m p =
      let l = length-le_from_is_member nat_list_eq_equiv (m ∷ p.through) (map (λ i. i.name) is) p.distinct (all_items m p.through p.way) in
      let e = as_many is in
      omega arith

  way_reaches : (ns : List (List ℕ)) (k : ℕ) (m : List ℕ) → suc (length ns) ≤ k → Way m ns → reaches_within name is k m goal ≡ true
  way_reaches ns zero m l w = absurd (omega arith)
  way_reaches [] (suc k) m l w = any_of (λ u. bytes_eq u goal || reaches_within name is k u goal) goal (uses_of_item name (item_named m is)) w (ap (λ b. b || reaches_within name is k goal goal) (bytes_itself goal))
  way_reaches (n ∷ ns) (suc k) m l w =
      any_of (λ u. bytes_eq u goal || reaches_within name is k u goal) n (uses_of_item name (item_named m is)) w.0 (or_else (bytes_eq n goal) (way_reaches ns k n (omega arith) w.1))
    where
      or_else : (a : Bool) {b : Bool} → b ≡ true → (a || b) ≡ true
      or_else true h = refl
      or_else false h = h

  simple_reaches : (m : List ℕ) → Simple m → reaches_within name is (length is) m goal ≡ true
  simple_reaches m p = way_reaches p.through (length is) m (long m p) p.way

-- ---- so what is contained is boxed somewhere on the way

module _ (t : Table) where
  step : (m n : List ℕ) → Holds (models_of t) m n → Among n (uses_of_item (target_name t) (item_named m (items_of t))) × (boxes t m n ≡ false)
  step m n h = items_free (setting_of t) m (items_of t) 0 n h

  along : (m n : List ℕ) → Contains (models_of t) m n → Simple (target_name t) (items_of t) n m
  along _ _ (at_once m n h) = last_step (target_name t) (items_of t) n m (step m n h).0
  along _ _ (further m k n h c) = one_more (target_name t) (items_of t) n m k (step m k h).0 (along k n c)

  first_step : (m n : List ℕ) → Contains (models_of t) m n → (m ≡ n) → ⊥
  first_step _ _ (at_once m n h) e =
      true≢false (sym (simple_reaches (target_name t) (items_of t) m n (subst (λ z. Simple (target_name t) (items_of t) z n) (sym e) (subst (λ z. Simple (target_name t) (items_of t) n z) e (along m n (at_once m n h))))) ∙ (step m n h).1)
  first_step _ _ (further m k n h c) e =
      true≢false (sym (simple_reaches (target_name t) (items_of t) m k (subst (λ z. Simple (target_name t) (items_of t) z k) (sym e) (along k n c))) ∙ (step m k h).1)

pub none_contains_itself : NoneContainsItself
none_contains_itself t n c = first_step t n n c refl

-- ---- and a use is boxed there alone

any_has : (p : List ℕ → Bool) (us : List (List ℕ)) → list_any p us ≡ true → (u : List ℕ) × Among u us × (p u ≡ true)
any_has p [] h = absurd (true≢false (sym h))
any_has p (x ∷ xs) h =
    let rec = any_has p xs in
    elim (p x) as (λ b. p x ≡ b → (b || list_any p xs) ≡ true → (u : List ℕ) × Among u (x ∷ xs) × (p u ≡ true)) [
      | true ↦ λ e k. (x, left_among x (x ∷ []) xs (ap (λ b. b || false) (bytes_itself x)), e)
      | false ↦ λ e k. ((rec k).0, right_among (rec k).0 (x ∷ []) xs (rec k).1, (rec k).2)
    ] refl h

one_of : (a b : Bool) → (a || b) ≡ true → (a ≡ true) ⊎ (b ≡ true)
one_of true b h = inl refl
one_of false b h = inr h

module _ (t : Table) where
  by_uses : (k : ℕ) (m n : List ℕ) → reaches_within (target_name t) (items_of t) k m n ≡ true → ReachesByValue t m n
  by_uses zero m n h = absurd (true≢false (sym h))
  by_uses (suc k) m n h =
      let u = any_has (λ u. bytes_eq u n || reaches_within (target_name t) (items_of t) k u n) (uses_of_item (target_name t) (item_named m (items_of t))) h in
      let rec = by_uses k u.0 n in
      elim (one_of (bytes_eq u.0 n) (reaches_within (target_name t) (items_of t) k u.0 n) u.2) [
        | inl e ↦ one_use m n (subst (Uses t m) ((bytes_eq-Decides u.0 n).0 e) u.1)
        | inr e ↦ more_uses m u.0 n u.1 (rec e)
      ]

  simply : (m n : List ℕ) → ReachesByValue t m n → Simple (target_name t) (items_of t) n m
  simply _ _ (one_use m n a) = last_step (target_name t) (items_of t) n m a
  simply _ _ (more_uses m k n a w) = one_more (target_name t) (items_of t) n m k a (simply k n w)

pub boxes_exact : BoxesAreExact
boxes_exact t m n = (by_uses t (length (items_of t)) n m, λ w. simple_reaches (target_name t) (items_of t) m n (simply t n m w))
