-- Of a table with good names each item and each reference in an item has a good name, and is among the items.
use Rattle.std.proofs.Common.{◌≡◌, ℕ, List, [], ◌∷◌, ◌++◌, map, Bool, true, false, ◌||◌, cond, refl, sym, ap, ◌∙◌, subst, Some, None, inl, inr, bytes_eq}
use Rattle.std.specs.List.{AllByRecursion, list_any, flat_map}
use Rattle.model_defs.proofs.Rising.{bytes_itself}
use Rattle.entry_defs.specs.Entry.{Target, Entry, item, Shape}
use Rattle.entry_defs.specs.Table.{ItemEntry, TargetEntry, Table, found, same_target, target_name, item_name, items_in, items_in_shape, items_of, Among}
use Rattle.entry_defs.specs.Sound.{Each, EachInShape, Leads}
use Rattle.entry_defs.proofs.Each.{among_left, each_entry, each_weaker, in_entry, in_shape}
use Rattle.naming_defs.specs.Good.{is_good_name}
use Rattle.naming_defs.specs.Laws.{ShapeIsGood}
use Rattle.emit_defs.specs.Formed.{IsEmittable}
use Rattle.emit_defs.specs.Law.{IsOf}
use Rattle.emit_defs.proofs.Found.{of_table}

-- ---- what holds of each that is among some

pub all_among : (R : ItemEntry → Type 0) (xs : List ItemEntry) → ((i : ItemEntry) → Among i xs → R i) → AllByRecursion R xs
all_among R [] f = tt
all_among R (x ∷ xs) f = (f x (inl refl), all_among R xs (λ i a. f i (inr a)))

pub each_among : (R : ItemEntry → Type 0) (xs : List ItemEntry) → AllByRecursion R xs → (i : ItemEntry) → Among i xs → R i
each_among R [] h i a = absurd a
each_among R (x ∷ xs) h i (inl e) = subst R e h.0
each_among R (x ∷ xs) h i (inr a) = each_among R xs h.1 i a

split : (R : Type 0) (i : ItemEntry) (xs ys : List ItemEntry) → (Among i xs → R) → (Among i ys → R) → Among i (xs ++ ys) → R
split R i [] ys f g a = g a
split R i (x ∷ xs) ys f g (inl e) = f (inl e)
split R i (x ∷ xs) ys f g (inr a) = split R i xs ys (λ b. f (inr b)) g a

-- a name among the names of items
known_among : (i : ItemEntry) (xs : List ItemEntry) → Among i xs → list_any (bytes_eq i.name) (map (λ x. x.name) xs) ≡ true
known_among i [] a = absurd a
known_among i (x ∷ xs) (inl e) = ap (λ z. bytes_eq i.name z.name || list_any (bytes_eq i.name) (map (λ y. y.name) xs)) e ∙ ap (λ b. b || list_any (bytes_eq i.name) (map (λ y. y.name) xs)) (bytes_itself i.name)
known_among i (x ∷ xs) (inr a) = or_else (bytes_eq i.name x.name) (known_among i xs a)
  where
    or_else : (b : Bool) {c : Bool} → c ≡ true → (b || c) ≡ true
    or_else true h = refl
    or_else false h = h

none_some : (i : ItemEntry) → None ≡ Some i → ⊥
none_some i e = cc

some_same : (a b : ItemEntry) → Some a ≡ Some b → a ≡ b
some_same a b e = ap (λ o. elim o [ None ↦ a | Some x ↦ x ]) e

found_among : (q : Target) (ts : List TargetEntry) (i : ItemEntry) → found q ts ≡ Some i → Among i (map (λ x. x.led_to) ts)
found_among q [] i e = absurd (none_some i e)
found_among q (t ∷ ts) i e =
    let rec = found_among q ts i in
    elim (same_target q t.target) as (λ b. cond b (Some t.led_to) (found q ts) ≡ Some i → Among i (t.led_to ∷ map (λ x. x.led_to) ts)) [
      | true ↦ λ k. inl (some_same t.led_to i k)
      | false ↦ λ k. inr (rec k)
    ] e

-- good, and among the items
pub record IsNamed (t : Table) (n : List ℕ) : Type 0 where
  pub good : is_good_name n ≡ true
  pub known : list_any (bytes_eq n) (map (λ i. i.name) (items_of t)) ≡ true

module _ (t : Table) (h : IsEmittable t) where
  abbrev pub OfItem : List ℕ → Shape → Type 0
  OfItem n c = IsNamed t n

  abbrev pub OfReference : Target → Type 0
  OfReference q = IsNamed t (target_name t q)

  pub item_named : (i : ItemEntry) → Among i (items_of t) → IsNamed t i.name
  item_named i a = record { good = (each_among (λ x. (is_good_name x.name ≡ true) × ShapeIsGood is_good_name x.shape) (items_of t) h.named i a).0; known = known_among i (items_of t) a }

  abbrev inner : List TargetEntry → List ItemEntry
  inner ts = flat_map (λ x. items_in_shape x.led_to.shape) ts

  led_named : (q : Target) → Leads t q → OfReference q
  led_named q l =
      let i = l.0 in
      subst (IsNamed t) (sym (ap item_name l.1)) (item_named i (among_left i (map (λ x. x.led_to) t.targets ++ inner t.targets) (flat_map items_in t.trees) (among_left i (map (λ x. x.led_to) t.targets) (inner t.targets) (found_among q t.targets i l.1))))

  pub entry_named : (e : Entry) → IsOf t e → Each OfItem OfReference e
  entry_named e o =
      each_weaker OfItem OfItem (Leads t) OfReference (λ n c x. x) led_named e (each_entry OfItem (Leads t) e (λ i a. item_named i (o.inside i a)) o.leads)

  abbrev Shaped : ItemEntry → Type 0
  Shaped i = EachInShape OfItem OfReference i.shape

  of_targets : (ts : List TargetEntry) → AllByRecursion (λ x. IsOf t (item x.led_to.name x.led_to.shape)) ts → (i : ItemEntry) → Among i (map (λ x. x.led_to) ts) → Shaped i
  of_targets [] o i a = absurd a
  of_targets (x ∷ xs) o i (inl e) = subst Shaped e (entry_named (item x.led_to.name x.led_to.shape) o.0).1
  of_targets (x ∷ xs) o i (inr a) = of_targets xs o.1 i a

  of_inner : (ts : List TargetEntry) → AllByRecursion (λ x. IsOf t (item x.led_to.name x.led_to.shape)) ts → (i : ItemEntry) → Among i (inner ts) → Shaped i
  of_inner [] o i a = absurd a
  of_inner (x ∷ xs) o i a =
      split (Shaped i) i (items_in_shape x.led_to.shape) (inner xs) (λ b. (in_shape OfItem OfReference x.led_to.shape (entry_named (item x.led_to.name x.led_to.shape) o.0).1 i b).1) (of_inner xs o.1 i) a

  of_trees : (es : List Entry) → AllByRecursion (IsOf t) es → (i : ItemEntry) → Among i (flat_map items_in es) → Shaped i
  of_trees [] o i a = absurd a
  of_trees (e ∷ es) o i a =
      split (Shaped i) i (items_in e) (flat_map items_in es) (λ b. (in_entry OfItem OfReference e (entry_named e o.0) i b).1) (of_trees es o.1 i) a

  pub shapes_named : AllByRecursion Shaped (items_of t)
  shapes_named =
      let o = of_table t h.sound in
      all_among Shaped (items_of t) (λ i a. split (Shaped i) i (map (λ x. x.led_to) t.targets ++ inner t.targets) (flat_map items_in t.trees)
      (λ b. split (Shaped i) i (map (λ x. x.led_to) t.targets) (inner t.targets) (of_targets t.targets o.targets i) (of_inner t.targets o.targets i) b) (of_trees t.trees o.trees i) a)
