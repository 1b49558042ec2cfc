-- The items that references lead to are opened first, and then filled one after another: once all are, each id has a tree; and so it stays with the trees that come.
use Rattle.std.proofs.Common.{◌≡◌, ◌⊎◌, inl, inr, ℕ, zero, suc, ◌<◌, ◌≤◌, ◌+◌, List, [], ◌∷◌, ◌++◌, map, flat_map, length, Bool, true, false, Some, None, refl, sym, ap, subst, ◌∙◌, bytes_eq, append_assoc, append-nil, arith}
use Rattle.std.specs.List.{IsDistinct, AllByRecursion}
use Rattle.std.proofs.lemmas.Bool.{cases_lt}
use Rattle.entry_defs.specs.Entry.{Target, Entry, item}
use Rattle.entry_defs.specs.Space.{Id, newtype_shape_at, EntryAt, Space, entry_at, Holds}
use Rattle.entry_defs.specs.Table.{ItemEntry, TargetEntry, Table, items_in, items_in_shape}
use Rattle.entry_defs.specs.Sound.{Any, Each, EachInShape, Leads, IsSound}
use Rattle.space_defs.specs.Held.{HoldsTable}
use Rattle.entry_space.specs.Entered.{filled}
use Rattle.entry_space.specs.Laws.{is_open}
use Rattle.entry_space.proofs.Stays.{filled_trees_stay}
use Rattle.space_trees.specs.Names.{item_names}
use Rattle.space_trees.specs.Placed.{placed, placed_shape}
use Rattle.space_trees.specs.Formed.{is_formed, is_formed_shape, IsFormed}
use Rattle.space_trees.specs.Filled.{leads_in, ids_in, opened_targets, filled_targets, placed_targets, placed_each, space_so_far}
use Rattle.space_trees.proofs.Places.{items-names, names-filled, within, length-end, at-end, at-filled, at-later}
use Rattle.space_trees.proofs.Enters.{names_of, Enters, enters-none, enters-both, stays-at, Fresh, fresh-left, fresh-right, with_open, opened-fresh, open-enters}
use Rattle.space_trees.proofs.Kept.{shape-kept}
use Rattle.space_trees.proofs.Standing.{StoodShape, stands, shape-stands}
use Rattle.history_laws.specs.Placing.{led_alone}
use Rattle.history_laws.proofs.Standing.{inside, led_items, fresh-behind}
use Rattle.id_trees.proofs.Adds.{there, filled-back, HasTree, Adds, still, adds-both, tree-adds, shape-adds}

-- ---- opened

abbrev led : List TargetEntry → List ItemEntry
led ts = map (λ t. t.led_to) ts

abbrev inner : List TargetEntry → List ItemEntry
inner ts = flat_map (λ t. items_in_shape t.led_to.shape) ts

abbrev Open : ℕ → List TargetEntry → Space → Type 0
Open i [] s = Unit {0}
Open i (t ∷ ts) s = (entry_at s i ≡ Some (is_open t.led_to.name i)) × Open (suc i) ts s

record Opens (s : Space) (ts : List TargetEntry) (u : Space) : Type 0 where
  enters : Enters s u (led ts)
  opened : Open (length s) ts u
  count : length u ≡ length s + length ts

opens : (ts : List TargetEntry) (s : Space) → Fresh s (led ts) → Opens s ts (opened_targets ts s)
opens [] s d = record { enters = enters-none s; opened = tt; count = omega arith }
opens (t ∷ ts) s d =
    let x = t.led_to in
    let o = with_open x.name s in
    let r : Opens o ts (opened_targets ts o) = opens ts o (fresh-right s o (x ∷ []) (led ts) (open-enters s x) d) in
    let u = opened_targets ts o in
    let e = length-end s (is_open x.name (length s)) in
    let c = r.count in
    subst (λ (p : Space × Id). Opens s (t ∷ ts) (opened_targets ts p.0)) (sym (opened-fresh s x (led ts) d)) (record {
      enters = enters-both s o u (x ∷ []) (led ts) (open-enters s x) r.enters;
      opened = (
        stays-at o u (led ts) (length s) (is_open x.name (length s)) r.enters (at-end s (is_open x.name (length s)) []),
        subst (λ n. Open n ts u) e r.opened,
      );
      count = omega (arith, e, c);
    })

open-stays : (i : ℕ) (ts : List TargetEntry) (s u : Space) (xs : List ItemEntry) → Enters s u xs → Open i ts s → Open i ts u
open-stays i [] s u xs a h = tt
open-stays i (t ∷ ts) s u xs a h = (stays-at s u xs i (is_open t.led_to.name i) a h.0, open-stays (suc i) ts s u xs a h.1)

open-later : (i k : ℕ) (ts : List TargetEntry) (s : Space) → i < k → (f : Space) → ((j : ℕ) → i < j → entry_at f j ≡ entry_at s j) → Open k ts s → Open k ts f
open-later i k [] s q f same h = tt
open-later i k (t ∷ ts) s q f same h = (same k q ∙ h.0, open-later i (suc k) ts s (let m : i < suc k = omega arith in m) f same h.1)

-- ---- and filled

module _ (ids : Target → Id) (leads : Target → Id → Bool) (OK : Target → Type 0) (lead : (q : Target) → OK q → leads q (ids q) ≡ true) where
  abbrev AllTrees : Space → Type 0
  AllTrees s = (i : Id) (x : EntryAt) → entry_at s i ≡ Some x → HasTree leads s i

  -- but for those from the one to the other
  abbrev But : ℕ → ℕ → Space → Type 0
  But i k s = (j : Id) (x : EntryAt) → entry_at s j ≡ Some x → ((i ≤ j) × (j < k)) ⊎ HasTree leads s j

  fills : (i : ℕ) (ts : List TargetEntry) (s : Space) → Open i ts s → AllByRecursion (λ x. is_formed_shape x.led_to.shape ≡ true) ts
      → AllByRecursion (λ x. EachInShape Any OK x.led_to.shape) ts → Fresh s (inner ts) → But i (i + length ts) s → AllTrees (filled_targets ids i ts s)
  fills i [] s w f o d but = λ j x h. elim (but j x h) [
    | inl p ↦ let a = p.0 in let b = p.1 in absurd (omega (arith, a, b))
    | inr g ↦ g
  ]
  fills i (t ∷ ts) s w f o d but =
      let h = t.led_to.shape in
      let n = t.led_to.name in
      let a = placed_shape ids h s in
      let here = fresh-left s (items_in_shape h) (inner ts) d in
      let r : StoodShape ids leads OK lead h s a = shape-stands ids leads OK lead h s f.0 o.0 here in
      let more : Adds leads s a.0 = shape-adds ids leads OK lead h s f.0 o.0 here in
      let open_there : entry_at a.0 i ≡ Some (is_open n i) = stays-at s a.0 (items_in_shape h) i (is_open n i) r.0 w.0 in
      let u = filled i a.1 a.0 in
      let second : (e : Entry) (j : Id) → Holds leads a.0 e j → Holds leads u e j = λ e j g. filled_trees_stay leads n i a.1 a.0 e j open_there g in
      let names : item_names u ≡ item_names s ++ names_of (items_in_shape h) = names-filled i a.1 a.0 ∙ r.0.named in
      let left : Open (suc i) ts u =
      open-later i (suc i) ts a.0 (let m : i < suc i = omega arith in m) u (λ j q. at-later a.0 i a.1 j q) (open-stays (suc i) ts s a.0 (items_in_shape h) r.0 w.1)
      in
      let fresh : Fresh u (inner ts) = subst (λ z. IsDistinct bytes_eq (z ++ names_of (inner ts))) (r.0.named ∙ sym names) (fresh-right s a.0 (items_in_shape h) (inner ts) r.0 d) in
      let tree : Holds leads u (item n h) i = (a.1, at-filled a.0 i n a.1 (newtype_shape_at i None) open_there, shape-kept leads a.0 u second h a.1 r.1) in
      let after : But (suc i) (suc i + length ts) u =
      λ j x k.
      let y = filled-back i a.1 a.0 j x k in
      elim (more.trees j y.0 y.1) [
        | inl l ↦
            let z = there s j l in
            elim (but j z.0 z.1) [
              | inl p ↦ elim (cases_lt i j) [
                | inl m ↦ let b : j < i + suc (length ts) = p.1 in inl (let q : suc i ≤ j = omega arith in q, let q : j < suc i + length ts = omega (arith, b) in q)
                | inr m ↦ let b : i ≤ j = p.0 in let e : i ≡ j = omega (arith, m, b) in inr (item n h, subst (Holds leads u (item n h)) e tree)
              ]
              | inr g ↦ let c = still leads s a.0 j more g in inr (c.0, second c.0 j c.1)
            ]
        | inr g ↦ inr (g.0, second g.0 j g.1)
      ]
      in
      fills (suc i) ts u left f.1 o.1 fresh after

  -- ---- trees

  each-adds : (es : List Entry) (s : Space) → AllByRecursion (λ e. is_formed e ≡ true) es → AllByRecursion (Each Any OK) es → Fresh s (inside es) → AllTrees s → AllTrees (placed_each ids es s)
  each-adds [] s f o d all = all
  each-adds (e ∷ es) s f o d all =
      let a = placed ids None e s in
      let de = fresh-left s (items_in e) (inside es) d in
      let h = stands ids leads OK lead e s f.0 o.0 de in
      let more = tree-adds ids leads OK lead e s f.0 o.0 de in
      each-adds es a.0 f.1 o.1 (fresh-right s a.0 (items_in e) (inside es) h.0 d)
      (λ i x k. elim (more.trees i x k) [ inl l ↦ let y = there s i l in still leads s a.0 i more (all i y.0 y.1) | inr g ↦ g ])

-- ---- a table

pub all-trees : (t : Table) → ((q : Target) → Leads t q → leads_in t q (ids_in t q) ≡ true) → IsSound t → IsFormed t → HoldsTable (leads_in t) (placed_targets (ids_in t) t.targets) (led_alone t)
    → (i : Id) (x : EntryAt) → entry_at (space_so_far t) i ≡ Some x → (e : Entry) × Holds (leads_in t) (space_so_far t) e i
all-trees t lead sound formed first =
    let ids = ids_in t in
    let leads = leads_in t in
    let one = led t.targets in
    let two = inner t.targets in
    let three = inside t.trees in
    let d : Fresh [] (one ++ (two ++ three)) = subst (λ xs. IsDistinct bytes_eq (names_of xs)) (append_assoc one two three) sound.distinct in
    let o = opened_targets t.targets [] in
    let a : Opens [] t.targets o = opens t.targets [] (fresh-left [] one (two ++ three) d) in
    let d2 : Fresh o (two ++ three) = fresh-right [] o one (two ++ three) a.enters d in
    let count = a.count in
    let but : But ids leads (Leads t) lead zero (zero + length t.targets) o = λ j x h. let l = within o j x h in inl (let q : zero ≤ j = omega arith in q, let q : j < zero + length t.targets = omega (arith, l, count) in q) in
    let s = placed_targets ids t.targets in
    let filled_all = fills ids leads (Leads t) lead zero t.targets o a.opened formed.targets sound.targets (fresh-left o two three d2) but in
    let names : item_names s ≡ names_of (led_items t) = sym (items-names 0 s) ∙ first.named ∙ ap names_of (append-nil (led_items t)) in
    each-adds ids leads (Leads t) lead t.trees s formed.trees sound.trees (fresh-behind s (led_items t) three names sound.distinct) filled_all
