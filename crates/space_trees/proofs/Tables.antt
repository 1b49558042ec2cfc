-- A table that is entered into the empty space is held by it.
use Rattle.std.proofs.Common.{◌≡◌, inl, inr, ℕ, zero, suc, ◌<◌, eqb-true, List, [], ◌∷◌, ◌++◌, map, flat_map, length, Bool, true, false, Some, None, refl, sym, ap, subst, ◌∙◌, true≢false, bytes_eq, append_assoc, arith}
use Rattle.std.specs.Prelude.{is_some, if◌then◌else◌}
use Rattle.std.specs.Cmp.{unsigned_Decides}
use Rattle.std.specs.List.{IsDistinct, AllByRecursion}
use Rattle.std.proofs.lemmas.List.{map-append}
use Rattle.entry_defs.specs.Entry.{Target, Entry, boolean_entry, integer_entry, text_entry, native_entry, any_entry, unit_entry, option_entry, vec_entry, set_entry, map_entry, tuple_entry, array_entry, reference, item}
use Rattle.entry_defs.specs.Space.{Id, newtype_shape_at, null_at, Space, entry_at, Holds}
use Rattle.entry_defs.specs.Table.{ItemEntry, TargetEntry, Table, same_target, found, root_of, items_in, items_in_shape, items_of}
use Rattle.entry_defs.specs.Sound.{Any, Each, EachInShape, Leads, IsSound}
use Rattle.space_defs.specs.Ordered.{PartsAreLower}
use Rattle.emit_defs.specs.Emission.{emission}
use Rattle.space_defs.specs.Emission.{emission_at}
use Rattle.space_defs.specs.Held.{ItemIsHeld, Stands, HoldsTable, SpacesEmitTables}
use Rattle.entry_space.specs.Entered.{filled}
use Rattle.entry_space.specs.Laws.{is_open}
use Rattle.entry_space.proofs.Stays.{filled_trees_stay}
use Rattle.space_trees.specs.Names.{item_names}
use Rattle.space_trees.specs.Placed.{rest_or_first, placed, placed_shape}
use Rattle.space_trees.specs.Formed.{is_formed, is_formed_shape, IsFormed}
use Rattle.space_trees.specs.Filled.{led_from, is_id, leads_in, ids_in, opened_targets, filled_targets, placed_tree, placed_rest, placed_trees, placed_table}
use Rattle.space_trees.proofs.Places.{items-names, names-filled, none-some, length-end, at-end, at-filled, at-later, lower-filled}
use Rattle.space_trees.proofs.Enters.{names_of, Enters, enters-none, enters-both, stays-at, Keeps, keeps, Fresh, fresh-left, fresh-right, put-done, with_open, opened-fresh, open-enters}
use Rattle.space_trees.proofs.Kept.{shape-kept}
use Rattle.space_trees.proofs.Standing.{Stood, StoodShape, stands, shape-stands}

-- ---- targets are opened

abbrev led : List TargetEntry → List ItemEntry
led ts = map (λ t. t.led_to) ts

abbrev Open : ℕ → List TargetEntry → Space → Type 0
Open i [] s = Unit {0}
Open i (t ∷ ts) s = (entry_at s i ≡ Some (is_open t.led_to.name i)) × Open (suc i) ts s

abbrev Opens : Space → List TargetEntry → Space → Type 0
Opens s ts u = Enters s u (led ts) × Open (length s) ts u

opens : (ts : List TargetEntry) (s : Space) → Fresh s (led ts) → Opens s ts (opened_targets ts s)
opens [] s d = (enters-none s, tt)
opens (t ∷ ts) s d =
    let x = t.led_to in
    let o = with_open x.name s in
    let r : Opens o ts (opened_targets ts o) = opens ts o (fresh-right s o (x ∷ []) (led ts) (open-enters s x) d) in
    let u = opened_targets ts o in
    subst (λ (p : Space × Id). Opens s (t ∷ ts) (opened_targets ts p.0)) (sym (opened-fresh s x (led ts) d)) (
      enters-both s o u (x ∷ []) (led ts) (open-enters s x) r.0,
      (
        stays-at o u (led ts) (length s) (is_open x.name (length s)) r.0 (at-end s (is_open x.name (length s)) []),
        subst (λ n. Open n ts u) (length-end s (is_open x.name (length s))) r.1,
      ),
    )

open-stays : (i : ℕ) (ts : List TargetEntry) (s u : Space) (xs : List ItemEntry) → Enters s u xs → Open i ts s → Open i ts u
open-stays i [] s u xs a h = tt
open-stays i (t ∷ ts) s u xs a h = (stays-at s u xs i (is_open t.led_to.name i) a h.0, open-stays (suc i) ts s u xs a h.1)

open-later : (i k : ℕ) (ts : List TargetEntry) (s : Space) → i < k → (f : Space) → ((j : ℕ) → i < j → entry_at f j ≡ entry_at s j) → Open k ts s → Open k ts f
open-later i k [] s q f same h = tt
open-later i k (t ∷ ts) s q f same h = (same k q ∙ h.0, open-later i (suc k) ts s (let m : i < suc k = omega arith in m) f same h.1)

-- ---- and filled

module _ (ids : Target → Id) (leads : Target → Id → Bool) (OK : Target → Type 0) (lead : (q : Target) → OK q → leads q (ids q) ≡ true) where
  abbrev HeldFrom : ℕ → List TargetEntry → Space → Type 0
  HeldFrom i [] s = Unit {0}
  HeldFrom i (t ∷ ts) s = Holds leads s (item t.led_to.name t.led_to.shape) i × HeldFrom (suc i) ts s

  abbrev inner : List TargetEntry → List ItemEntry
  inner ts = flat_map (λ t. items_in_shape t.led_to.shape) ts

  record Fills (i : ℕ) (ts : List TargetEntry) (s u : Space) : Type 0 where
    keep : Keeps leads s u
    held : HeldFrom i ts u
    named : item_names u ≡ item_names s ++ names_of (inner ts)
    lower : PartsAreLower s → PartsAreLower u

  module _ (i : ℕ) (t : TargetEntry) (ts : List TargetEntry) (s a f u : Space) where
    further : Keeps leads s a → Keeps leads a f → Holds leads f (item t.led_to.name t.led_to.shape) i → item_names f ≡ item_names s ++ names_of (items_in_shape t.led_to.shape)
        → (PartsAreLower s → PartsAreLower f) → Fills (suc i) ts f u → Fills i (t ∷ ts) s u
    further first second here names low r = record {
      keep = λ e j h. r.keep e j (second e j (first e j h));
      held = (r.keep (item t.led_to.name t.led_to.shape) i here, r.held);
      named =
          r.named ∙ ap (λ z. z ++ names_of (inner ts)) names ∙ append_assoc (item_names s) (names_of (items_in_shape t.led_to.shape)) (names_of (inner ts))
          ∙ ap (λ z. item_names s ++ z) (sym (map-append (λ (x : ItemEntry). x.name) (items_in_shape t.led_to.shape) (inner ts)));
      lower = λ h. r.lower (low h);
    }

  fills : (i : ℕ) (ts : List TargetEntry) (s : Space) → Open i ts s → AllByRecursion (λ x. is_formed_shape x.led_to.shape ≡ true) ts
      → AllByRecursion (λ x. EachInShape Any OK x.led_to.shape) ts → Fresh s (inner ts) → Fills i ts s (filled_targets ids i ts s)
  fills i [] s w f o d = record { keep = λ e j h. h; held = tt; named = (enters-none s).named; lower = λ h. h }
  fills i (t ∷ ts) s w f o d =
      let h = t.led_to.shape in
      let n = t.led_to.name in
      let a = placed_shape ids h s in
      let r : StoodShape ids leads OK lead h s a = shape-stands ids leads OK lead h s f.0 o.0 (fresh-left s (items_in_shape h) (inner ts) d) in
      let open_there : entry_at a.0 i ≡ Some (is_open n i) = stays-at s a.0 (items_in_shape h) i (is_open n i) r.0 w.0 in
      let u = filled i a.1 a.0 in
      let second : Keeps leads a.0 u = λ e j g. filled_trees_stay leads n i a.1 a.0 e j open_there g in
      let names : item_names u ≡ item_names s ++ names_of (items_in_shape h) = names-filled i a.1 a.0 ∙ r.0.named in
      let left : Open (suc i) ts u =
      open-later i (suc i) ts a.0 (let m : i < suc i = omega arith in m) u (λ j q. at-later a.0 i a.1 j q) (open-stays (suc i) ts s a.0 (items_in_shape h) r.0 w.1)
      in
      let fresh : Fresh u (inner ts) = subst (λ z. IsDistinct bytes_eq (z ++ names_of (inner ts))) (r.0.named ∙ sym names) (fresh-right s a.0 (items_in_shape h) (inner ts) r.0 d) in
      further i t ts s a.0 u (filled_targets ids (suc i) ts u) (keeps leads s a.0 (items_in_shape h) r.0) second
      (a.1, at-filled a.0 i n a.1 (newtype_shape_at i None) open_there, shape-kept leads a.0 u second h a.1 r.1)
      names (λ low. lower-filled i a.1 a.0 (r.0.lower low)) (fills (suc i) ts u left f.1 o.1 fresh)

  -- ---- trees

  abbrev StoodTree : Entry → Space → Space × Id → Type 0
  StoodTree e s a = Enters s a.0 (items_in e) × Stands leads a.0 e a.1

  other : (e : Entry) (s : Space) (a : Space × Id) → Stood ids leads OK lead e s a → StoodTree e s a
  other e s a h = (h.0, inl h.1)

  tree-stands : (e : Entry) (s : Space) → is_formed e ≡ true → Each Any OK e → Fresh s (items_in e) → StoodTree e s (placed_tree ids e s)
  tree-stands (reference q) s f o d = (enters-none s, inr (q, refl, lead q o))
  tree-stands boolean_entry s f o d = other boolean_entry s (placed ids None boolean_entry s) (stands ids leads OK lead boolean_entry s f o d)
  tree-stands (integer_entry g) s f o d = other (integer_entry g) s (placed ids None (integer_entry g) s) (stands ids leads OK lead (integer_entry g) s f o d)
  tree-stands text_entry s f o d = other text_entry s (placed ids None text_entry s) (stands ids leads OK lead text_entry s f o d)
  tree-stands (native_entry g) s f o d = other (native_entry g) s (placed ids None (native_entry g) s) (stands ids leads OK lead (native_entry g) s f o d)
  tree-stands any_entry s f o d = other any_entry s (placed ids None any_entry s) (stands ids leads OK lead any_entry s f o d)
  tree-stands unit_entry s f o d = other unit_entry s (placed ids None unit_entry s) (stands ids leads OK lead unit_entry s f o d)
  tree-stands (option_entry e) s f o d = other (option_entry e) s (placed ids None (option_entry e) s) (stands ids leads OK lead (option_entry e) s f o d)
  tree-stands (vec_entry e) s f o d = other (vec_entry e) s (placed ids None (vec_entry e) s) (stands ids leads OK lead (vec_entry e) s f o d)
  tree-stands (set_entry e) s f o d = other (set_entry e) s (placed ids None (set_entry e) s) (stands ids leads OK lead (set_entry e) s f o d)
  tree-stands (map_entry k e) s f o d = other (map_entry k e) s (placed ids None (map_entry k e) s) (stands ids leads OK lead (map_entry k e) s f o d)
  tree-stands (tuple_entry es) s f o d = other (tuple_entry es) s (placed ids None (tuple_entry es) s) (stands ids leads OK lead (tuple_entry es) s f o d)
  tree-stands (array_entry e n) s f o d = other (array_entry e n) s (placed ids None (array_entry e n) s) (stands ids leads OK lead (array_entry e n) s f o d)
  tree-stands (item n h) s f o d = other (item n h) s (placed ids None (item n h) s) (stands ids leads OK lead (item n h) s f o d)

  still : (s u : Space) (e : Entry) (i : Id) → Keeps leads s u → Stands leads s e i → Stands leads u e i
  still s u e i k (inl h) = inl (k e i h)
  still s u e i k (inr h) = inr h

  abbrev inside : List Entry → List ItemEntry
  inside es = flat_map items_in es

  abbrev AllStand : List Entry → Space → Type 0
  AllStand es s = AllByRecursion (λ e. (i : Id) × Stands leads s e i) es

  rest-stands : (es : List Entry) (s : Space) → AllByRecursion (λ e. is_formed e ≡ true) es → AllByRecursion (Each Any OK) es → Fresh s (inside es)
      → Enters s (placed_rest ids es s) (inside es) × AllStand es (placed_rest ids es s)
  rest-stands [] s f o d = (enters-none s, tt)
  rest-stands (e ∷ es) s f o d =
      let a = placed_tree ids e s in
      let u = placed_rest ids es a.0 in
      let h = tree-stands e s f.0 o.0 (fresh-left s (items_in e) (inside es) d) in
      let g = rest-stands es a.0 f.1 o.1 (fresh-right s a.0 (items_in e) (inside es) h.0 d) in
      (enters-both s a.0 u (items_in e) (inside es) h.0 g.0, ((a.1, still a.0 u e a.1 (keeps leads a.0 u (inside es) g.0) h.1), g.1))

  trees-stand : (targets : List TargetEntry) (es : List Entry) (s : Space) → AllByRecursion (λ e. is_formed e ≡ true) es → AllByRecursion (Each Any OK) es → Fresh s (inside es)
      → Enters s (placed_trees ids es s).0 (inside es) × AllStand es (placed_trees ids es s).0 × Stands leads (placed_trees ids es s).0 (root_of (record { targets = targets; trees = es })) (placed_trees ids es s).1
  trees-stand targets [] s f o d = let p = put-done null_at s refl tt in (p.0, tt, inl p.1)
  trees-stand targets (e ∷ es) s f o d =
      let a = placed_tree ids e s in
      let u = placed_rest ids es a.0 in
      let h = tree-stands e s f.0 o.0 (fresh-left s (items_in e) (inside es) d) in
      let g = rest-stands es a.0 f.1 o.1 (fresh-right s a.0 (items_in e) (inside es) h.0 d) in
      let r = still a.0 u e a.1 (keeps leads a.0 u (inside es) g.0) h.1 in
      (enters-both s a.0 u (items_in e) (inside es) h.0 g.0, ((a.1, r), g.1), r)

  -- ---- where references lead

  held-targets : (i : ℕ) (ts : List TargetEntry) (s : Space) → HeldFrom i ts s → AllByRecursion (λ x. ItemIsHeld leads s x.led_to) ts
  held-targets i [] s h = tt
  held-targets i (t ∷ ts) s h = ((i, h.0), held-targets (suc i) ts s h.1)

  held-kept : (i : ℕ) (ts : List TargetEntry) (s u : Space) → Keeps leads s u → HeldFrom i ts s → HeldFrom i ts u
  held-kept i [] s u k h = tt
  held-kept i (t ∷ ts) s u k h = (k (item t.led_to.name t.led_to.shape) i h.0, held-kept (suc i) ts s u k h.1)

  abbrev LedTo : List TargetEntry → Target → Space → Id → Type 0
  LedTo ts q s j = (x : ItemEntry) × (found q ts ≡ Some x) × Holds leads s (item x.name x.shape) j

  led-held : (i : ℕ) (ts : List TargetEntry) (q : Target) (s : Space) (j : Id) → HeldFrom i ts s → is_id j (led_from i ts q) ≡ true → LedTo ts q s j
  led-held i [] q s j h w = absurd (true≢false (sym w))
  led-held i (t ∷ ts) q s j h w = by (same_target q t.target) w (led-held (suc i) ts q s j h.1)
    where
      by : (b : Bool) → is_id j (if b then Some i else led_from (suc i) ts q) ≡ true → (is_id j (led_from (suc i) ts q) ≡ true → LedTo ts q s j)
          → (x : ItemEntry) × ((if b then Some t.led_to else found q ts) ≡ Some x) × Holds leads s (item x.name x.shape) j
      by true w more = (t.led_to, refl, subst (Holds leads s (item t.led_to.name t.led_to.shape)) (eqb-true i j w) h.0)
      by false w more = more w

-- what leads to an item leads to its place
led-by : (i : ℕ) (ts : List TargetEntry) (q : Target) (x : ItemEntry) → found q ts ≡ Some x → is_id (rest_or_first (led_from i ts q)) (led_from i ts q) ≡ true
led-by i [] q x h = absurd (true≢false (ap is_some (sym h)))
led-by i (t ∷ ts) q x h = by (same_target q t.target) h (led-by (suc i) ts q x)
  where
    by : (b : Bool) → (if b then Some t.led_to else found q ts) ≡ Some x → (found q ts ≡ Some x → is_id (rest_or_first (led_from (suc i) ts q)) (led_from (suc i) ts q) ≡ true)
        → is_id (rest_or_first (if b then Some i else led_from (suc i) ts q)) (if b then Some i else led_from (suc i) ts q) ≡ true
    by true h more = (unsigned_Decides i i).1 refl
    by false h more = more h

-- ---- whole

abbrev pub TableStands : Table → Space × Id → Type 0
TableStands t a = HoldsTable (leads_in t) a.0 t × Stands (leads_in t) a.0 (root_of t) a.1

pub table-stands : (t : Table) → IsSound t → IsFormed t → TableStands t (placed_table t)
table-stands t sound formed =
    let ids = ids_in t in
    let leads = leads_in t in
    let lead : (q : Target) → Leads t q → leads q (ids q) ≡ true = λ q x. led-by zero t.targets q x.0 x.1 in
    let first = led t.targets in
    let second = inner ids leads (Leads t) lead t.targets in
    let third = inside ids leads (Leads t) lead t.trees in
    let d : Fresh [] (first ++ (second ++ third)) = subst (λ xs. IsDistinct bytes_eq (names_of xs)) (append_assoc first second third) sound.distinct in
    let o = opened_targets t.targets [] in
    let a : Opens [] t.targets o = opens t.targets [] (fresh-left [] first (second ++ third) d) in
    let d2 : Fresh o (second ++ third) = fresh-right [] o first (second ++ third) a.0 d in
    let f = filled_targets ids zero t.targets o in
    let b : Fills ids leads (Leads t) lead zero t.targets o f = fills ids leads (Leads t) lead zero t.targets o a.1 formed.targets sound.targets (fresh-left o second third d2) in
    let d3 : Fresh f third =
    subst (IsDistinct bytes_eq)
    (ap (λ z. item_names o ++ z) (map-append (λ (x : ItemEntry). x.name) second third) ∙ sym (append_assoc (item_names o) (names_of second) (names_of third)) ∙ ap (λ z. z ++ names_of third) (sym b.named)) d2
    in
    let p = placed_trees ids t.trees f in
    let c = trees-stand ids leads (Leads t) lead t.targets t.trees f formed.trees sound.trees d3 in
    let k : Keeps leads f p.0 = keeps leads f p.0 third c.0 in
    let h = held-kept ids leads (Leads t) lead zero t.targets f p.0 k b.held in
    let names : item_names p.0 ≡ names_of (first ++ (second ++ third)) =
    c.0.named ∙ ap (λ z. z ++ names_of third) (b.named ∙ ap (λ z. z ++ names_of second) a.0.named) ∙ append_assoc (names_of first) (names_of second) (names_of third)
    ∙ ap (λ z. names_of first ++ z) (sym (map-append (λ (x : ItemEntry). x.name) second third)) ∙ sym (map-append (λ (x : ItemEntry). x.name) first (second ++ third))
    in
    let all_names : item_names p.0 ≡ names_of (items_of t) = names ∙ ap names_of (sym (append_assoc first second third)) in (
      record {
        targets = held-targets ids leads (Leads t) lead zero t.targets p.0 h;
        trees = c.1;
        led = λ q j w. led-held ids leads (Leads t) lead zero t.targets q p.0 j h w;
        named = items-names zero p.0 ∙ all_names;
        distinct = sound.distinct;
        lower = c.0.lower (b.lower (a.0.lower (λ i e q. none-some e q)));
      },
      c.2,
    )

-- ---- as the program has it

module _ (t : Table) (s : Space) (i : Id) (sound : IsSound t) (formed : IsFormed t) (made : placed_table t ≡ (s, i)) where
  made-stands : TableStands t (s, i)
  made-stands = subst (TableStands t) made (table-stands t sound formed)

  pub table_holds : HoldsTable (leads_in t) s t
  table_holds = made-stands.0

  pub root_stands : Stands (leads_in t) s (root_of t) i
  root_stands = made-stands.1

  pub table_emitted : SpacesEmitTables → emission_at s i ≡ emission t (root_of t)
  table_emitted law = law (leads_in t) s t made-stands.0 (root_of t) i made-stands.1
