-- In a space that holds a table an entry leads to an option exactly where it does in the table.
use Rattle.std.proofs.Common.{◌≡◌, ◌≤◌, ◌+◌, ℕ, zero, suc, List, [], ◌∷◌, ◌++◌, map, length, length-append, flat_map, Bool, true, false, ◌&&◌, not, cond, Option, Some, None, is_some, refl, sym, ap, ap₂, ◌∙◌, subst, true≢false, arith}
use Rattle.entry_defs.specs.Entry.{Target, Entry, boolean_entry, integer_entry, text_entry, native_entry, any_entry, unit_entry, option_entry, vec_entry, set_entry, map_entry, tuple_entry, array_entry, reference, item, Shape, struct_shape, enum_shape, newtype_shape}
use Rattle.entry_defs.specs.Space.{Id, ShapeAt, newtype_shape_at, EntryAt, item_at, Space, entry_at, Holds}
use Rattle.entry_defs.specs.Table.{TargetEntry, Table, same_target, found, target_name, item_name, items_in_shape, items_in, allowed}
use Rattle.emit_defs.specs.Setting as tables
use Rattle.emit_defs.specs.Setting.{is_phantom, ends_in_phantom, entry_leads, shape_leads, item_leads, boxes, leads_of}
use Rattle.emit_defs.specs.Boxing.{BoxesAreExact}
use Rattle.use_graph.specs.declared.ends.Next.{Next}
use Rattle.use_graph.specs.declared.ends.Next.TheVariants.{Yes, No, To}
use Rattle.use_graph.specs.Ends.{next_at, next_leads, leads_within, ComesToYes, at_once, further}
use Rattle.use_graph.specs.Laws.{ReachingIsDecided, LeadingIsDecided}
use Rattle.space_defs.specs.Items.{name_of}
use Rattle.space_defs.specs.Uses.{boxes_at}
use Rattle.space_defs.specs.Leads.{is_phantom_use, phantom_entry, ends_in_phantom_at, next_of_item, next_of, nexts_from, leads_at}
use Rattle.space_defs.specs.Held.{HoldsTable}
use Rattle.space_defs.proofs.Lists.{same_bools, length_map}
use Rattle.space_defs.proofs.Reached.{boxes_same}

-- ---- in tables: more steps than a table has targets change nothing

module _ (name : Target → List ℕ) (is_boxed : List ℕ → List ℕ → Bool) (ts : List TargetEntry) where
  -- the place of a target; past the last where there is none
  abbrev place_of : Target → List TargetEntry → ℕ
  place_of q [] = zero
  place_of q (x ∷ xs) = cond (same_target q x.target) zero (suc (place_of q xs))

  abbrev mutual
    entry_next : Entry → Next
    entry_next (option_entry e) = Yes
    entry_next (reference q) = To (place_of q ts)
    entry_next (item n s) = shape_next n s
    entry_next _ = No

    shape_next : List ℕ → Shape → Next
    shape_next n (newtype_shape e None) = cond (ends_in_phantom name is_boxed n e) No (entry_next e)
    shape_next n (newtype_shape e (Some rule)) = No
    shape_next n (struct_shape closed fs) = No
    shape_next n (enum_shape closed tag ws) = No

  abbrev target_next : TargetEntry → Next
  target_next x = shape_next x.led_to.name x.led_to.shape

  abbrev nexts : List TargetEntry → List Next
  nexts xs = map target_next xs

  module _ (follows : Target → Bool) (leads : ℕ → Bool) (same : (q : Target) → follows q ≡ leads (place_of q ts)) where
    mutual
      entry_follows : (e : Entry) → entry_leads name is_boxed follows e ≡ next_leads leads (entry_next e)
      entry_follows (option_entry e) = refl
      entry_follows (reference q) = same q
      entry_follows (item n s) = shape_follows n s
      entry_follows boolean_entry = refl
      entry_follows (integer_entry i) = refl
      entry_follows text_entry = refl
      entry_follows (native_entry f) = refl
      entry_follows any_entry = refl
      entry_follows unit_entry = refl
      entry_follows (vec_entry e) = refl
      entry_follows (set_entry e) = refl
      entry_follows (map_entry k e) = refl
      entry_follows (tuple_entry es) = refl
      entry_follows (array_entry e n) = refl

      shape_follows : (n : List ℕ) (s : Shape) → shape_leads name is_boxed follows n s ≡ next_leads leads (shape_next n s)
      shape_follows n (newtype_shape e None) =
          let rec = entry_follows e in
          elim (ends_in_phantom name is_boxed n e) as (λ b. (not b && entry_leads name is_boxed follows e) ≡ next_leads leads (cond b No (entry_next e))) [ true ↦ refl | false ↦ rec ]
      shape_follows n (newtype_shape e (Some rule)) = refl
      shape_follows n (struct_shape closed fs) = refl
      shape_follows n (enum_shape closed tag ws) = refl

    found_follows : (q : Target) (xs : List TargetEntry) → item_leads name is_boxed follows (found q xs) ≡ next_leads leads (next_at (nexts xs) (place_of q xs))
    found_follows q [] = refl
    found_follows q (x ∷ xs) =
        let rec = found_follows q xs in
        elim (same_target q x.target) as (λ b. item_leads name is_boxed follows (cond b (Some x.led_to) (found q xs)) ≡ next_leads leads (next_at (nexts (x ∷ xs)) (cond b zero (suc (place_of q xs))))) [
          | true ↦ shape_follows x.led_to.name x.led_to.shape
          | false ↦ rec
        ]

module _ (t : Table) where
  abbrev name : Target → List ℕ
  name q = target_name t q

  abbrev follows : ℕ → Target → Bool
  follows k q = tables.leads_within name (boxes t) t k q

  abbrev graph : List Next
  graph = nexts name (boxes t) t.targets t.targets

  abbrev place : Target → ℕ
  place q = place_of name (boxes t) t.targets q t.targets

  follows_graph : (k : ℕ) (q : Target) → follows k q ≡ leads_within graph k (place q)
  follows_graph zero q = refl
  follows_graph (suc k) q = found_follows name (boxes t) t.targets (follows k) (leads_within graph k) (follows_graph k) q t.targets

  module _ (decided : LeadingIsDecided) where
    enough_places : (k l i : ℕ) → length graph ≤ k → length graph ≤ l → leads_within graph k i ≡ leads_within graph l i
    enough_places k l i a b =
        let f = decided graph k i a in
        let g = decided graph l i b in
        same_bools (leads_within graph k i) (leads_within graph l i) (λ x. g.1 (f.0 x)) (λ x. f.1 (g.0 x))

    next_enough : (k l : ℕ) → length graph ≤ k → length graph ≤ l → (n : Next) → next_leads (leads_within graph k) n ≡ next_leads (leads_within graph l) n
    next_enough k l a b Yes = refl
    next_enough k l a b No = refl
    next_enough k l a b (To j) = enough_places k l j a b

    pub enough : (k l : ℕ) → length graph ≤ k → length graph ≤ l → (e : Entry) → entry_leads name (boxes t) (follows k) e ≡ entry_leads name (boxes t) (follows l) e
    enough k l a b e =
        entry_follows name (boxes t) t.targets (follows k) (leads_within graph k) (follows_graph k) e
        ∙ next_enough k l a b (entry_next name (boxes t) t.targets e)
        ∙ sym (entry_follows name (boxes t) t.targets (follows l) (leads_within graph l) (follows_graph l) e)

  allowed_enough : length graph ≤ allowed t
  allowed_enough =
      let a = length_map (target_next name (boxes t) t.targets) t.targets in
      let b = length_map (λ (x : TargetEntry). x.led_to) t.targets in
      let led = map (λ (x : TargetEntry). x.led_to) t.targets in
      let under = flat_map (λ (x : TargetEntry). items_in_shape x.led_to.shape) t.targets in
      let c = length-append (led ++ under) (flat_map items_in t.trees) in
      let d = length-append led under in
      omega arith

-- ---- what stands at an id

abbrev entry_or : EntryAt → Option EntryAt → EntryAt
entry_or d None = d
entry_or d (Some y) = y

nexts_at : (space : Space) (boxed : Id → Id → Bool) (es : Space) (k i j : Id) (e : EntryAt) → j ≡ k + i → entry_at es i ≡ Some e → next_at (nexts_from space boxed k es) i ≡ next_of space boxed j e
nexts_at space boxed [] k i j e h a = absurd (true≢false (sym (ap is_some a)))
nexts_at space boxed (x ∷ xs) k zero j e h a =
    let k_is : k ≡ j = omega arith in
    ap₂ (λ z y. next_of space boxed z (entry_or x y)) k_is a
nexts_at space boxed (x ∷ xs) k (suc i) j e h a = nexts_at space boxed xs (suc k) i j e (omega arith) a

pub as_many : (space : Space) (boxed : Id → Id → Bool) (es : Space) (k : Id) → length (nexts_from space boxed k es) ≡ length es
as_many space boxed [] k = refl
as_many space boxed (x ∷ xs) k = ap suc (as_many space boxed xs (suc k))

module _ (leads : Target → Id → Bool) (space : Space) (t : Table) (h : HoldsTable leads space t) (reaching : ReachingIsDecided) (leading : LeadingIsDecided) (exact : BoxesAreExact) where
  abbrev boxed : Id → Id → Bool
  boxed o u = boxes_at space o u

  abbrev ns : List Next
  ns = nexts_from space boxed 0 space

  abbrev named : Target → List ℕ
  named q = target_name t q

  next_there : (i : Id) (e : EntryAt) → entry_at space i ≡ Some e → next_at ns i ≡ next_of space boxed i e
  next_there i e a = nexts_at space boxed space 0 i i e (omega arith) a

  -- a use of an item named m at o
  phantom_use : (o u : Id) (m n : List ℕ) (s r : ShapeAt) → entry_at space o ≡ Some (item_at m s) → entry_at space u ≡ Some (item_at n r)
      → is_phantom_use space boxed o u ≡ (is_phantom n && not (boxes t m n))
  phantom_use o u m n s r a b = ap₂ (λ x y. is_phantom x && not y) (ap name_of b) (boxes_same leads space t h reaching exact o u m n s r a b)

  pub phantom_same : (e : Entry) (j : Id) → Holds leads space e j → (o : Id) (m : List ℕ) (s : ShapeAt) → entry_at space o ≡ Some (item_at m s) → ends_in_phantom_at space boxed o j ≡ ends_in_phantom named (boxes t) m e
  phantom_same boolean_entry j k o m s a = ap (phantom_entry space boxed o j) k
  phantom_same (integer_entry x) j k o m s a = ap (phantom_entry space boxed o j) k
  phantom_same text_entry j k o m s a = ap (phantom_entry space boxed o j) k
  phantom_same (native_entry f) j k o m s a = ap (phantom_entry space boxed o j) k
  phantom_same any_entry j k o m s a = ap (phantom_entry space boxed o j) k
  phantom_same unit_entry j k o m s a = ap (phantom_entry space boxed o j) k
  phantom_same (option_entry e) j k o m s a = ap (phantom_entry space boxed o j) k.1
  phantom_same (vec_entry e) j k o m s a = ap (phantom_entry space boxed o j) k.1
  phantom_same (set_entry e) j k o m s a = ap (phantom_entry space boxed o j) k.1
  phantom_same (map_entry l e) j k o m s a = ap (phantom_entry space boxed o j) k.2
  phantom_same (tuple_entry es) j k o m s a = ap (phantom_entry space boxed o j) k.1
  phantom_same (array_entry e l) j k o m s a = ap (phantom_entry space boxed o j) k.1
  phantom_same (reference q) j k o m s a =
      let l = h.led q k.0 k.2 in
      ap (phantom_entry space boxed o j) k.1 ∙ phantom_use o k.0 m l.0.name s l.2.0 a l.2.1 ∙ ap (λ n. is_phantom n && not (boxes t m n)) (sym (ap item_name l.1))
  phantom_same (item n c) j k o m s a = ap (phantom_entry space boxed o j) k.1 ∙ phantom_use o j m n s k.0 a k.1

  -- ---- leading in the space is leading in the table

  steps : (k : ℕ) (i : Id) (e : EntryAt) → entry_at space i ≡ Some e → leads_within ns (suc k) i ≡ true → next_leads (leads_within ns k) (next_of space boxed i e) ≡ true
  steps k i e a x = subst (λ n. next_leads (leads_within ns k) n ≡ true) (next_there i e a) x

  never : false ≡ true → ⊥
  never x = true≢false (sym x)

  abbrev Leads : ℕ → Entry → Type 0
  Leads j e = entry_leads named (boxes t) (follows t j) e ≡ true

  split : (b : Bool) (x : Next) (l : ℕ → Bool) → next_leads l (cond b No x) ≡ true → (b ≡ false) × (next_leads l x ≡ true)
  split true x l k = absurd (true≢false (sym k))
  split false x l k = (refl, k)

  both_hold : (b c : Bool) → b ≡ false → c ≡ true → (not b && c) ≡ true
  both_hold true c e f = absurd (true≢false e)
  both_hold false c e f = f

  to_table : (k j : ℕ) → k ≤ j → (i : Id) → leads_within ns k i ≡ true → (e : Entry) → Holds leads space e i → Leads j e
  to_table zero j l i x e k = absurd (never x)
  to_table (suc n) j l i x boolean_entry k = absurd (never (steps n i _ k x))
  to_table (suc n) j l i x (integer_entry y) k = absurd (never (steps n i _ k x))
  to_table (suc n) j l i x text_entry k = absurd (never (steps n i _ k x))
  to_table (suc n) j l i x (native_entry f) k = absurd (never (steps n i _ k x))
  to_table (suc n) j l i x any_entry k = absurd (never (steps n i _ k x))
  to_table (suc n) j l i x unit_entry k = absurd (never (steps n i _ k x))
  to_table (suc n) j l i x (option_entry e) k = refl
  to_table (suc n) j l i x (vec_entry e) k = absurd (never (steps n i _ k.1 x))
  to_table (suc n) j l i x (set_entry e) k = absurd (never (steps n i _ k.1 x))
  to_table (suc n) j l i x (map_entry y e) k = absurd (never (steps n i _ k.2 x))
  to_table (suc n) j l i x (tuple_entry es) k = absurd (never (steps n i _ k.1 x))
  to_table (suc n) j l i x (array_entry e y) k = absurd (never (steps n i _ k.1 x))
  to_table (suc n) zero l i x (reference q) k = absurd (omega arith)
  to_table (suc n) (suc j) l i x (reference q) k =
      let d = h.led q k.0 k.2 in
      subst (λ o. item_leads named (boxes t) (follows t j) o ≡ true) (sym d.1) (to_table n j (omega arith) k.0 (steps n i _ k.1 x) (item d.0.name d.0.shape) d.2)
  to_table (suc n) j l i x (item m (struct_shape closed fs)) k = absurd (never (subst (λ s. next_leads (leads_within ns n) (next_of_item space boxed i s) ≡ true) k.2.2 (steps n i _ k.1 x)))
  to_table (suc n) j l i x (item m (enum_shape closed tag ws)) k = absurd (never (subst (λ s. next_leads (leads_within ns n) (next_of_item space boxed i s) ≡ true) k.2.1 (steps n i _ k.1 x)))
  to_table (suc n) j l i x (item m (newtype_shape e (Some rule))) k = absurd (never (subst (λ s. next_leads (leads_within ns n) (next_of_item space boxed i s) ≡ true) k.2.1 (steps n i _ k.1 x)))
  to_table (suc n) j l i x (item m (newtype_shape e None)) k =
      let y = subst (λ s. next_leads (leads_within ns n) (next_of_item space boxed i s) ≡ true) k.2.1 (steps n i _ k.1 x) in
      let z = split (ends_in_phantom_at space boxed i k.2.0) (To k.2.0) (leads_within ns n) y in
      let p = sym (phantom_same e k.2.0 k.2.2 i m k.0 k.1) ∙ z.0 in
      both_hold (ends_in_phantom named (boxes t) m e) (entry_leads named (boxes t) (follows t j) e) p (to_table n j (omega arith) k.2.0 z.1 e k.2.2)

  -- ---- and leading in the table is leading in the space

  module _ (by : Target → Bool) (comes : (q : Target) (j : Id) → by q ≡ true → leads q j ≡ true → ComesToYes ns j) where
    two_hold : (b c : Bool) → (not b && c) ≡ true → (b ≡ false) × (c ≡ true)
    two_hold true c k = absurd (true≢false (sym k))
    two_hold false c k = (refl, k)

    goes_on : (i j : Id) (n : List ℕ) (s : ShapeAt) → entry_at space i ≡ Some (item_at n s) → s ≡ newtype_shape_at j None → ends_in_phantom_at space boxed i j ≡ false → next_at ns i ≡ To j
    goes_on i j n s a e p = next_there i (item_at n s) a ∙ ap (next_of_item space boxed i) e ∙ ap (λ b. cond b No (To j)) p

    to_space : (e : Entry) → entry_leads named (boxes t) by e ≡ true → (i : Id) → Holds leads space e i → ComesToYes ns i
    to_space boolean_entry x i k = absurd (never x)
    to_space (integer_entry y) x i k = absurd (never x)
    to_space text_entry x i k = absurd (never x)
    to_space (native_entry f) x i k = absurd (never x)
    to_space any_entry x i k = absurd (never x)
    to_space unit_entry x i k = absurd (never x)
    to_space (option_entry e) x i k = at_once i (next_there i _ k.1)
    to_space (vec_entry e) x i k = absurd (never x)
    to_space (set_entry e) x i k = absurd (never x)
    to_space (map_entry y e) x i k = absurd (never x)
    to_space (tuple_entry es) x i k = absurd (never x)
    to_space (array_entry e y) x i k = absurd (never x)
    to_space (reference q) x i k = further i k.0 (next_there i _ k.1) (comes q k.0 x k.2)
    to_space (item m (struct_shape closed fs)) x i k = absurd (never x)
    to_space (item m (enum_shape closed tag ws)) x i k = absurd (never x)
    to_space (item m (newtype_shape e (Some rule))) x i k = absurd (never x)
    to_space (item m (newtype_shape e None)) x i k =
        let z = two_hold (ends_in_phantom named (boxes t) m e) (entry_leads named (boxes t) by e) x in
        further i k.2.0 (goes_on i k.2.0 m k.0 k.1 k.2.1 (phantom_same e k.2.0 k.2.2 i m k.0 k.1 ∙ z.0)) (to_space e z.1 k.2.0 k.2.2)

  targets_come : (k : ℕ) (q : Target) (j : Id) → follows t k q ≡ true → leads q j ≡ true → ComesToYes ns j
  targets_come zero q j x y = absurd (never x)
  targets_come (suc k) q j x y =
      let d = h.led q j y in
      to_space (follows t k) (targets_come k) (item d.0.name d.0.shape) (subst (λ o. item_leads named (boxes t) (follows t k) o ≡ true) d.1 x) j d.2

  pub leads_same : (e : Entry) (i : Id) → Holds leads space e i → leads_at space boxed i ≡ leads_of t e
  leads_same e i k =
      let many = as_many space boxed space 0 in
      let most = suc (length space) + allowed t in
      let few = allowed_enough t in
      let more : length (graph t) ≤ most = omega arith in
      let all : length ns ≤ suc (length space) = omega arith in
      let within : suc (length space) ≤ most = omega arith in
      same_bools (leads_at space boxed i) (leads_of t e)
      (λ x. sym (enough t leading most (allowed t) more few e) ∙ to_table (suc (length space)) most within i x e k)
      (λ x. (leading ns (suc (length space)) i all).1 (to_space (follows t (allowed t)) (targets_come (allowed t)) e x i k))
