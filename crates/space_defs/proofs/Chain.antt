-- A space that holds the table of two items which use one another.
use Rattle.std.proofs.Common.{◌≡◌, ◌⊎◌, inl, inr, ◌<◌, ◌+◌, ℕ, zero, suc, List, [], ◌∷◌, Bool, true, false, ◌&&◌, ◌||◌, ◌==◌, Option, Some, None, is_some, refl, sym, ap, subst, true≢false, bytes_eq, codes, map, arith}
use Rattle.std.specs.List.{IsDistinct}
use Rattle.std.proofs.lemmas.Slice.Eq.{bytes_eq-Decides}
use Rattle.std.proofs.lemmas.Bool.{eqb-true}
use Rattle.entry_defs.specs.Entry.{Target, the_root, definition, unit_entry, reference, item, newtype_shape}
use Rattle.entry_defs.specs.Space.{Id, EntryAt, Space, entry_at, Holds}
use Rattle.entry_defs.specs.Table.{ItemEntry, target_item, items_of}
use Rattle.emit_defs.specs.Examples as tables
use Rattle.space_defs.specs.Ordered.{PartsAreLower, AreBelow, parts_of}
use Rattle.space_defs.specs.Held.{HoldsTable}
use Rattle.space_defs.specs.Examples.{chain, chain_leads}

-- ---- parts are lower, entry by entry

abbrev LowerFrom : ℕ → Space → Type 0
LowerFrom k [] = Unit {0}
LowerFrom k (e ∷ es) = AreBelow k (parts_of e) × LowerFrom (suc k) es

abbrev entry_or : EntryAt → Option EntryAt → EntryAt
entry_or d None = d
entry_or d (Some e) = e

lower_from : (es : Space) (k i j : ℕ) → LowerFrom k es → j ≡ k + i → (e : EntryAt) → entry_at es i ≡ Some e → AreBelow j (parts_of e)
lower_from [] k i j l f e h = absurd (true≢false (sym (ap is_some h)))
lower_from (x ∷ xs) k zero j l f e h =
    let k_is : k ≡ j = omega arith in
    subst (λ z. AreBelow j (parts_of z)) (ap (entry_or x) h) (subst (λ z. AreBelow z (parts_of x)) k_is l.0)
lower_from (x ∷ xs) k (suc i) j l f e h = lower_from xs (suc k) i j l.1 (omega arith) e h

below : (j k : ℕ) → j < k → AreBelow k (j ∷ [])
below j k l = (l, tt)

chain_lower : PartsAreLower chain
chain_lower i e h =
    lower_from chain 0 i i (tt, (tt, (tt, (below 2 3 (omega arith), (tt, (below 4 5 (omega arith), (below 2 6 (omega arith), tt))))))) (omega arith) e h

-- ---- items

abbrev a : Target
a = definition (codes "a")

abbrev b : Target
b = definition (codes "b")

to_a : Holds chain_leads chain (reference a) 2
to_a = (0, refl, refl)

to_b : Holds chain_leads chain (reference b) 4
to_b = (1, refl, refl)

-- what a target of the table has
abbrev or_none : Option ItemEntry → ItemEntry
or_none None = record { name = []; shape = newtype_shape unit_entry None }
or_none (Some x) = x

abbrev item_a : ItemEntry
item_a = or_none (target_item tables.chain a)

abbrev item_b : ItemEntry
item_b = or_none (target_item tables.chain b)

a_held : Holds chain_leads chain (item item_a.name item_a.shape) 0
a_held = (_, refl, (_, _, refl, (refl, refl, refl, to_a, (refl, refl, refl, (2, refl, to_a), (refl, refl, refl, (4, refl, to_b), (refl, to_a))))))

b_held : Holds chain_leads chain (item item_b.name item_b.shape) 1
b_held = (_, refl, (6, refl, (2, refl, to_a)))

-- ---- references

either : (x y : Bool) → (x || y) ≡ true → (x ≡ true) ⊎ (y ≡ true)
either true y h = inl refl
either false y h = inr h

both : (x y : Bool) → (x && y) ≡ true → (x ≡ true) × (y ≡ true)
both true y h = (refl, h)
both false y h = absurd (true≢false (sym h))

abbrev IsLed : Target → Id → Type 0
IsLed q j = (x : ItemEntry) × (target_item tables.chain q ≡ Some x) × Holds chain_leads chain (item x.name x.shape) j

at_key : (key k : List ℕ) (i j : Id) → (bytes_eq k key && (j == i)) ≡ true → IsLed (definition key) i → IsLed (definition k) j
at_key key k i j h l =
    let p = both (bytes_eq k key) (j == i) h in
    subst (λ z. IsLed (definition z) j) (sym ((bytes_eq-Decides k key).0 p.0)) (subst (λ z. IsLed (definition key) z) (sym (eqb-true j i p.1)) l)

chain_led : (q : Target) (j : Id) → chain_leads q j ≡ true → IsLed q j
chain_led the_root j h = absurd (true≢false (sym h))
chain_led (definition k) j h = elim (either (bytes_eq k (codes "a") && (j == 0)) (bytes_eq k (codes "b") && (j == 1)) h) [
  | inl x ↦ at_key (codes "a") k 0 j x (item_a, refl, a_held)
  | inr x ↦ at_key (codes "b") k 1 j x (item_b, refl, b_held)
]

names_differ : IsDistinct bytes_eq (map (λ x. x.name) (items_of tables.chain))
unfolding IsDistinct
names_differ = ((refl, tt), (tt, tt))

pub chain_held : HoldsTable chain_leads chain tables.chain
chain_held = record {
  targets = ((0, a_held), ((1, b_held), tt));
  trees = ((1, inr (b, refl, refl)), tt);
  led = chain_led;
  named = refl;
  distinct = names_differ;
  lower = chain_lower;
}
