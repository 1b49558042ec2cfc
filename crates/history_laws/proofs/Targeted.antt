-- The items that references lead to stand in the space in which they are filled, alone.
use Rattle.std.proofs.Common.{◌≡◌, ℕ, zero, suc, List, [], ◌∷◌, Bool, true, false, Option, Some, None, refl, sym, ap, true≢false}
use Rattle.std.specs.Prelude.{is_some, if◌then◌else◌}
use Rattle.std.specs.Cmp.{unsigned_Decides}
use Rattle.std.specs.List.{IsDistinct}
use Rattle.std.proofs.lemmas.Slice.Eq.{bytes_eq-Decides}
use Rattle.entry_defs.specs.Entry.{Target, the_root, definition, Entry, reference}
use Rattle.entry_defs.specs.Table.{ItemEntry, TargetEntry, Table, same_target, found}
use Rattle.entry_defs.specs.Sound.{Leads}
use Rattle.naming_defs.specs.Good.{is_good_name}
use Rattle.naming_defs.specs.Laws.{IsFit}
use Rattle.naming_defs.proofs.Sound.{named_tables_are_sound}
use Rattle.space_defs.specs.Held.{HoldsTable}
use Rattle.space_trees.specs.Filled.{led_from, is_id, leads_in, ids_in, placed_targets}
use Rattle.space_trees.specs.Formed.{IsFormed}
use Rattle.space_trees.specs.Placed.{rest_or_first}
use Rattle.space_trees.proofs.Places.{none-some}
use Rattle.space_trees.proofs.Tables.{table-stands}
use Rattle.history_laws.specs.Placing.{with_names, led_alone}
use Rattle.history_laws.proofs.Fitting.{fit-with}

same-itself : (q : Target) → same_target q q ≡ true
same-itself the_root = refl
same-itself (definition k) = (bytes_eq-Decides k k).1 refl

-- the first target leads to its item
first-leads : (x : TargetEntry) (xs : List TargetEntry) (es : List Entry) → Leads (record { targets = x ∷ xs; trees = es }) x.target
first-leads x xs es = (x.led_to, ap (λ b. if b then Some x.led_to else found x.target xs) (same-itself x.target))

-- where a tree refers to the first of them, nothing is entered for it
alone-by : (ts : List TargetEntry) (es : List Entry) → let t : Table = record { targets = ts; trees = es } in
    IsFit t → IsFormed (with_names t) → HoldsTable (leads_in (with_names t)) (placed_targets (ids_in (with_names t)) (with_names t).targets) (led_alone (with_names t))
unfolding IsDistinct
alone-by [] es fit formed = record { targets = tt; trees = tt; led = λ q j w. absurd (true≢false (sym w)); named = refl; distinct = tt; lower = λ i e q. none-some e q }
alone-by (x ∷ xs) es fit formed =
    let u : Table = record { targets = x ∷ xs; trees = reference x.target ∷ [] } in
    let w = with_names u in
    let sound = named_tables_are_sound is_good_name u (fit-with (x ∷ xs) es (reference x.target ∷ []) fit (first-leads x xs es, tt)) in
    let h = (table-stands w sound (record { trees = (refl, tt); targets = formed.targets })).0 in
    record { targets = h.targets; trees = tt; led = h.led; named = h.named; distinct = h.distinct; lower = h.lower }

pub alone : (t : Table) → IsFit t → IsFormed (with_names t) → HoldsTable (leads_in (with_names t)) (placed_targets (ids_in (with_names t)) (with_names t).targets) (led_alone (with_names t))
alone t fit formed = alone-by t.targets t.trees fit formed

-- ---- what leads to an item leads to its place

led-so : (i : ℕ) (ts : List TargetEntry) (q : Target) (x : ItemEntry) → found q ts ≡ Some x → is_some (led_from i ts q) ≡ true
led-so i [] q x h = absurd (true≢false (ap is_some (sym h)))
led-so i (t ∷ ts) q x h = by (same_target q t.target) h (led-so (suc i) ts q x)
  where
    by : (b : Bool) → (if b then Some t.led_to else found q ts) ≡ Some x → (found q ts ≡ Some x → is_some (led_from (suc i) ts q) ≡ true) → is_some (if b then Some i else led_from (suc i) ts q) ≡ true
    by true h more = refl
    by false h more = more h

own-id : (o : Option ℕ) → is_some o ≡ true → is_id (rest_or_first o) o ≡ true
own-id None h = absurd (true≢false (sym h))
own-id (Some i) h = (unsigned_Decides i i).1 refl

pub leads-there : (t : Table) (q : Target) → Leads t q → leads_in t q (ids_in t q) ≡ true
leads-there t q h = own-id (led_from zero t.targets q) (led-so zero t.targets q h.0 h.1)
