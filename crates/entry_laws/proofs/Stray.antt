-- No tree stands at a reference that nothing leads to.
use Rattle.std.proofs.Common.{◌≡◌, zero, suc, List, [], Bool, true, false, Option, Some, None, is_some, refl, sym, ap, ◌∙◌, subst, true≢false}
use Rattle.std.specs.List.{IsDistinct}
use Rattle.entry_defs.specs.Entry.{Entry, boolean_entry, integer_entry, text_entry, native_entry, any_entry, unit_entry, option_entry, vec_entry, set_entry, map_entry, tuple_entry, array_entry, reference, item}
use Rattle.entry_defs.specs.Space.{Id, EntryAt, boolean_at, integer_at, text_at, native_at, any_at, null_at, option_at, vec_at, set_at, map_at, tuple_entry_at, array_at, reference_at, item_at, Holds}
use Rattle.space_defs.specs.Ordered.{parts_of, AreBelow, PartsAreLower}
use Rattle.entry_laws.specs.Examples.{stray, none_leads, StrayIds}

abbrev is_reference : Option EntryAt → Bool
is_reference (Some (reference_at j)) = true
is_reference _ = false

abbrev parts_in : Option EntryAt → List Id
parts_in None = []
parts_in (Some e) = parts_of e

another : (x : EntryAt) → is_reference (Some x) ≡ false → Some (reference_at 0) ≡ Some x → ⊥
another x n h = true≢false (ap is_reference h ∙ n)

treeless : (e : Entry) → Holds none_leads stray e 0 → ⊥
treeless boolean_entry h = another boolean_at refl h
treeless (integer_entry g) h = another (integer_at g) refl h
treeless text_entry h = another text_at refl h
treeless (native_entry f) h = another (native_at f) refl h
treeless any_entry h = another any_at refl h
treeless unit_entry h = another null_at refl h
treeless (option_entry e) h = another (option_at h.0) refl h.1
treeless (vec_entry e) h = another (vec_at h.0) refl h.1
treeless (set_entry e) h = another (set_at h.0) refl h.1
treeless (map_entry k e) h = another (map_at h.0 h.1) refl h.2
treeless (tuple_entry es) h = another (tuple_entry_at h.0) refl h.1
treeless (array_entry e n) h = another (array_at h.0 n) refl h.1
treeless (reference q) h = true≢false (sym h.2)
treeless (item n s) h = another (item_at n h.0) refl h.1

lower : PartsAreLower stray
lower zero e h = subst (λ o. AreBelow 0 (parts_in o)) h tt
lower (suc i) e h = absurd (true≢false (sym (ap is_some h)))

pub stray_ids : StrayIds
unfolding IsDistinct
stray_ids = record {
  holds = record { targets = tt; trees = tt; led = λ q j w. absurd (true≢false (sym w)); named = refl; distinct = tt; lower = lower };
  treeless = treeless;
}
