-- The space of the program's map when an item is filled in.
use Rattle.std.proofs.Common.{◌≡◌, ℕ, zero, suc, true, List, [], ◌∷◌, length, slice_get, Option, Some, None, refl, sym, ap, ◌∙◌, true≢false}
use Rattle.std.specs.Prelude.{is_some}
use Rattle.std.specs.Map.{values_of}
use Rattle.indexmap.specs.IndexMap.{set_value_at}
use Rattle.entry_types.specs.declared.entry.TypeEntry.{TypeEntry}
use Rattle.entry_types.specs.View.{entry_view}
use Rattle.entry_defs.specs.Space.{ShapeAt, EntryAt, boolean_at, integer_at, text_at, native_at, any_at, null_at, option_at, vec_at, set_at, map_at, tuple_entry_at, array_at, reference_at, item_at}
use Rattle.entry_space.specs.declared.key.Key.{Key}
use Rattle.entry_space.specs.Keys.{same_key, key_view, are_keyed}
use Rattle.entry_space.specs.Entered.{shaped, filled}
use Rattle.entry_space.proofs.Keys.{first-true, second-true, both-true}
use Rattle.entry_space.proofs.Grown.{entries_in}

item-key : (s t : ShapeAt) (n : List ℕ) (e : EntryAt) → same_key e (item_at n s) ≡ same_key e (item_at n t)
item-key s t n boolean_at = refl
item-key s t n (integer_at g) = refl
item-key s t n text_at = refl
item-key s t n (native_at f) = refl
item-key s t n any_at = refl
item-key s t n null_at = refl
item-key s t n (option_at i) = refl
item-key s t n (vec_at i) = refl
item-key s t n (set_at i) = refl
item-key s t n (map_at k i) = refl
item-key s t n (tuple_entry_at is) = refl
item-key s t n (array_at i m) = refl
item-key s t n (reference_at i) = refl
item-key s t n (item_at m u) = refl

shaped-key : (s : ShapeAt) (e f : EntryAt) → same_key e (shaped s f) ≡ same_key e f
shaped-key s e boolean_at = refl
shaped-key s e (integer_at g) = refl
shaped-key s e text_at = refl
shaped-key s e (native_at f) = refl
shaped-key s e any_at = refl
shaped-key s e null_at = refl
shaped-key s e (option_at i) = refl
shaped-key s e (vec_at i) = refl
shaped-key s e (set_at i) = refl
shaped-key s e (map_at k i) = refl
shaped-key s e (tuple_entry_at is) = refl
shaped-key s e (array_at i m) = refl
shaped-key s e (reference_at i) = refl
shaped-key s e (item_at n t) = item-key s t n e

module _ (s : ShapeAt) (v w : TypeEntry) (made : entry_view w ≡ shaped s (entry_view v)) where
  value-is : {a b : TypeEntry} → Some a ≡ Some b → entry_view a ≡ entry_view b
  value-is {a} {b} h = ap (λ o. seen-or (entry_view a) o) h
    where
      seen-or : EntryAt → Option TypeEntry → EntryAt
      seen-or d None = d
      seen-or d (Some x) = entry_view x

  pub keyed-filled : (ps : List (Key × TypeEntry)) (i : ℕ) → are_keyed ps ≡ true → Some v ≡ slice_get (values_of ps) i → are_keyed (set_value_at ps i w) ≡ true
  keyed-filled [] i h g = h
  keyed-filled (p ∷ ps) zero h g =
      both-true _ _
      (ap (same_key (key_view p.0)) (made ∙ ap (shaped s) (value-is g)) ∙ shaped-key s (key_view p.0) (entry_view p.1) ∙ first-true (same_key (key_view p.0) (entry_view p.1)) (are_keyed ps) h)
      (second-true (same_key (key_view p.0) (entry_view p.1)) (are_keyed ps) h)
  keyed-filled (p ∷ ps) (suc i) h g =
      both-true _ _ (first-true (same_key (key_view p.0) (entry_view p.1)) (are_keyed ps) h) (keyed-filled ps i (second-true (same_key (key_view p.0) (entry_view p.1)) (are_keyed ps) h) g)

  pub seen-filled : (ps : List (Key × TypeEntry)) (i : ℕ) → Some v ≡ slice_get (values_of ps) i → entries_in (set_value_at ps i w) ≡ filled i s (entries_in ps)
  seen-filled [] i g = refl
  seen-filled (p ∷ ps) zero g = ap (λ e. e ∷ entries_in ps) (made ∙ ap (shaped s) (value-is g))
  seen-filled (p ∷ ps) (suc i) g = ap (λ es. entry_view p.1 ∷ es) (seen-filled ps i g)

pub none-filled : (s : ShapeAt) (ps : List (Key × TypeEntry)) (i : ℕ) → None ≡ slice_get (values_of ps) i → entries_in ps ≡ filled i s (entries_in ps)
none-filled s [] i g = refl
none-filled s (p ∷ ps) zero g = absurd (true≢false (sym (ap is_some g)))
none-filled s (p ∷ ps) (suc i) g = ap (λ es. entry_view p.1 ∷ es) (none-filled s ps i g)

pub length-filled : (ps : List (Key × TypeEntry)) (i : ℕ) (w : TypeEntry) → length (set_value_at ps i w) ≡ length ps
length-filled [] i w = refl
length-filled (p ∷ ps) zero w = refl
length-filled (p ∷ ps) (suc i) w = ap suc (length-filled ps i w)
