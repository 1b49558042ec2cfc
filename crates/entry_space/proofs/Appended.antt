-- The space of the program's map when a pair whose key was not there is put at its end.
use Rattle.std.proofs.Common.{◌≡◌, ℕ, ◌+◌, ◌<◌, true, false, Bool, ◌&&◌, List, [], ◌∷◌, ◌++◌, length, Some, None, refl, sym, ap, subst, ◌∙◌, true≢false, cond, arith, length-append}
use Rattle.std.specs.Prelude.{is_some, Result, Ok, Err, OnOk, OnErr}
use Rattle.indexmap.specs.IndexMap.{insert_entry}
use Rattle.std.specs.Map.{lookup}
use Rattle.entry_types.specs.declared.entry.TypeEntry.{TypeEntry}
use Rattle.entry_types.specs.View.{entry_view}
use Rattle.entry_defs.specs.Space.{entry_at}
use Rattle.entry_space.specs.declared.key.Key.{Key}
use Rattle.entry_space.specs.contracts.key.KeyPartialEq.TheImpl as I
use Rattle.entry_space.specs.Keys.{same_key, has_key, bare, key_view, are_keyed}
use Rattle.entry_space.specs.Entered.{entered}
use Rattle.entry_space.proofs.Keys.{both-true, keyed-by, same-itself}
use Rattle.entry_space.proofs.Grown.{entries_in, none-there, entered-new}

keyed-end : (ps : List (Key × TypeEntry)) (p : Key × TypeEntry) → are_keyed ps ≡ true → same_key (key_view p.0) (entry_view p.1) ≡ true → are_keyed (ps ++ p ∷ []) ≡ true
keyed-end [] p h g = both-true (same_key (key_view p.0) (entry_view p.1)) true g refl
keyed-end (q ∷ qs) p h g = split (same_key (key_view q.0) (entry_view q.1)) (are_keyed qs) h (λ r. keyed-end qs p r g)
  where
    split : (a b : Bool) → (a && b) ≡ true → (b ≡ true → are_keyed (qs ++ p ∷ []) ≡ true) → (a && are_keyed (qs ++ p ∷ [])) ≡ true
    split true b r more = more r
    split false b r more = r

seen-end : (ps : List (Key × TypeEntry)) (p : Key × TypeEntry) → entries_in (ps ++ p ∷ []) ≡ entries_in ps ++ entry_view p.1 ∷ []
seen-end [] p = refl
seen-end (q ∷ qs) p = ap (λ s. entry_view q.1 ∷ s) (seen-end qs p)

at-the-end : (ps : List (Key × TypeEntry)) (p : Key × TypeEntry) → entry_at (entries_in (ps ++ p ∷ [])) (length ps) ≡ Some (entry_view p.1)
at-the-end [] p = refl
at-the-end (q ∷ qs) p = at-the-end qs p

-- ---- what `insert` makes where the key is not there

module _ (k : Key) (v : TypeEntry) where
  inserted-by : (p : Key × TypeEntry) (ps : List (Key × TypeEntry)) → (lookup (I.eq-value.it k) ps ≡ None → insert_entry I.eq-value.it ps k v ≡ ps ++ (k, v) ∷ [])
      → (b : Bool) → I.eq-value.it k p.0 ≡ b → cond b (Some p.1) (lookup (I.eq-value.it k) ps) ≡ None → insert_entry I.eq-value.it (p ∷ ps) k v ≡ p ∷ (ps ++ (k, v) ∷ [])
  inserted-by p ps rest true q m = absurd (true≢false (ap is_some m))
  inserted-by p ps rest false q m = ap (λ b. cond b ((p.0, v) ∷ ps) (p ∷ insert_entry I.eq-value.it ps k v)) q ∙ ap (λ xs. p ∷ xs) (rest m)

  pub inserted-end : (ps : List (Key × TypeEntry)) → lookup (I.eq-value.it k) ps ≡ None → insert_entry I.eq-value.it ps k v ≡ ps ++ (k, v) ∷ []
  inserted-end [] n = refl
  inserted-end (p ∷ ps) n = inserted-by p ps (inserted-end ps) (I.eq-value.it k p.0) refl n

module _ (old new : List (Key × TypeEntry)) (k : Key) (v : TypeEntry) (made : new ≡ old ++ (k, v) ∷ []) where
  pub few-after : length old < 4294967295 → length new < 4294967296
  few-after h = let e : length new ≡ length old + 1 = ap length made ∙ length-append old ((k, v) ∷ []) in omega arith

  module _ (kept : key_view k ≡ bare (entry_view v)) where
    pub at-end : (i : ℕ) → i ≡ length old → has_key (entry_view v) (entry_at (entries_in new) i) ≡ true
    at-end i h =
        (λ x. has_key (entry_view v) (entry_at (entries_in (made x)) (h x))) ∙ ap (has_key (entry_view v)) (at-the-end old (k, v)) ∙ same-itself (entry_view v)

    module _ (keyed : are_keyed old ≡ true) where
      pub keyed-after : are_keyed new ≡ true
      keyed-after = ap are_keyed made ∙ keyed-end old (k, v) keyed (keyed-by k (entry_view v) kept)

      pub seen-after : lookup (I.eq-value.it k) old ≡ None → entries_in new ≡ entered (entry_view v) (entries_in old)
      seen-after none = ap entries_in made ∙ seen-end old (k, v) ∙ sym (entered-new (entry_view v) (entries_in old) (none-there k (entry_view v) kept old keyed none))

-- an insertion that ends either way keeps the keys, and the ids are few
pub kept-after : {A B : Type 0} (result : Result A B) (old new : List (Key × TypeEntry)) (k : Key) (v : TypeEntry) → OnOk result (new ≡ insert_entry I.eq-value.it old k v)
    → OnErr result (new ≡ old) → lookup (I.eq-value.it k) old ≡ None → key_view k ≡ bare (entry_view v) → are_keyed old ≡ true → length old < 4294967295
    → (are_keyed new ≡ true) × (length new < 4294967296)
kept-after (Ok x) old new k v made same none kept keyed few =
    let e = made ∙ inserted-end k v old none in (keyed-after old new k v e kept keyed, few-after old new k v e few)
kept-after (Err x) old new k v made same none kept keyed few =
    (ap are_keyed same ∙ keyed, subst (λ ps. length ps < 4294967296) (sym same) (omega arith))
