-- One value more.
use Rattle.std.proofs.Common.{◌≡◌, ℕ, [], ◌∷◌, ◌++◌, Bool, true, false, ◌||◌, cond, Option, Some, None, Vec, map, refl, sym, ap, ◌∙◌, inl, inr, ◌⊎◌, true≢false, eqb}
use Rattle.std.specs.Global.{Global}
use Rattle.std.specs.BTreeMap.{BTreeMap, get, is_at}
use Rattle.std.specs.Cmp.{unsigned_Decides}
use Rattle.std.specs.List.{list_any}
use Rattle.std.specs.Ordering.{nat_cmp, is_eq, ordering_reverse}
use Rattle.std.specs.declared.cmp.Ordering.{Ordering}
use Rattle.std.specs.declared.cmp.Ordering.TheVariants.{Less, Equal, Greater}
use Rattle.std.proofs.lemmas.Cmp.{nat_cmp_total}
use Rattle.std.proofs.lemmas.List.Folds.{list_any-append}
use Rattle.serde_json.specs.declared.value.Value as json
use Rattle.json_value.specs.Value.{Value, same}
use Rattle.json_value.specs.View.{kept_view}
use Rattle.json_value.proofs.Equality.{same_sound}
use Rattle.value_sets.specs.Key.{key_with}
use Rattle.value_sets.specs.Held.{listed, at_key}

turned : (a b : Bool) → (a || (b || false)) ≡ (b || a)
turned true true = refl
turned true false = refl
turned false true = refl
turned false false = refl

yes_or_no : (b : Bool) → (b ≡ true) ⊎ (b ≡ false)
yes_or_no true = inl refl
yes_or_no false = inr refl

told : (b e : Bool) → is_eq (cond b Less (cond e Equal Greater)) ≡ true → e ≡ true
told true e h = absurd (true≢false (sym h))
told false true h = refl
told false false h = absurd (true≢false (sym h))

one_key : (k q : ℕ) → is_at (nat_cmp k) q ≡ true → k ≡ q
one_key k q h = (unsigned_Decides k q).0 (told _ (eqb k q) h)

level : (r : Ordering) → r ≡ ordering_reverse r → is_eq r ≡ true
level Less h = absurd (cc)
level Equal h = refl
level Greater h = absurd (cc)

own_key : (k : ℕ) → is_at (nat_cmp k) k ≡ true
own_key k = level (nat_cmp k k) (nat_cmp_total.antisymm k k)

module _ (old mid new : BTreeMap ℕ (Vec json.Value Global)) (was : Option (Vec json.Value Global)) (y : json.Value) (vs : Vec json.Value Global) (k : ℕ) (own : k ≡ key_with 0 (kept_view y)) where
  abbrev x : Value
  x = kept_view y

  abbrev Taken : Type 0
  Taken = (q : ℕ) → get nat_cmp mid q ≡ cond (is_at (nat_cmp k) q) None (get nat_cmp old q)

  abbrev Given : Type 0
  Given = (q : ℕ) → get nat_cmp new q ≡ cond (is_at (nat_cmp k) q) (Some vs) (get nat_cmp mid q)

  here : (v : Value) → Given → was ≡ get nat_cmp old k → map kept_view vs.items ≡ listed was ++ x ∷ [] → is_at (nat_cmp k) (key_with 0 v) ≡ true
      → list_any (same v) (at_key new (key_with 0 v)) ≡ (same v x || list_any (same v) (at_key old (key_with 0 v)))
  here v given w e h =
      let q = key_with 0 v in
      let one : k ≡ q = one_key k q h in
      ap (λ o. list_any (same v) (listed o)) (given q ∙ ap (λ b. cond b (Some vs) (get nat_cmp mid q)) h)
      ∙ ap (list_any (same v)) e ∙ list_any-append (same v) (listed was) (x ∷ []) ∙ turned (list_any (same v) (listed was)) (same v x)
      ∙ ap (λ o. same v x || list_any (same v) (listed o)) (w ∙ ap (get nat_cmp old) one)

  -- another key is that of another value
  apart : (v : Value) → is_at (nat_cmp k) (key_with 0 v) ≡ false → same v x ≡ false
  apart v h = elim (yes_or_no (same v x)) [
    | inl s ↦ absurd (true≢false (sym (own_key k) ∙ ap (λ q. is_at (nat_cmp k) q) (own ∙ ap (key_with 0) (sym (same_sound v x s))) ∙ h))
    | inr n ↦ n
  ]

  there : (v : Value) → Taken → Given → is_at (nat_cmp k) (key_with 0 v) ≡ false
      → list_any (same v) (at_key new (key_with 0 v)) ≡ (same v x || list_any (same v) (at_key old (key_with 0 v)))
  there v taken given h =
      let q = key_with 0 v in
      ap (λ o. list_any (same v) (listed o)) (given q ∙ ap (λ b. cond b (Some vs) (get nat_cmp mid q)) h ∙ taken q ∙ ap (λ b. cond b None (get nat_cmp old q)) h)
      ∙ ap (λ b. b || list_any (same v) (at_key old q)) (sym (apart v h))

  pub put : Taken → Given → was ≡ get nat_cmp old k → map kept_view vs.items ≡ listed was ++ x ∷ []
      → (v : Value) → list_any (same v) (at_key new (key_with 0 v)) ≡ (same v x || list_any (same v) (at_key old (key_with 0 v)))
  put taken given w e v = elim (yes_or_no (is_at (nat_cmp k) (key_with 0 v))) [
    | inl h ↦ here v given w e h
    | inr h ↦ there v taken given h
  ]
