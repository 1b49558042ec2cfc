-- Types that name a native one, one after another.
use Rattle.std.proofs.Common.{◌≡◌, ℕ, suc, ◌+◌, ◌<◌, ◌≤◌, ◌||◌, List, drop, drop-cons, length, get_or, Bool, true, false, sym, ap, ◌∙◌, arith}
use Rattle.std.proofs.lemmas.List.{drop_all}
use Rattle.model_defs.specs.Types.{types}
use Rattle.value_models.specs.declared.value_type.ValueType.{ValueType}
use Rattle.value_models.specs.TypeView.{type_view, types_view}
use Rattle.example_defs.specs.Outside.{names_native, name_native}

abbrev pub any_native : List ValueType → Bool
any_native ts = name_native (types (types_view ts))

module _ (ts : List ValueType) (k : ℕ) (x : ValueType) (h : k < length ts) (e : x ≡ get_or ts k x) where
  next : any_native (drop k ts) ≡ (names_native (type_view x) || any_native (drop (k + 1) ts))
  next =
      let more : suc k ≡ k + 1 = omega arith in
      ap any_native (drop-cons ts k x h) ∙ ap (λ y. names_native (type_view y) || any_native (drop (suc k) ts)) (sym e) ∙ ap (λ m. names_native (type_view x) || any_native (drop m ts)) more

  pub other_turn : (w : Bool) → names_native (type_view x) ≡ false → any_native (drop k ts) ≡ w → any_native (drop (k + 1) ts) ≡ w
  other_turn w q was = ap (λ b. b || any_native (drop (k + 1) ts)) (sym q) ∙ sym next ∙ was

  pub native_turn : (w : Bool) → names_native (type_view x) ≡ true → any_native (drop k ts) ≡ w → true ≡ w
  native_turn w q was = ap (λ b. b || any_native (drop (k + 1) ts)) (sym q) ∙ sym next ∙ was

pub native_end : (ts : List ValueType) (k : ℕ) (w : Bool) → length ts ≤ k → any_native (drop k ts) ≡ w → false ≡ w
native_end ts k w h was = ap any_native (sym (drop_all k ts h)) ∙ was
