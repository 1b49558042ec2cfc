-- Kinds that were seen, and the variants that are left.
use Rattle.std.proofs.Common.{◌≡◌, List, [], ◌∷◌, Bool, true, false, ◌&&◌, ◌||◌, not, refl, sym, ap, ◌∙◌}
use Rattle.std.specs.List.{list_all}
use Rattle.model_defs.specs.Model.{VariantModel, ContainerModel}
use Rattle.model_defs.specs.Layer.{variant_content}
use Rattle.writing_laws.specs.Kinds.{Kind, every_kind, content_may_read, variants_are_apart}
use Rattle.value_kinds.specs.Kinds.{has, kinds_where}
use Rattle.value_kinds.specs.declared.type_kinds.TypeKinds.{TypeKinds}

crossed : (a b c d : Bool) → ((a && b) && (c && d)) ≡ ((a && c) && (b && d))
crossed true true c d = refl
crossed true false true d = refl
crossed true false false d = refl
crossed false b c d = refl

one_kind : (a b c x y : Bool) → (not ((a || b) && c) && (x && y)) ≡ ((not (a && c) && x) && (not (b && c) && y))
one_kind true true true x y = refl
one_kind true true false x y = refl
one_kind true false true x y = refl
one_kind true false false x y = refl
one_kind false true true true y = refl
one_kind false true true false y = refl
one_kind false true false x y = refl
one_kind false false c x y = refl

apart_from_both : (f g h : Kind → Bool) (ks : List Kind)
    → list_all (λ k. not ((f k || g k) && h k)) ks ≡ (list_all (λ k. not (f k && h k)) ks && list_all (λ k. not (g k && h k)) ks)
apart_from_both f g h [] = refl
apart_from_both f g h (k ∷ ks) =
    ap (λ b. not ((f k || g k) && h k) && b) (apart_from_both f g h ks)
    ∙ one_kind (f k) (g k) (h k) (list_all (λ k. not (f k && h k)) ks) (list_all (λ k. not (g k && h k)) ks)

module _ (ms : List ContainerModel) (closed : Bool) where
  abbrev pub of_variant : VariantModel → Kind → Bool
  of_variant w k = content_may_read k ms (variant_content closed w)

  -- the variant reads none of these kinds
  abbrev pub is_new : TypeKinds → VariantModel → Bool
  is_new s w = list_all (λ k. not (has s k && of_variant w k)) every_kind

  abbrev pub left : TypeKinds → List VariantModel → Bool
  left s ws = list_all (is_new s) ws && variants_are_apart ms closed ws

  both_seen : (s t : TypeKinds) (ws : List VariantModel) → (list_all (is_new s) ws && list_all (is_new t) ws) ≡ list_all (is_new (kinds_where (λ k. has s k || has t k))) ws
  both_seen s t [] = refl
  both_seen s t (w ∷ ws) =
      crossed (is_new s w) (list_all (is_new s) ws) (is_new t w) (list_all (is_new t) ws)
      ∙ (λ z. sym (apart_from_both (has s) (has t) (of_variant w) every_kind) z && both_seen s t ws z)

  and_before : (a b c : Bool) → (a && (b && c)) ≡ ((a && b) && c)
  and_before true b c = refl
  and_before false b c = refl

  pub none_seen : (ws : List VariantModel) → left (kinds_where (λ k. false)) ws ≡ variants_are_apart ms closed ws
  none_seen ws = ap (λ b. b && variants_are_apart ms closed ws) (all_new ws)
    where
      all_new : (ws : List VariantModel) → list_all (is_new (kinds_where (λ k. false))) ws ≡ true
      all_new [] = refl
      all_new (w ∷ ws) = all_new ws

  pub one_seen : (s more next : TypeKinds) (w : VariantModel) (ws : List VariantModel) → more ≡ kinds_where (of_variant w) → next ≡ kinds_where (λ k. has s k || has more k)
      → list_all (λ k. not (has s k && has more k)) every_kind ≡ true → left s (w ∷ ws) ≡ left next ws
  one_seen s more next w ws m n new =
      let mine = kinds_where (of_variant w) in
      ap (λ b. (b && list_all (is_new s) ws) && (list_all (is_new mine) ws && variants_are_apart ms closed ws)) (ap (λ d. list_all (λ k. not (has s k && has d k)) every_kind) (sym m) ∙ new)
      ∙ and_before (list_all (is_new s) ws) (list_all (is_new mine) ws) (variants_are_apart ms closed ws)
      ∙ ap (λ b. b && variants_are_apart ms closed ws) (both_seen s mine ws)
      ∙ ap (λ d. left d ws) (ap (λ d. kinds_where (λ k. has s k || has d k)) (sym m) ∙ sym n)

  pub one_old : (s more : TypeKinds) (w : VariantModel) (ws : List VariantModel) → more ≡ kinds_where (of_variant w)
      → list_all (λ k. not (has s k && has more k)) every_kind ≡ false → left s (w ∷ ws) ≡ false
  one_old s more w ws m old =
      let mine = kinds_where (of_variant w) in
      ap (λ b. (b && list_all (is_new s) ws) && (list_all (is_new mine) ws && variants_are_apart ms closed ws)) (ap (λ d. list_all (λ k. not (has s k && has d k)) every_kind) (sym m) ∙ old)
