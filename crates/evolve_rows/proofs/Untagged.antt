-- The first new variant that may read values of a kind that the old place reads.
use Rattle.std.proofs.Common.{◌≡◌, ◌<◌, ◌≤◌, ◌+◌, ◌&&◌, ℕ, suc, List, [], ◌∷◌, drop, drop-cons, length, get_or, Bool, true, false, cond, sym, ap, ◌∙◌, arith}
use Rattle.std.specs.List.{list_any}
use Rattle.std.proofs.lemmas.List.{drop_all}
use Rattle.model_defs.specs.Model.{VariantModel}
use Rattle.model_defs.specs.Layer.{variant_content}
use Rattle.writing_laws.specs.Kinds.{every_kind, content_may_read}
use Rattle.value_kinds.specs.Kinds.{has, kinds_where}
use Rattle.value_kinds.specs.declared.type_kinds.TypeKinds.{TypeKinds}
use Rattle.value_models.specs.VariantView.{variant_view, variants_view}
use Rattle.value_models.specs.declared.variant.Variant.{Variant}
use Rattle.evolve_defs.specs.Forms.{Table, contents, content_of}
use Rattle.evolve_defs.specs.Kinds.{kinds_meet}
use Rattle.evolve_defs.specs.Steps.{kind}
use Rattle.evolve_defs.specs.Walk.{Turn, stops, goes}
use Rattle.evolve_defs.specs.Spots.{Spot, Spots, of_variant, node_at, untagged_turn}

module _ (old new : Table) (p q : Spot) (h : List ℕ) (closed : Bool) where
  pub meets : (a b : TypeKinds) (r : Bool) (w : VariantModel) → a ≡ kinds_where (λ k. content_may_read k old.models (content_of (node_at old p)))
      → b ≡ kinds_where (λ k. content_may_read k new.models (variant_content closed w)) → r ≡ list_any (λ k. has a k && has b k) every_kind
      → r ≡ kinds_meet old new (node_at old p) (contents closed w)
  meets a b r w e f g = g ∙ (λ i. list_any (λ k. has (e i) k && has (f i) k) every_kind)

  module _ (xs : List Variant) (i : ℕ) where
    abbrev from : ℕ → Turn Spots
    from j = untagged_turn old new p q h closed j (variants_view (drop j xs))

    next : (d : Variant) (r : Bool) → i < length xs → r ≡ kinds_meet old new (node_at old p) (contents closed (variant_view (get_or xs i d)))
        → from i ≡ cond r (goes ((p, of_variant h i) ∷ [])) (from (i + 1))
    next d r less e =
        let later : suc i ≡ i + 1 = omega arith in
        ap (λ ys. untagged_turn old new p q h closed i (variants_view ys)) (drop-cons xs i d less)
        ∙ ap (λ k. cond (kinds_meet old new (node_at old p) (contents closed (variant_view (get_or xs i d)))) (goes ((p, of_variant h i) ∷ [])) (untagged_turn old new p q h closed k (variants_view (drop k xs)))) later
        ∙ ap (λ b. cond b (goes ((p, of_variant h i) ∷ [])) (from (i + 1))) (sym e)

    pub meets_here : (d : Variant) (r : Bool) (w : Turn Spots) → i < length xs → r ≡ kinds_meet old new (node_at old p) (contents closed (variant_view (get_or xs i d)))
        → r ≡ true → from i ≡ w → goes ((p, of_variant h i) ∷ []) ≡ w
    meets_here d r w less e t was = ap (λ b. cond b (goes ((p, of_variant h i) ∷ [])) (from (i + 1))) (sym t) ∙ sym (next d r less e) ∙ was

    pub not_here : (d : Variant) (r : Bool) (w : Turn Spots) → i < length xs → r ≡ kinds_meet old new (node_at old p) (contents closed (variant_view (get_or xs i d)))
        → r ≡ false → from i ≡ w → from (i + 1) ≡ w
    not_here d r w less e t was = ap (λ b. cond b (goes ((p, of_variant h i) ∷ [])) (from (i + 1))) (sym t) ∙ sym (next d r less e) ∙ was

    -- at the variant that was read
    pub not_read : (x : Variant) (r : Bool) (w : Turn Spots) → i < length xs → x ≡ get_or xs i x → r ≡ kinds_meet old new (node_at old p) (contents closed (variant_view x))
        → r ≡ false → from i ≡ w → from (i + 1) ≡ w
    not_read x r w less at e t was = not_here x r w less (e ∙ ap (λ y. kinds_meet old new (node_at old p) (contents closed (variant_view y))) at) t was

    pub nowhere : (w : Turn Spots) → length xs ≤ i → from i ≡ w → stops kind ≡ w
    nowhere w past was = ap (λ ys. untagged_turn old new p q h closed i (variants_view ys)) (sym (drop_all i xs past)) ∙ was
