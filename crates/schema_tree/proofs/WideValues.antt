-- The first of some values with a number that is no i64.
use Rattle.std.proofs.Common.{◌≡◌, ℕ, suc, ◌+◌, ◌<◌, length, get_or, drop, zero-add, add-zero, true, ◌&&◌, Some, None, refl, sym, ap, ◌∙◌, subst, arith, List, ◌∷◌, map}
use Rattle.std.proofs.lemmas.List.{drop_more}
use Rattle.serde_json.specs.View.{view}
use Rattle.serde_json.specs.declared.value.Value.{Value as Read}
use Rattle.json_value.specs.View.{value_of}
use Rattle.schema_defs.specs.Location.{Location}
use Rattle.schema_tree.specs.Numbers.{holds_i64_alone, wide_place, are_i64, IsWideAt}
use Rattle.schema_tree.proofs.WidePlaces.{wide_exact}

-- none of the first i values has one
abbrev pub ArePassed : ℕ → List Read → Type 0
ArePassed i vs = (are_i64 (map view vs) ≡ are_i64 (map view (drop i vs))) × ((j : ℕ) (l : Location) → IsWideAt j l (map view (drop i vs)) → IsWideAt (i + j) l (map view vs))

pub none_passed : (vs : List Read) → ArePassed 0 vs
none_passed vs = (refl, λ j l w. subst (λ n. IsWideAt n l (map view vs)) (sym (zero-add j)) w)

module _ (vs : List Read) (i : ℕ) (x : Read) (lt : i < length vs) (is : x ≡ get_or vs i x) where
  split : drop i vs ≡ x ∷ drop (i + 1) vs
  split = drop_more vs i x lt ∙ ap (λ z. z ∷ drop (i + 1) vs) (sym is)

  pub wide_here : ArePassed i vs → (l : Location) → wide_place (value_of (view x)) ≡ Some l → IsWideAt i l (map view vs)
  wide_here p l h = subst (λ n. IsWideAt n l (map view vs)) (add-zero i) (p.1 0 l (subst (λ ys. IsWideAt 0 l (map view ys)) (sym split) h))

  pub one_passed : ArePassed i vs → wide_place (value_of (view x)) ≡ None → ArePassed (i + 1) vs
  one_passed p h =
      let holds : holds_i64_alone (value_of (view x)) ≡ true = (wide_exact (value_of (view x))).0 h in (
        p.0 ∙ ap (λ ys. are_i64 (map view ys)) split ∙ ap (λ b. b && are_i64 (map view (drop (i + 1) vs))) holds,
        λ j l w.
            let later : i + suc j ≡ i + 1 + j = omega arith in
            subst (λ n. IsWideAt n l (map view vs)) later (p.1 (suc j) l (subst (λ ys. IsWideAt (suc j) l (map view ys)) (sym split) (holds, w))),
      )
