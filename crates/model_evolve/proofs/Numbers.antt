-- The number of the first item of a name.
use Rattle.std.proofs.Common.{◌≡◌, ◌<◌, ◌≤◌, ◌+◌, ℕ, zero, suc, List, [], ◌∷◌, drop, drop-cons, length, get_or, Bool, true, false, cond, bytes_eq, Option, Some, None, slice_get, refl, sym, ap, ◌∙◌, arith}
use Rattle.std.proofs.lemmas.List.{drop_all}
use Rattle.model_defs.specs.Model.{ContainerModel, container_named}
use Rattle.value_models.specs.ContainerView.{container_view, containers_view}
use Rattle.value_models.specs.declared.container.Container.{Container}

there : (xs : List Container) (i : ℕ) (d : Container) → i < length xs → slice_get (containers_view xs) i ≡ Some (container_view (get_or xs i d))
there [] i d h = absurd (omega (arith, h))
there (x ∷ xs) zero d h = refl
there (x ∷ xs) (suc i) d h = let less : i < length xs = omega (arith, h) in there xs i d less

nothing : (ms : List ContainerModel) → slice_get ms (length ms) ≡ None
nothing [] = refl
nothing (m ∷ ms) = nothing ms

as_many : (xs : List Container) → length (containers_view xs) ≡ length xs
as_many [] = refl
as_many (x ∷ xs) = let rec = as_many xs in omega (arith, rec)

module _ (n : List ℕ) (xs : List Container) (i : ℕ) where
  -- at the item that was read
  next : (x : Container) (b : Bool) → i < length xs → x ≡ get_or xs i x → b ≡ bytes_eq n (container_view x).name
      → container_named n (containers_view (drop i xs)) ≡ cond b (Some (container_view x)) (container_named n (containers_view (drop (i + 1) xs)))
  next x b h at e =
      let later : suc i ≡ i + 1 = omega arith in
      let rest = container_named n (containers_view (drop (i + 1) xs)) in
      ap (λ ys. container_named n (containers_view ys)) (drop-cons xs i x h)
      ∙ ap (λ k. cond (bytes_eq n (container_view (get_or xs i x)).name) (Some (container_view (get_or xs i x))) (container_named n (containers_view (drop k xs)))) later
      ∙ ap (λ y. cond (bytes_eq n (container_view y).name) (Some (container_view y)) rest) (sym at)
      ∙ ap (λ c. cond c (Some (container_view x)) rest) (sym e)

  pub found_here : (x : Container) (b : Bool) (w : Option ContainerModel) → i < length xs → x ≡ get_or xs i x → b ≡ bytes_eq n (container_view x).name → b ≡ true
      → container_named n (containers_view (drop i xs)) ≡ w → slice_get (containers_view xs) i ≡ w
  found_here x b w h at e t was =
      there xs i x h ∙ ap (λ y. Some (container_view y)) (sym at) ∙ ap (λ c. cond c (Some (container_view x)) (container_named n (containers_view (drop (i + 1) xs)))) (sym t) ∙ sym (next x b h at e) ∙ was

  pub not_here : (x : Container) (b : Bool) (w : Option ContainerModel) → i < length xs → x ≡ get_or xs i x → b ≡ bytes_eq n (container_view x).name → b ≡ false
      → container_named n (containers_view (drop i xs)) ≡ w → container_named n (containers_view (drop (i + 1) xs)) ≡ w
  not_here x b w h at e t was = ap (λ c. cond c (Some (container_view x)) (container_named n (containers_view (drop (i + 1) xs)))) (sym t) ∙ sym (next x b h at e) ∙ was

  pub found_nowhere : (w : Option ContainerModel) → length xs ≤ i → container_named n (containers_view (drop i xs)) ≡ w → slice_get (containers_view xs) (length xs) ≡ w
  found_nowhere w past was =
      ap (slice_get (containers_view xs)) (sym (as_many xs)) ∙ nothing (containers_view xs) ∙ ap (λ ys. container_named n (containers_view ys)) (sym (drop_all i xs past)) ∙ was
