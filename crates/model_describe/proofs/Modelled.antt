-- Items as models, one after another.
use Rattle.std.proofs.Common.{◌≡◌, ℕ, ◌+◌, ◌<◌, ◌≤◌, List, [], ◌∷◌, ◌++◌, map, drop, length, get_or, sym, ap, ◌∙◌, append_assoc}
use Rattle.std.proofs.lemmas.List.{drop_all, append-nil, map-append}
use Rattle.syntax_trees.specs.Item.{item_view}
use Rattle.syntax_trees.specs.declared.item.DeriveInput.{DeriveInput}
use Rattle.attr_parts.proofs.Added.{mapped_drop}
use Rattle.container_defs.specs.Forms.{names_of}
use Rattle.model_defs.specs.Model.{ContainerModel, ConversionsD}
use Rattle.value_models.specs.declared.container.Container.{Container}
use Rattle.value_models.specs.ContainerView.{container_view, containers_view}
use Rattle.model_describe.specs.Described.{described_model, described_models}

module _ (names : List (List ℕ)) (k : ConversionsD) (is : List DeriveInput) (i : ℕ) where
  abbrev pub left : ℕ → List ContainerModel
  left n = map (described_model names k) (map item_view (drop n is))

  pub one_more : (x : DeriveInput) (old new : List Container) (m : Container) (whole : List ContainerModel) → i < length is → x ≡ get_or is i x → new ≡ old ++ m ∷ [] → container_view m ≡ described_model names k (item_view x)
      → containers_view old ++ left i ≡ whole → containers_view new ++ left (i + 1) ≡ whole
  one_more x old new m whole h e n r was =
      ap (λ l. containers_view l ++ left (i + 1)) n
      ∙ ap (λ l. l ++ left (i + 1)) (viewed old)
      ∙ append_assoc (containers_view old) (container_view m ∷ []) (left (i + 1))
      ∙ ap (λ z. containers_view old ++ z ∷ left (i + 1)) r
      ∙ ap (λ l. containers_view old ++ map (described_model names k) l) (sym (mapped_drop item_view is i x h e))
      ∙ was
    where
      viewed : (ms : List Container) → containers_view (ms ++ m ∷ []) ≡ containers_view ms ++ container_view m ∷ []
      viewed ms = map-append container_view ms (m ∷ [])

  pub no_more : (done : List Container) (whole : List ContainerModel) → length is ≤ i → containers_view done ++ left i ≡ whole → containers_view done ≡ whole
  no_more done whole h was = sym (append-nil (containers_view done)) ∙ ap (λ l. containers_view done ++ map (described_model names k) (map item_view l)) (sym (drop_all i is h)) ∙ was

pub by_names : (k : ConversionsD) (is js : List DeriveInput) (ms : List ContainerModel) → js ≡ is → ms ≡ map (described_model (names_of (map item_view js)) k) (map item_view is) → ms ≡ described_models k (map item_view is)
by_names k is js ms e h = h ∙ ap (λ l. map (described_model (names_of (map item_view l)) k) (map item_view is)) e
