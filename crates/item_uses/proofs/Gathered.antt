-- The places of names, put behind others one list after another.
use Rattle.std.proofs.Common.{◌≡◌, ℕ, suc, ◌+◌, ◌<◌, ◌≤◌, List, [], ◌∷◌, ◌++◌, map, drop, drop-cons, length, get_or, refl, sym, ap, ◌∙◌, append_assoc, arith}
use Rattle.std.specs.Prelude.{Vec}
use Rattle.std.specs.List.{flat_map}
use Rattle.std.specs.declared.alloc.Global.{Global}
use Rattle.std.proofs.lemmas.List.{drop_all, append-nil, map-append}
use Rattle.std.proofs.lemmas.List.Elements.{filter_map-append}
use Rattle.std.proofs.lemmas.Grind.{flat_map-append}
use Rattle.name_tables.specs.Names.{place_of}
use Rattle.reference_graph.specs.Graph.{graph_of}
use Rattle.model_defs.specs.Types.{types}
use Rattle.model_defs.specs.Model.{ContainerModel}
use Rattle.example_defs.specs.Outside.{items_in, items_in_all}
use Rattle.value_models.specs.Names.{container_names}
use Rattle.value_models.specs.declared.value_type.ValueType.{ValueType}
use Rattle.value_models.specs.declared.field.Field.{Field}
use Rattle.value_models.specs.declared.variant.Variant.{Variant}
use Rattle.value_models.specs.declared.container.Container.{Container}
use Rattle.value_models.specs.TypeView.{type_view, types_view}
use Rattle.value_models.specs.FieldView.{fields_view}
use Rattle.value_models.specs.VariantView.{variant_view, variants_view, fields_in}
use Rattle.value_models.specs.ContainerView.{container_view, containers_view}
use Rattle.item_uses.specs.Uses.{item_places, field_items, variant_items, body_places}

pub places_then : (ms : List ContainerModel) (xs ys : List (List ℕ)) (old mid new : List ℕ) → mid ≡ old ++ item_places ms xs → new ≡ mid ++ item_places ms ys → new ≡ old ++ item_places ms (xs ++ ys)
places_then ms xs ys old mid new e d =
    d ∙ ap (λ zs. zs ++ item_places ms ys) e ∙ append_assoc old (item_places ms xs) (item_places ms ys)
    ∙ ap (λ zs. old ++ zs) (sym (filter_map-append (λ n. place_of n (container_names 0 ms)) xs ys))

module _ (ms : List ContainerModel) {X : Type 0} (one : X → List (List ℕ)) (all : List X → List (List ℕ)) (nil : all [] ≡ []) (cons : (x : X) (xs : List X) → all (x ∷ xs) ≡ one x ++ all xs) where
  turn : (xs : List X) (i : ℕ) (x : X) (done new whole : List ℕ) → i < length xs → x ≡ get_or xs i x → new ≡ done ++ item_places ms (one x)
      → done ++ item_places ms (all (drop i xs)) ≡ whole → new ++ item_places ms (all (drop (i + 1) xs)) ≡ whole
  turn xs i x done new whole h e n was =
      let more : suc i ≡ i + 1 = omega arith in
      let rest = all (drop (i + 1) xs) in
      let next : all (drop i xs) ≡ one x ++ rest = ap all (drop-cons xs i x h) ∙ (λ z. all (sym e z ∷ drop (more z) xs)) ∙ cons x (drop (i + 1) xs) in
      ap (λ ys. ys ++ item_places ms rest) n
      ∙ append_assoc done (item_places ms (one x)) (item_places ms rest)
      ∙ ap (λ ys. done ++ ys) (sym (filter_map-append (λ n. place_of n (container_names 0 ms)) (one x) rest))
      ∙ ap (λ ns. done ++ item_places ms ns) (sym next)
      ∙ was

  end : (xs : List X) (i : ℕ) (done whole : List ℕ) → length xs ≤ i → done ++ item_places ms (all (drop i xs)) ≡ whole → done ≡ whole
  end xs i done whole h was =
      sym (append-nil done) ∙ ap (λ ns. done ++ item_places ms ns) (sym nil) ∙ ap (λ ys. done ++ item_places ms (all ys)) (sym (drop_all i xs h)) ∙ was

abbrev pub types_left : List ValueType → List (List ℕ)
types_left ts = items_in_all (types (types_view ts))

abbrev pub fields_left : List Field → List (List ℕ)
fields_left fs = field_items (fields_view fs)

abbrev pub variants_left : List Variant → List (List ℕ)
variants_left ws = variant_items (variants_view ws)

module _ (ms : List ContainerModel) where
  pub type_turn : (xs : List ValueType) (i : ℕ) (x : ValueType) (done new whole : List ℕ) → i < length xs → x ≡ get_or xs i x → new ≡ done ++ item_places ms (items_in (type_view x))
      → done ++ item_places ms (types_left (drop i xs)) ≡ whole → new ++ item_places ms (types_left (drop (i + 1) xs)) ≡ whole
  type_turn = turn ms (λ t. items_in (type_view t)) types_left refl (λ t ts. refl)

  pub type_end : (xs : List ValueType) (i : ℕ) (done whole : List ℕ) → length xs ≤ i → done ++ item_places ms (types_left (drop i xs)) ≡ whole → done ≡ whole
  type_end = end ms (λ t. items_in (type_view t)) types_left refl (λ t ts. refl)

  pub field_turn : (xs : List Field) (i : ℕ) (x : Field) (done new whole : List ℕ) → i < length xs → x ≡ get_or xs i x → new ≡ done ++ item_places ms (items_in (type_view x.field_type))
      → done ++ item_places ms (fields_left (drop i xs)) ≡ whole → new ++ item_places ms (fields_left (drop (i + 1) xs)) ≡ whole
  field_turn = turn ms (λ f. items_in (type_view f.field_type)) fields_left refl (λ f fs. refl)

  pub field_end : (xs : List Field) (i : ℕ) (done whole : List ℕ) → length xs ≤ i → done ++ item_places ms (fields_left (drop i xs)) ≡ whole → done ≡ whole
  field_end = end ms (λ f. items_in (type_view f.field_type)) fields_left refl (λ f fs. refl)

  abbrev of_variant : Variant → List (List ℕ)
  of_variant w = field_items (fields_in w.fields)

  more_variants : (w : Variant) (ws : List Variant) → variants_left (w ∷ ws) ≡ of_variant w ++ variants_left ws
  more_variants w ws = flat_map-append items_in (map (λ f. f.field_type) (fields_in w.fields)) (flat_map (λ w. map (λ f. f.field_type) w.fields) (variants_view ws))

  pub variant_turn : (xs : List Variant) (i : ℕ) (x : Variant) (done new whole : List ℕ) → i < length xs → x ≡ get_or xs i x → new ≡ done ++ item_places ms (field_items (fields_in x.fields))
      → done ++ item_places ms (variants_left (drop i xs)) ≡ whole → new ++ item_places ms (variants_left (drop (i + 1) xs)) ≡ whole
  variant_turn = turn ms of_variant variants_left refl more_variants

  pub variant_end : (xs : List Variant) (i : ℕ) (done whole : List ℕ) → length xs ≤ i → done ++ item_places ms (variants_left (drop i xs)) ≡ whole → done ≡ whole
  variant_end = end ms of_variant variants_left refl more_variants

  abbrev rows_left : List Container → List (List ℕ)
  rows_left xs = map (body_places ms) (containers_view xs)

  pub row_turn : (xs : List Container) (i : ℕ) (x : Container) (row : Vec ℕ Global) (done new : List (Vec ℕ Global)) (whole : List (List ℕ)) → i < length xs → x ≡ get_or xs i x
      → row.items ≡ body_places ms (container_view x) → new ≡ done ++ row ∷ []
      → graph_of done ++ rows_left (drop i xs) ≡ whole → graph_of new ++ rows_left (drop (i + 1) xs) ≡ whole
  row_turn xs i x row done new whole h e m n was =
      let more : suc i ≡ i + 1 = omega arith in
      let rest = rows_left (drop (i + 1) xs) in
      ap (λ ys. graph_of ys ++ rest) n
      ∙ ap (λ ys. ys ++ rest) (map-append (λ (v : Vec ℕ Global). v.items) done (row ∷ []))
      ∙ append_assoc (graph_of done) (row.items ∷ []) rest
      ∙ ap (λ y. graph_of done ++ y ∷ rest) m
      ∙ ap (λ ys. graph_of done ++ ys) (sym (ap rows_left (drop-cons xs i x h) ∙ (λ z. body_places ms (container_view (sym e z)) ∷ rows_left (drop (more z) xs))))
      ∙ was

  pub row_end : (xs : List Container) (i : ℕ) (done : List (Vec ℕ Global)) (whole : List (List ℕ)) → length xs ≤ i → graph_of done ++ rows_left (drop i xs) ≡ whole → graph_of done ≡ whole
  row_end xs i done whole h was = sym (append-nil (graph_of done)) ∙ ap (λ ys. graph_of done ++ rows_left ys) (sym (drop_all i xs h)) ∙ was
