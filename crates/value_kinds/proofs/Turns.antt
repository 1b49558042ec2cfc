-- One more turn of each loop, and its end.
use Rattle.std.proofs.Common.{◌≡◌, ℕ, suc, ◌+◌, ◌<◌, ◌≤◌, List, [], ◌∷◌, ◌++◌, map, drop, drop-cons, length, get_or, Bool, true, false, ◌&&◌, ◌||◌, not, Option, Some, None, refl, sym, ap, ◌∙◌, append_assoc, arith}
use Rattle.std.specs.Prelude.{Vec}
use Rattle.std.specs.List.{list_any, cons_option}
use Rattle.std.specs.declared.alloc.Global.{Global}
use Rattle.std.proofs.lemmas.List.{drop_all, append-nil, map-append}
use Rattle.name_tables.specs.Names.{Names, place_of}
use Rattle.reference_graph.specs.Graph.{graph_of}
use Rattle.model_defs.specs.Model.{external_tag, untagged}
use Rattle.model_defs.specs.Layer.{is_unit, variant_content}
use Rattle.model_defs.specs.Reach.{asked_by_content, asked_by_variants}
use Rattle.value_models.specs.VariantView.{variant_view, variants_view}
use Rattle.value_models.specs.ContainerView.{container_view, containers_view}
use Rattle.value_models.specs.declared.container.Container.{Container}
use Rattle.value_models.specs.declared.variant.Variant.{Variant}
use Rattle.writing_laws.specs.Kinds.{Kind, texts, objects, same_kind, content_may, enum_may}
use Rattle.value_kinds.specs.Claims.{no_item, own_kinds}
use Rattle.value_kinds.specs.Kinds.{has, kinds_where}
use Rattle.value_kinds.specs.Rounds.{places_of, asked_places, kinds_at, with_places, next_kinds}
use Rattle.value_kinds.specs.declared.type_kinds.TypeKinds.{TypeKinds}
use Rattle.value_kinds.proofs.Splits.{or_false}

or_before : (a b c : Bool) → ((a || b) || c) ≡ (a || (b || c))
or_before true b c = refl
or_before false b c = refl

-- ---- kinds that are joined, one after another

module _ {X : Type 0} (one : X → Kind → Bool) (any : List X → Kind → Bool) (nil : (k : Kind) → any [] k ≡ false) (cons : (x : X) (xs : List X) (k : Kind) → any (x ∷ xs) k ≡ (one x k || any xs k))
    (xs : List X) (i : ℕ) where
  abbrev pub joined : TypeKinds → List X → TypeKinds
  joined all xs = kinds_where (λ k. has all k || any xs k)

  join_step : (x : X) → drop i xs ≡ x ∷ drop (i + 1) xs → (all more next w : TypeKinds) → more ≡ kinds_where (one x) → next ≡ kinds_where (λ k. has all k || has more k)
      → joined all (drop i xs) ≡ w → joined next (drop (i + 1) xs) ≡ w
  join_step x s all more next w m n was =
      let rest = drop (i + 1) xs in
      ap (λ d. joined d rest) (n ∙ ap (λ d. kinds_where (λ k. has all k || has d k)) m)
      ∙ (λ z. kinds_where (λ k. or_before (has all k) (one x k) (any rest k) z))
      ∙ (λ z. kinds_where (λ k. has all k || sym (cons x rest k) z))
      ∙ sym (ap (joined all) s)
      ∙ was

  join_turn : (x : X) → i < length xs → x ≡ get_or xs i x → (all more next w : TypeKinds) → more ≡ kinds_where (one x) → next ≡ kinds_where (λ k. has all k || has more k)
      → joined all (drop i xs) ≡ w → joined next (drop (i + 1) xs) ≡ w
  join_turn x h e =
      let later : suc i ≡ i + 1 = omega arith in
      join_step x (drop-cons xs i x h ∙ (λ z. sym e z ∷ drop (later z) xs))

  join_end : (all w : TypeKinds) → length xs ≤ i → joined all (drop i xs) ≡ w → all ≡ w
  join_end all w h was =
      (λ z. kinds_where (λ k. or_false (has all k) z)) ∙ (λ z. kinds_where (λ k. has all k || sym (nil k) z)) ∙ ap (joined all) (sym (drop_all i xs h)) ∙ was

-- by cases on what each variant adds
added : (t o u us n ns : Bool) → ((t && (u || us)) || (o && (n || ns))) ≡ (((t && (u || false)) || (o && (n || false))) || ((t && us) || (o && ns)))
added false false u us n ns = refl
added true false true us n ns = refl
added true false false us n ns = refl
added false true u us true ns = refl
added false true u us false ns = refl
added true true true us n ns = refl
added true true false true true ns = refl
added true true false false true ns = refl
added true true false us false ns = refl

-- ---- the variants of an enum

abbrev pub of_external : Variant → Kind → Bool
of_external w k = enum_may k no_item false external_tag (variant_view w ∷ [])

abbrev pub any_external : List Variant → Kind → Bool
any_external ws k = enum_may k no_item false external_tag (variants_view ws)

none_external : (k : Kind) → any_external [] k ≡ false
none_external k = both_false (same_kind k texts) (same_kind k objects)
  where
    both_false : (a b : Bool) → ((a && false) || (b && false)) ≡ false
    both_false true true = refl
    both_false true false = refl
    both_false false true = refl
    both_false false false = refl

more_external : (w : Variant) (ws : List Variant) (k : Kind) → any_external (w ∷ ws) k ≡ (of_external w k || any_external ws k)
more_external w ws k =
    let v = variant_view w in
    added (same_kind k texts) (same_kind k objects) (is_unit v) (list_any is_unit (variants_view ws)) (not (is_unit v)) (list_any (λ u. not (is_unit u)) (variants_view ws))

pub external_turn : (xs : List Variant) (i : ℕ) (x : Variant) → i < length xs → x ≡ get_or xs i x → (all more next w : TypeKinds)
    → more ≡ kinds_where (of_external x) → next ≡ kinds_where (λ k. has all k || has more k)
    → kinds_where (λ k. has all k || any_external (drop i xs) k) ≡ w → kinds_where (λ k. has next k || any_external (drop (i + 1) xs) k) ≡ w
external_turn = join_turn of_external any_external none_external more_external

pub external_end : (xs : List Variant) (i : ℕ) (all w : TypeKinds) → length xs ≤ i → kinds_where (λ k. has all k || any_external (drop i xs) k) ≡ w → all ≡ w
external_end = join_end of_external any_external none_external more_external

abbrev pub of_untagged : Variant → Kind → Bool
of_untagged w k = content_may k no_item (variant_content false (variant_view w))

abbrev pub any_untagged : List Variant → Kind → Bool
any_untagged ws k = enum_may k no_item false untagged (variants_view ws)

pub untagged_turn : (xs : List Variant) (i : ℕ) (x : Variant) → i < length xs → x ≡ get_or xs i x → (all more next w : TypeKinds)
    → more ≡ kinds_where (of_untagged x) → next ≡ kinds_where (λ k. has all k || has more k)
    → kinds_where (λ k. has all k || any_untagged (drop i xs) k) ≡ w → kinds_where (λ k. has next k || any_untagged (drop (i + 1) xs) k) ≡ w
untagged_turn = join_turn of_untagged any_untagged (λ k. refl) (λ w ws k. refl)

pub untagged_end : (xs : List Variant) (i : ℕ) (all w : TypeKinds) → length xs ≤ i → kinds_where (λ k. has all k || any_untagged (drop i xs) k) ≡ w → all ≡ w
untagged_end = join_end of_untagged any_untagged (λ k. refl) (λ w ws k. refl)

-- ---- the places of a row

module _ (kinds : List TypeKinds) where
  abbrev pub of_place : ℕ → Kind → Bool
  of_place p k = has (kinds_at kinds p) k

  abbrev pub any_place : List ℕ → Kind → Bool
  any_place row k = list_any (λ p. of_place p k) row

  pub place_turn : (row : List ℕ) (i d : ℕ) → i < length row → (all more next w : TypeKinds)
      → more ≡ kinds_at kinds (get_or row i d) → next ≡ kinds_where (λ k. has all k || has more k)
      → kinds_where (λ k. has all k || any_place (drop i row) k) ≡ w → kinds_where (λ k. has next k || any_place (drop (i + 1) row) k) ≡ w
  place_turn row i d h =
      let later : suc i ≡ i + 1 = omega arith in
      join_step of_place any_place (λ k. refl) (λ p row k. refl) row i (get_or row i d) (drop-cons row i d h ∙ ap (λ m. get_or row i d ∷ drop m row) later)

  pub place_end : (row : List ℕ) (i : ℕ) (all w : TypeKinds) → length row ≤ i → kinds_where (λ k. has all k || any_place (drop i row) k) ≡ w → all ≡ w
  place_end = join_end of_place any_place (λ k. refl) (λ p row k. refl)

-- ---- a round

module _ (kinds owns : List TypeKinds) (rows : List (Vec ℕ Global)) (i : ℕ) where
  abbrev pub later : ℕ → List TypeKinds
  later n = next_kinds kinds (drop n owns) (graph_of (drop n rows))

  pub round_turn : (own made : TypeKinds) (row : Vec ℕ Global) (done new whole : List TypeKinds) → i < length owns → i < length rows → own ≡ get_or owns i own → row ≡ get_or rows i row
      → made ≡ with_places kinds row.items own → new ≡ done ++ made ∷ [] → done ++ later i ≡ whole → new ++ later (i + 1) ≡ whole
  round_turn own made row done new whole h l e r m n was =
      let more : suc i ≡ i + 1 = omega arith in
      let next : later i ≡ with_places kinds row.items own ∷ later (i + 1) =
      (λ z. next_kinds kinds (drop-cons owns i own h z) (graph_of (drop-cons rows i row l z)))
      ∙ (λ z. with_places kinds (sym r z).items (sym e z) ∷ later (more z)) in
      ap (λ xs. xs ++ later (i + 1)) (n ∙ ap (λ x. done ++ x ∷ []) m)
      ∙ append_assoc done (with_places kinds row.items own ∷ []) (later (i + 1))
      ∙ ap (λ xs. done ++ xs) (sym next)
      ∙ was

  pub round_end : (done whole : List TypeKinds) → length owns ≤ i → done ++ later i ≡ whole → done ≡ whole
  round_end done whole h was = sym (append-nil done) ∙ ap (λ xs. done ++ next_kinds kinds xs (graph_of (drop i rows))) (sym (drop_all i owns h)) ∙ was

-- ---- two lists, place by place

module _ (a b : List TypeKinds) (i : ℕ) where
  pub same_turn : (x y : TypeKinds) → i < length a → i < length b → x ≡ get_or a i x → y ≡ get_or b i y → x ≡ y → (drop i a ≡ drop i b → a ≡ b) → drop (i + 1) a ≡ drop (i + 1) b → a ≡ b
  same_turn x y h l e d s was rest =
      let more : suc i ≡ i + 1 = omega arith in
      was (drop-cons a i x h ∙ (λ z. (sym e ∙ s ∙ d) z ∷ (ap (λ m. drop m a) more ∙ rest ∙ ap (λ m. drop m b) (sym more)) z) ∙ sym (drop-cons b i y l))

  pub same_end : length a ≤ i → length a ≡ length b → (drop i a ≡ drop i b → a ≡ b) → a ≡ b
  same_end h l was = was (drop_all i a h ∙ sym (drop_all i b (omega (arith, h, l))))

-- ---- rows, and what is put behind a list

pub own_turn : (xs : List Container) (i : ℕ) (x : Container) (made : TypeKinds) (done new whole : List TypeKinds) → i < length xs → x ≡ get_or xs i x → made ≡ own_kinds (container_view x) → new ≡ done ++ made ∷ []
    → done ++ map own_kinds (containers_view (drop i xs)) ≡ whole → new ++ map own_kinds (containers_view (drop (i + 1) xs)) ≡ whole
own_turn xs i x made done new whole h e m n was =
    let more : suc i ≡ i + 1 = omega arith in
    let rest = map own_kinds (containers_view (drop (i + 1) xs)) in
    ap (λ ys. ys ++ rest) (n ∙ ap (λ y. done ++ y ∷ []) m)
    ∙ append_assoc done (own_kinds (container_view x) ∷ []) rest
    ∙ ap (λ ys. done ++ ys) (sym (ap (λ ys. map own_kinds (containers_view ys)) (drop-cons xs i x h) ∙ (λ z. own_kinds (container_view (sym e z)) ∷ map own_kinds (containers_view (drop (more z) xs)))))
    ∙ was

pub own_end : (xs : List Container) (i : ℕ) (done whole : List TypeKinds) → length xs ≤ i → done ++ map own_kinds (containers_view (drop i xs)) ≡ whole → done ≡ whole
own_end xs i done whole h was = sym (append-nil done) ∙ ap (λ ys. done ++ map own_kinds (containers_view ys)) (sym (drop_all i xs h)) ∙ was

module _ (names : Names) where
  pub row_turn : (xs : List Container) (i : ℕ) (x : Container) (row : Vec ℕ Global) (done new : List (Vec ℕ Global)) (whole : List (List ℕ)) → i < length xs → x ≡ get_or xs i x
      → row.items ≡ asked_places names (container_view x) → new ≡ done ++ row ∷ []
      → graph_of done ++ map (asked_places names) (containers_view (drop i xs)) ≡ whole → graph_of new ++ map (asked_places names) (containers_view (drop (i + 1) xs)) ≡ whole
  row_turn xs i x row done new whole h e m n was =
      let more : suc i ≡ i + 1 = omega arith in
      let rest = map (asked_places names) (containers_view (drop (i + 1) xs)) in
      ap (λ ys. graph_of ys ++ rest) n
      ∙ ap (λ ys. ys ++ rest) (map-append (λ (v : Vec ℕ Global). v.items) done (row ∷ []))
      ∙ append_assoc (graph_of done) (row.items ∷ []) rest
      ∙ ap (λ y. graph_of done ++ y ∷ rest) m
      ∙ ap (λ ys. graph_of done ++ ys) (sym (ap (λ ys. map (asked_places names) (containers_view ys)) (drop-cons xs i x h) ∙ (λ z. asked_places names (container_view (sym e z)) ∷ map (asked_places names) (containers_view (drop (more z) xs)))))
      ∙ was

  pub row_end : (xs : List Container) (i : ℕ) (done : List (Vec ℕ Global)) (whole : List (List ℕ)) → length xs ≤ i → graph_of done ++ map (asked_places names) (containers_view (drop i xs)) ≡ whole → graph_of done ≡ whole
  row_end xs i done whole h was = sym (append-nil (graph_of done)) ∙ ap (λ ys. graph_of done ++ map (asked_places names) (containers_view ys)) (sym (drop_all i xs h)) ∙ was

  -- the variants of an untagged enum
  abbrev pub places_left : List Variant → List ℕ
  places_left ws = places_of names (asked_by_variants false (variants_view ws))

  places_after : (ms ns : List (List ℕ)) → places_of names (ms ++ ns) ≡ places_of names ms ++ places_of names ns
  places_after [] ns = refl
  places_after (m ∷ ms) ns = ap (cons_option (place_of m names)) (places_after ms ns) ∙ one_before (place_of m names) (places_of names ms) (places_of names ns)
    where
      one_before : (o : Option ℕ) (xs ys : List ℕ) → cons_option o (xs ++ ys) ≡ cons_option o xs ++ ys
      one_before None xs ys = refl
      one_before (Some x) xs ys = refl

  pub places_turn : (xs : List Variant) (i : ℕ) (x : Variant) (done new whole : List ℕ) → i < length xs → x ≡ get_or xs i x
      → new ≡ done ++ places_of names (asked_by_content (variant_content false (variant_view x))) → done ++ places_left (drop i xs) ≡ whole → new ++ places_left (drop (i + 1) xs) ≡ whole
  places_turn xs i x done new whole h e n was =
      let more : suc i ≡ i + 1 = omega arith in
      let own = asked_by_content (variant_content false (variant_view x)) in
      ap (λ ys. ys ++ places_left (drop (i + 1) xs)) n
      ∙ append_assoc done (places_of names own) (places_left (drop (i + 1) xs))
      ∙ ap (λ ys. done ++ ys) (sym (places_after own (asked_by_variants false (variants_view (drop (i + 1) xs)))))
      ∙ ap (λ ys. done ++ ys) (sym (ap places_left (drop-cons xs i x h) ∙ (λ z. places_left (sym e z ∷ drop (more z) xs))))
      ∙ was

  pub places_end : (xs : List Variant) (i : ℕ) (done whole : List ℕ) → length xs ≤ i → done ++ places_left (drop i xs) ≡ whole → done ≡ whole
  places_end xs i done whole h was = sym (append-nil done) ∙ ap (λ ys. done ++ places_left ys) (sym (drop_all i xs h)) ∙ was
