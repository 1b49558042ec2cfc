-- Parts one after another, and their ids.
use Rattle.std.proofs.Common.{◌≡◌, ℕ, zero, suc, ◌+◌, ◌<◌, ◌≤◌, List, [], ◌∷◌, ◌++◌, map, drop, length, get_or, drop-cons, append_assoc, append-nil, Option, Some, None, option_map, refl, sym, ap, ◌∙◌, arith}
use Rattle.std.proofs.lemmas.List.{drop_all, map-append, get_or_default}
use Rattle.entry_defs.specs.Entry.{Target, Fields}
use Rattle.entry_defs.specs.Space.{Id, FieldAt, Space}
use Rattle.entry_types.specs.declared.entry.TypeId.{TypeId}
use Rattle.entry_types.specs.View.{id_view, rest_at}
use Rattle.tree_types.specs.View.{Parts, places_view, fields_view}
use Rattle.space_trees.specs.Placed.{rest_or_first, following, following_field, rest_given, placed, placed_entries, placed_fields}
use Rattle.space_trees.specs.Parts.{placed_parts, trees_in, following_or, resolved, times, field_at, fields_at, struct_given}

mapped_drop : {X Y : Type 0} (f : X → Y) (xs : List X) (i : ℕ) (x : X) → i < length xs → x ≡ get_or xs i x → map f (drop i xs) ≡ f x ∷ map f (drop (i + 1) xs)
mapped_drop f xs i x h e =
    ap (map f) (drop-cons xs i x h) ∙ ap (λ y. f y ∷ map f (drop (suc i) xs)) (sym e) ∙ ap (λ n. f x ∷ map f (drop n xs)) (let k : suc i ≡ i + 1 = omega arith in k)

-- ---- one id several times

times-end : (n : ℕ) (i : Id) → times n i ++ i ∷ [] ≡ times (suc n) i
times-end zero i = refl
times-end (suc n) i = ap (λ z. i ∷ z) (times-end n i)

pub one_more_time : (base old new : List TypeId) (i : TypeId) (n : ℕ) → new ≡ old ++ i ∷ [] → map id_view old ≡ map id_view base ++ times n (id_view i)
    → map id_view new ≡ map id_view base ++ times (n + 1) (id_view i)
one_more_time base old new i n e h =
    ap (map id_view) e ∙ map-append id_view old (i ∷ []) ∙ ap (λ z. z ++ id_view i ∷ []) h ∙ append_assoc (map id_view base) (times n (id_view i)) (id_view i ∷ [])
    ∙ ap (λ z. map id_view base ++ z) (times-end n (id_view i)) ∙ ap (λ m. map id_view base ++ times m (id_view i)) (let k : suc n ≡ n + 1 = omega arith in k)

times-before : (n : ℕ) (i : Id) (more : List Id) → times n i ++ (i ∷ more) ≡ times (n + 1) i ++ more
times-before n i more =
    sym (append_assoc (times n i) (i ∷ []) more) ∙ ap (λ z. z ++ more) (times-end n i) ∙ ap (λ m. times m i ++ more) (let k : suc n ≡ n + 1 = omega arith in k)

-- ---- ids that wait for the next one

abbrev seen_id : Option TypeId → Option Id
seen_id o = option_map id_view o

abbrev pub waits : ℕ → List (Option Id) → Option Id → List Id
waits n is o = times n (following_or is o) ++ resolved is o

pub waits_on : (xs : List (Option TypeId)) (i n : ℕ) (x : Option TypeId) (o : Option Id) (done w : List Id) → i < length xs → x ≡ get_or xs i x → x ≡ None
    → done ++ waits n (map (option_map id_view) (drop i xs)) o ≡ w → done ++ waits (n + 1) (map (option_map id_view) (drop (i + 1) xs)) o ≡ w
waits_on xs i n x o done w h e none was =
    let rest = map seen_id (drop (i + 1) xs) in
    ap (λ z. done ++ z) (sym (times-before n (following_or rest o) (resolved rest o)))
    ∙ ap (λ (z : List (Option Id)). done ++ waits n z o) (sym (mapped_drop seen_id xs i x h e ∙ ap (λ y. seen_id y ∷ rest) none)) ∙ was

pub waits_for : (xs : List (Option TypeId)) (i n : ℕ) (x : Option TypeId) (t : TypeId) (o : Option Id) (done new w : List Id) → i < length xs → x ≡ get_or xs i x → x ≡ Some t
    → new ≡ done ++ times (n + 1) (id_view t) → done ++ waits n (map (option_map id_view) (drop i xs)) o ≡ w → new ++ waits 0 (map (option_map id_view) (drop (i + 1) xs)) o ≡ w
waits_for xs i n x t o done new w h e some made was =
    let rest = map seen_id (drop (i + 1) xs) in
    ap (λ z. z ++ resolved rest o) made ∙ append_assoc done (times (n + 1) (id_view t)) (resolved rest o)
    ∙ ap (λ z. done ++ z) (sym (times-before n (id_view t) (resolved rest o)))
    ∙ ap (λ (z : List (Option Id)). done ++ waits n z o) (sym (mapped_drop seen_id xs i x h e ∙ ap (λ y. seen_id y ∷ rest) some)) ∙ was

-- as the program has it: the element is read at some default
pub waits_some : (xs ys : List (Option TypeId)) (i n m : ℕ) (d : Option TypeId) (t : TypeId) (o : Option Id) (done new w : List Id) → ys ≡ xs → i < length ys → get_or ys i d ≡ Some t → new ≡ done ++ times (n + 1) (id_view t) → m ≡ 0
    → done ++ waits n (map (option_map id_view) (drop i xs)) o ≡ w → new ++ waits m (map (option_map id_view) (drop (i + 1) xs)) o ≡ w
waits_some xs ys i n m d t o done new w same h some made none was =
    ap (λ k. new ++ waits k (map seen_id (drop (i + 1) xs)) o) none
    ∙ waits_for xs i n (Some t) t o done new w (let k = ap length same in omega (arith, h, k)) (sym some ∙ get_or_default ys i d (Some t) h ∙ ap (λ zs. get_or zs i (Some t)) same) refl made was

pub waits_none : (xs ys : List (Option TypeId)) (i n m : ℕ) (d : Option TypeId) (o : Option Id) (done new w : List Id) → ys ≡ xs → i < length ys → get_or ys i d ≡ None → new ≡ done → m ≡ n + 1
    → done ++ waits n (map (option_map id_view) (drop i xs)) o ≡ w → new ++ waits m (map (option_map id_view) (drop (i + 1) xs)) o ≡ w
waits_none xs ys i n m d o done new w same h none made more was =
    ap (λ z. z ++ waits m (map seen_id (drop (i + 1) xs)) o) made ∙ ap (λ k. done ++ waits k (map seen_id (drop (i + 1) xs)) o) more
    ∙ waits_on xs i n None o done w (let k = ap length same in omega (arith, h, k)) (sym none ∙ get_or_default ys i d None h ∙ ap (λ zs. get_or zs i None) same) refl was

pub waits_end : (xs : List (Option TypeId)) (i n : ℕ) (o : Option Id) (done new w : List Id) (last : Id) → length xs ≤ i → last ≡ rest_or_first o → new ≡ done ++ times n last
    → done ++ waits n (map (option_map id_view) (drop i xs)) o ≡ w → new ≡ w
waits_end xs i n o done new w last h e made was =
    made ∙ ap (λ z. done ++ times n z) e ∙ ap (λ z. done ++ z) (sym (append-nil (times n (rest_or_first o))))
    ∙ ap (λ z. done ++ waits n (map seen_id z) o) (sym (drop_all i xs h)) ∙ was

-- ---- places and fields

following-none : (is : List (Option Id)) → following (resolved is None) ≡ following_or is None
following-none [] = refl
following-none (None ∷ is) = refl
following-none (Some i ∷ is) = refl

module _ (ids : Target → Id) where
  abbrev Given : Parts → Space → Space × List (Option Id)
  Given ps s = placed_parts ids (trees_in ps) s

  pub places_placed : (ps : Parts) (s : Space) → placed_entries ids (places_view ps) s ≡ ((Given ps s).0, resolved (Given ps s).1 None)
  places_placed [] s = refl
  places_placed ((h, None) ∷ ps) s =
      ap (λ (b : Space × List Id). (b.0, following b.1 ∷ b.1)) (places_placed ps s) ∙ ap (λ i. ((Given ps s).0, i ∷ resolved (Given ps s).1 None)) (following-none (Given ps s).1)
  places_placed ((h, Some e) ∷ ps) s = ap (λ (b : Space × List Id). (b.0, (placed ids None e s).1 ∷ b.1)) (places_placed ps (placed ids None e s).0)

  following-field : (ps : Parts) (s : Space) (o : Option Id) → following_field (fields_at ps (resolved (Given ps s).1 o)) o ≡ following_or (Given ps s).1 o
  following-field [] s o = refl
  following-field ((h, None) ∷ ps) s o = refl
  following-field ((h, Some e) ∷ ps) s o = refl

  -- `more` has no field of its own
  module _ (more : Fields) (last : Space → Space × Option Id) (ends : (s : Space) → placed_fields ids more s ≡ ((last s).0, [], (last s).1)) where
    abbrev WithRest : Parts → Space → Space × List FieldAt × Option Id
    WithRest ps s = ((last (Given ps s).0).0, struct_given ps (Given ps s).1 (last (Given ps s).0).1, (last (Given ps s).0).1)

    pub fields_placed : (ps : Parts) (s : Space) → placed_fields ids (fields_view ps more) s ≡ WithRest ps s
    fields_placed [] s = ends s
    fields_placed ((h, None) ∷ ps) s =
        ap (λ (b : Space × List FieldAt × Option Id). (b.0, field_at (h, None) (following_field b.1 b.2) ∷ b.1, b.2)) (fields_placed ps s)
        ∙ ap (λ (i : Id). ((WithRest ps s).0, field_at (h, None) i ∷ (WithRest ps s).1, (WithRest ps s).2)) (following-field ps s (WithRest ps s).2)
    fields_placed ((h, Some e) ∷ ps) s =
        ap (λ (b : Space × List FieldAt × Option Id). (b.0, field_at (h, Some e) (placed ids None e s).1 ∷ b.1, b.2)) (fields_placed ps (placed ids None e s).0)

pub rest_seen : (gs : List FieldAt) (o : Option TypeId) → rest_given gs (option_map id_view o) ≡ rest_at gs o
rest_seen gs None = refl
rest_seen gs (Some i) = refl

-- ---- loops with a space

abbrev pub joined : {S Z : Type 0} → List Z → S × List Z → S × List Z
joined zs b = (b.0, zs ++ b.1)

module _ {X Y S V Z : Type 0} (f : X → V) (seen : Y → Z) (step : V → S → S × Z) (all : List V → S → S × List Z)
    (more : (v : V) (vs : List V) (s : S) → all (v ∷ vs) s ≡ ((all vs (step v s).0).0, (step v s).1 ∷ (all vs (step v s).0).1))
    (none : (s : S) → all [] s ≡ (s, [])) where
  pub turn : (xs : List X) (i : ℕ) (x : X) (y : Y) (old new : List Y) (s t : S) (w : S × List Z) → i < length xs → x ≡ get_or xs i x → step (f x) s ≡ (t, seen y) → new ≡ old ++ y ∷ []
      → joined (map seen old) (all (map f (drop i xs)) s) ≡ w → joined (map seen new) (all (map f (drop (i + 1) xs)) t) ≡ w
  turn xs i x y old new s t w h e made pushed was =
      let rest = map f (drop (i + 1) xs) in
      ap (λ z. joined z (all rest t)) (ap (map seen) pushed ∙ map-append seen old (y ∷ []))
      ∙ ap (λ (z : List Z). ((all rest t).0, z)) (append_assoc (map seen old) (seen y ∷ []) (all rest t).1)
      ∙ ap (λ (a : S × Z). joined (map seen old) ((all rest a.0).0, a.1 ∷ (all rest a.0).1)) (sym made)
      ∙ ap (joined (map seen old)) (sym (ap (λ z. all z s) (mapped_drop f xs i x h e) ∙ more (f x) rest s))
      ∙ was

  pub end : (xs : List X) (i : ℕ) (ys : List Y) (s : S) (w : S × List Z) → length xs ≤ i → joined (map seen ys) (all (map f (drop i xs)) s) ≡ w → w ≡ (s, map seen ys)
  end xs i ys s w h was =
      sym was ∙ ap (λ z. joined (map seen ys) (all (map f z) s)) (drop_all i xs h) ∙ ap (joined (map seen ys)) (none s) ∙ ap (λ (z : List Z). (s, z)) (append-nil (map seen ys))
