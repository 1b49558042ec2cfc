-- Two lists of schemas by place.
use Rattle.std.proofs.Common.{◌≡◌, ℕ, zero, suc, ◌+◌, ◌<◌, ◌≤◌, max, List, [], ◌∷◌, ◌++◌, drop, length, get_or, append_assoc, append-nil, refl, sym, ap, ◌∙◌, arith}
use Rattle.std.proofs.lemmas.List.{drop_all, length-map, map-append}
use Rattle.schema_defs.specs.Schema.{Schema, schemas}
use Rattle.schema_types.specs.declared.schema.Schema as tree
use Rattle.schema_types.specs.View.{schema_view, schemas_view}
use Rattle.merge_defs.specs.Arrays.{pairs}
use Rattle.merge_lists.specs.declared.plan.Pair.{Pair}
use Rattle.merge_lists.specs.Plans.{pair_view, pairs_view}

-- what is left at a place
abbrev pub pairs_at : ℕ → List Schema → Schema → List Schema → Schema → List (Schema × Schema)
pairs_at i ss x ts y = pairs (schemas (drop i ss)) x (schemas (drop i ts)) y

none_left : (i : ℕ) → drop {A = Schema} i [] ≡ []
none_left zero = refl
none_left (suc i) = refl

one_more : (i : ℕ) (ss : List Schema) (x : Schema) (ts : List Schema) (y : Schema) → i < max (length ss) (length ts)
    → pairs_at i ss x ts y ≡ (get_or ss i x, get_or ts i y) ∷ pairs_at (suc i) ss x ts y
one_more i [] x [] y h = absurd (omega (arith, h))
one_more zero [] x (t ∷ ts) y h = refl
one_more zero (s ∷ ss) x [] y h = refl
one_more zero (s ∷ ss) x (t ∷ ts) y h = refl
one_more (suc i) [] x (t ∷ ts) y h = let k : i < max 0 (length ts) = omega (arith, h) in ap (λ l. pairs (schemas l) x (schemas (drop i ts)) y) (sym (none_left i)) ∙ one_more i [] x ts y k
one_more (suc i) (s ∷ ss) x [] y h = let k : i < max (length ss) 0 = omega (arith, h) in ap (λ l. pairs (schemas (drop i ss)) x (schemas l) y) (sym (none_left i)) ∙ one_more i ss x [] y k
one_more (suc i) (s ∷ ss) x (t ∷ ts) y h = let k : i < max (length ss) (length ts) = omega (arith, h) in one_more i ss x ts y k

none_more : (i : ℕ) (ss : List Schema) (x : Schema) (ts : List Schema) (y : Schema) → length ss ≤ i → length ts ≤ i → pairs_at i ss x ts y ≡ []
none_more i ss x ts y h k = (λ j. pairs (schemas (drop_all i ss h j)) x (schemas (drop_all i ts k j)) y)

-- ---- a loop over the places

pub pairs_begin : (xs ys : List tree.Schema) (x y : Schema) (old : List Pair) → old ≡ [] → pairs_view old ++ pairs_at 0 (schemas_view xs) x (schemas_view ys) y ≡ pairs (schemas (schemas_view xs)) x (schemas (schemas_view ys)) y
pairs_begin xs ys x y old e = ap (λ ps. pairs_view ps ++ pairs_at 0 (schemas_view xs) x (schemas_view ys) y) e

pub pairs_step : (xs ys : List tree.Schema) (i : ℕ) (x y a b : Schema) (old new : List Pair) (q : Pair) (w : List (Schema × Schema))
    → i < max (length xs) (length ys) → new ≡ old ++ q ∷ [] → pair_view q ≡ (a, b) → a ≡ get_or (schemas_view xs) i x → b ≡ get_or (schemas_view ys) i y
    → pairs_view old ++ pairs_at i (schemas_view xs) x (schemas_view ys) y ≡ w → pairs_view new ++ pairs_at (i + 1) (schemas_view xs) x (schemas_view ys) y ≡ w
pairs_step xs ys i x y a b old new q w h made seen first second was =
    let ss = schemas_view xs in
    let ts = schemas_view ys in
    let ex : length (schemas_view xs) ≡ length xs = length-map xs schema_view in
    let ey : length (schemas_view ys) ≡ length ys = length-map ys schema_view in
    let k : i < max (length (schemas_view xs)) (length (schemas_view ys)) = omega (arith, h, ex, ey) in
    let n : suc i ≡ i + 1 = omega arith in
    ap (λ ps. pairs_view ps ++ pairs_at (i + 1) ss x ts y) made
    ∙ ap (λ ps. ps ++ pairs_at (i + 1) ss x ts y) (map-append pair_view old (q ∷ []))
    ∙ append_assoc (pairs_view old) (pair_view q ∷ []) (pairs_at (i + 1) ss x ts y)
    ∙ ap (λ p. pairs_view old ++ p ∷ pairs_at (i + 1) ss x ts y) (seen ∙ (λ j. (first j, second j)))
    ∙ ap (λ m. pairs_view old ++ (get_or ss i x, get_or ts i y) ∷ pairs_at m ss x ts y) (sym n)
    ∙ ap (λ ps. pairs_view old ++ ps) (sym (one_more i ss x ts y k)) ∙ was

pub pairs_end : (xs ys : List tree.Schema) (i : ℕ) (x y : Schema) (old : List Pair) (w : List (Schema × Schema))
    → max (length xs) (length ys) ≤ i → pairs_view old ++ pairs_at i (schemas_view xs) x (schemas_view ys) y ≡ w → pairs_view old ≡ w
pairs_end xs ys i x y old w h was =
    let ss = schemas_view xs in
    let ts = schemas_view ys in
    let ex : length (schemas_view xs) ≡ length xs = length-map xs schema_view in
    let ey : length (schemas_view ys) ≡ length ys = length-map ys schema_view in
    let a : length (schemas_view xs) ≤ i = omega (arith, h, ex) in
    let b : length (schemas_view ys) ≤ i = omega (arith, h, ey) in
    sym (append-nil (pairs_view old)) ∙ ap (λ ps. pairs_view old ++ ps) (sym (none_more i ss x ts y a b)) ∙ was
