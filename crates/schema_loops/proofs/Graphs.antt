-- The graph of references by the names of the targets is the graph by their places.
use Rattle.std.proofs.Common.{◌≡◌, ℕ, suc, ◌+◌, ◌<◌, ◌≤◌, List, [], ◌∷◌, ◌++◌, map, length, drop, get_or, Bool, true, false, refl, sym, ap, ◌∙◌, subst, inl, inr, arith, true≢false, bytes_eq, unwrap_or, drop-cons, append-nil, Bor, ◌-◌, ◌↔◌, IsTrue}
use Rattle.std.specs.Prelude.{Option, Some, None, Contains, option_map, filter, if◌then◌else◌, is_some, not}
use Rattle.std.specs.declared.cmp.Ordering.TheVariants.{Less}
use Rattle.std.specs.Ordering.{nat_cmp, is_eq}
use Rattle.std.specs.Cmp.Lexicographic.{slice_cmp}
use Rattle.std.proofs.lemmas.Cmp.{nat_list_cmp_total}
use Rattle.std.proofs.lemmas.Map.Text.{is_eq-slice_cmp}
use Rattle.std.proofs.lemmas.Slice.Eq.{bytes_eq-Decides}
use Rattle.std.proofs.lemmas.List.{length-map, map-append, drop_all, get_or-map}
use Rattle.std.proofs.lemmas.List.Elements.{Contains-append_cases}
use Rattle.json_value.specs.Value.{same_bool}
use Rattle.schema_defs.specs.Location.{Location}
use Rattle.schema_defs.specs.Schema.{Schema, Definition, Document}
use Rattle.schema_defs.specs.Admits.{defined, defined_as, definition_name, definition_word, definition_location, is_root_reference}
use Rattle.schema_defs.specs.Children.{schema_at}
use Rattle.schema_defs.specs.Laws.{NamesRise, IsBelowNext}
use Rattle.schema_defs.specs.References.{same_references}
use Rattle.schema_defs.specs.Walks.{IsGuarded}
use Rattle.schema_defs.proofs.Stand.{none_in, first_or_rest, first_in, rest_in, some_same, none_is_not}
use Rattle.schema_defs.proofs.Guarded.{defined_named, definition_stands, defined_is}
use Rattle.reference_graph.specs.Graph.{Graph, IsAcyclic}
use Rattle.schema_guards.specs.Targets.{definitions_under, target_places, same_place, number_in, number_at, number_of, numbers_at, reference_graph_of}
use Rattle.schema_guards.proofs.Guards.{same_place-sound, same_place-itself, in_places, guarded_is_acyclic}
use Rattle.schema_loops.specs.Named.{Rises, is_under_defs, names_under, target_names, schema_named, is_named, place_named, named_number, number_by, row_at, named_graph, seen}
use Rattle.schema_loops.specs.Round.{location_named, location_at}

-- ---- lists

map_same : {A B : Type 0} (f g : A → B) (xs : List A) → ((x : A) → Contains xs x → f x ≡ g x) → map f xs ≡ map g xs
map_same f g [] h = refl
map_same f g (x ∷ xs) h = ap (λ y. y ∷ map f xs) (h x (first_in x xs)) ∙ ap (λ ys. g x ∷ ys) (map_same f g xs (λ y k. h y (rest_in x xs y k)))

map_twice : {A B C : Type 0} (g : B → C) (f : A → B) (xs : List A) → map g (map f xs) ≡ map (λ x. g (f x)) xs
map_twice g f [] = refl
map_twice g f (x ∷ xs) = ap (λ ys. g (f x) ∷ ys) (map_twice g f xs)

filter_names : (p : List ℕ → Bool) (q : Definition → Bool) (xs : List Definition) → ((x : Definition) → Contains xs x → p x.name ≡ q x) → filter p (map (λ e. e.name) xs) ≡ map (λ e. e.name) (filter q xs)
filter_names p q [] h = refl
filter_names p q (x ∷ xs) h = by_test (p x.name) (q x) (h x (first_in x xs)) (filter_names p q xs (λ y k. h y (rest_in x xs y k)))
  where
    by_test : (a b : Bool) → a ≡ b → filter p (map (λ e. e.name) xs) ≡ map (λ e. e.name) (filter q xs)
        → (if a then x.name ∷ filter p (map (λ e. e.name) xs) else filter p (map (λ e. e.name) xs)) ≡ map (λ e. e.name) (if b then x ∷ filter q xs else filter q xs)
    by_test true true e r = ap (λ ns. x.name ∷ ns) r
    by_test false false e r = r
    by_test true false e r = absurd (true≢false e)
    by_test false true e r = absurd (true≢false (sym e))

within_filter : {X : Type 0} (q : X → Bool) (xs : List X) (e : X) → Contains (filter q xs) e → Contains xs e
within_filter q [] e h = absurd (none_in e h)
within_filter q (x ∷ xs) e h = by_test (q x) h (within_filter q xs e)
  where
    by_test : (b : Bool) → Contains (if b then x ∷ filter q xs else filter q xs) e → (Contains (filter q xs) e → Contains xs e) → Contains (x ∷ xs) e
    by_test true k r = elim (first_or_rest x (filter q xs) e k) [
      | inl g ↦ subst (λ y. Contains (x ∷ xs) y) g (first_in x xs)
      | inr g ↦ rest_in x xs e (r g)
    ]
    by_test false k r = rest_in x xs e (r k)

-- ---- a place among targets

names_same : (x e : Definition) → same_place (definition_location x) (definition_location e) ≡ true → x.name ≡ e.name
names_same x e h = ap (λ l. get_or l 1 []) (same_place-sound (definition_location x) (definition_location e) h)

abbrev names_of : List Definition → List (Option (List ℕ))
names_of es = map (λ e. Some e.name) es

module _ (e : Definition) where
  abbrev Alone : List Definition → Type 0
  Alone xs = (x : Definition) → Contains xs x → x.name ≡ e.name → x ≡ e

  place_of_name : (i : ℕ) (xs : List Definition) → Alone xs → Contains xs e → place_named e.name i (names_of xs) ≡ Some (i + number_in (map definition_location xs) (definition_location e))
  place_of_name i [] u h = absurd (none_in e h)
  place_of_name i (x ∷ xs) u h = by_test (bytes_eq x.name e.name) refl (same_place (definition_location x) (definition_location e)) refl (place_of_name (suc i) xs (λ y k. u y (rest_in x xs y k)))
    where
      by_test : (b : Bool) → bytes_eq x.name e.name ≡ b → (c : Bool) → same_place (definition_location x) (definition_location e) ≡ c
          → (Contains xs e → place_named e.name (suc i) (names_of xs) ≡ Some (suc i + number_in (map definition_location xs) (definition_location e)))
          → (if b then Some i else place_named e.name (suc i) (names_of xs)) ≡ Some (i + (if c then 0 else suc (number_in (map definition_location xs) (definition_location e))))
      by_test true p true q r = ap Some (omega arith)
      by_test true p false q r =
          let same : x ≡ e = u x (first_in x xs) ((bytes_eq-Decides x.name e.name).0 p) in
          absurd (true≢false (sym (same_place-itself (definition_location e)) ∙ ap (λ y. same_place (definition_location y) (definition_location e)) (sym same) ∙ q))
      by_test false p true q r = absurd (true≢false (sym ((bytes_eq-Decides x.name e.name).1 (names_same x e q)) ∙ p))
      by_test false p false q r = elim (first_or_rest x xs e h) [
        | inl g ↦ absurd (true≢false (sym ((bytes_eq-Decides x.name e.name).1 (ap (λ d. d.name) g)) ∙ p))
        | inr g ↦ r g ∙ ap Some (omega arith)
      ]

place_of_none : (n : List ℕ) (i : ℕ) (xs : List Definition) → ((x : Definition) → Contains xs x → x.name ≡ n → ⊥) → place_named n i (names_of xs) ≡ None
place_of_none n i [] h = refl
place_of_none n i (x ∷ xs) h = by_test (bytes_eq x.name n) refl (place_of_none n (suc i) xs (λ y k. h y (rest_in x xs y k)))
  where
    by_test : (b : Bool) → bytes_eq x.name n ≡ b → place_named n (suc i) (names_of xs) ≡ None → (if b then Some i else place_named n (suc i) (names_of xs)) ≡ None
    by_test true p r = absurd (h x (first_in x xs) ((bytes_eq-Decides x.name n).0 p))
    by_test false p r = r

-- ---- definitions by name

found_in : (e : Definition) (xs : List Definition) → Alone e xs → Contains xs e → defined e.name xs ≡ Some e
found_in e [] u h = absurd (none_in e h)
found_in e (x ∷ xs) u h = by_test (bytes_eq e.name x.name) refl (found_in e xs (λ y k. u y (rest_in x xs y k)))
  where
    by_test : (b : Bool) → bytes_eq e.name x.name ≡ b → (Contains xs e → defined e.name xs ≡ Some e) → (if b then Some x else defined e.name xs) ≡ Some e
    by_test true p r = ap Some (u x (first_in x xs) (sym ((bytes_eq-Decides e.name x.name).0 p)))
    by_test false p r = elim (first_or_rest x xs e h) [
      | inl g ↦ absurd (true≢false (sym ((bytes_eq-Decides e.name x.name).1 (ap (λ d. d.name) (sym g))) ∙ p))
      | inr g ↦ r g
    ]

none_found : (n : List ℕ) (xs : List Definition) → defined n xs ≡ None → (x : Definition) → Contains xs x → x.name ≡ n → ⊥
none_found n [] f x h e = none_in x h
none_found n (d ∷ ds) f x h e = by_test (bytes_eq n d.name) refl f (λ g k. none_found n ds g x k e)
  where
    by_test : (b : Bool) → bytes_eq n d.name ≡ b → (if b then Some d else defined n ds) ≡ None → (defined n ds ≡ None → Contains ds x → ⊥) → ⊥
    by_test true p g r = none_is_not d (sym g)
    by_test false p g r = elim (first_or_rest d ds x h) [
      | inl k ↦ true≢false (sym ((bytes_eq-Decides n d.name).1 (sym e ∙ ap (λ d. d.name) (sym k))) ∙ p)
      | inr k ↦ r g k
    ]

module _ (d : Document) where
  under_found : (n : List ℕ) (e : Definition) → defined n d.definitions ≡ Some e → is_under_defs d n ≡ e.under_defs
  under_found n e f = by_word e.under_defs refl
    where
      by_word : (b : Bool) → e.under_defs ≡ b → is_under_defs d n ≡ b
      by_word true k = let same : same_bool e.under_defs true ≡ true = ap (λ b. same_bool b true) k in rw (f, same) refl
      by_word false k = let other : same_bool e.under_defs true ≡ false = ap (λ b. same_bool b true) k in rw (f, other) refl

  location_found : (n : List ℕ) (e : Definition) → defined n d.definitions ≡ Some e → location_named d (Some n) ≡ definition_location e
  location_found n e f = ap (λ b. definition_word b ∷ n ∷ []) (under_found n e f) ∙ ap (λ n. definition_word e.under_defs ∷ n ∷ []) (defined_named n d.definitions e f).0

  -- what has the name stands at its place
  pub named_stands : (t : Option (List ℕ)) → schema_at d (location_named d t) ≡ schema_named d t
  named_stands None = refl
  named_stands (Some n) = by_definition (defined n d.definitions) refl
    where
      by_word : (b : Bool) → defined n d.definitions ≡ None → schema_at d (definition_word b ∷ n ∷ []) ≡ None
      by_word true f = rw f refl
      by_word false f = rw f refl

      by_definition : (o : Option Definition) → defined n d.definitions ≡ o → schema_at d (location_named d (Some n)) ≡ option_map (λ e. e.body) o
      by_definition None f = by_word (is_under_defs d n) f
      by_definition (Some e) f = ap (schema_at d) (location_found n e f) ∙ definition_stands d e (defined_is d (Some n) e f).0

-- each name stands once
abbrev Unique : List Definition → Type 0
Unique ds = (x e : Definition) → Contains ds x → Contains ds e → x.name ≡ e.name → x ≡ e

below_all : (n : List ℕ) (ds : List Definition) → IsBelowNext n (map (λ e. e.name) ds) → NamesRise (map (λ e. e.name) ds) → (x : Definition) → Contains ds x → slice_cmp nat_cmp n x.name ≡ Less
below_all n [] b h x c = absurd (none_in x c)
below_all n (d ∷ ds) b h x c = elim (first_or_rest d ds x c) [
  | inl e ↦ subst (λ y. slice_cmp nat_cmp n y.name ≡ Less) e b
  | inr g ↦ nat_list_cmp_total.trans n d.name x.name b (below_all d.name ds h.0 h.1 x g)
]

below_differs : (n m : List ℕ) → slice_cmp nat_cmp n m ≡ Less → n ≡ m → ⊥
below_differs n m l e = true≢false (sym ((bytes_eq-Decides n m).1 e) ∙ sym (is_eq-slice_cmp n m) ∙ ap is_eq l)

rising_unique : (ds : List Definition) → NamesRise (map (λ e. e.name) ds) → Unique ds
rising_unique [] h x e p q same = absurd (none_in x p)
rising_unique (d ∷ ds) h x e p q same = elim (first_or_rest d ds x p) [
  | inl f ↦ elim (first_or_rest d ds e q) [
    | inl g ↦ sym f ∙ g
    | inr g ↦ absurd (below_differs d.name e.name (below_all d.name ds h.0 h.1 e g) (ap (λ y. y.name) f ∙ same))
  ]
  | inr f ↦ elim (first_or_rest d ds e q) [
    | inl g ↦ absurd (below_differs d.name x.name (below_all d.name ds h.0 h.1 x f) (ap (λ y. y.name) g ∙ sym same))
    | inr g ↦ rising_unique ds h.1 x e f g same
  ]
]

module _ (d : Document) (rise : Rises d) where
  abbrev u : Unique d.definitions
  u = rising_unique d.definitions rise

  found : (e : Definition) → Contains d.definitions e → defined e.name d.definitions ≡ Some e
  found e h = found_in e d.definitions (λ x k. u x e k h) h

  under_is : (e : Definition) → Contains d.definitions e → is_under_defs d e.name ≡ e.under_defs
  under_is e h = under_found d e.name e (found e h)

  under_names : (b : Bool) → names_under d b ≡ map (λ e. e.name) (definitions_under b d.definitions)
  under_names b = filter_names (λ n. same_bool (is_under_defs d n) b) (λ e. same_bool e.under_defs b) d.definitions (λ e h. ap (λ a. same_bool a b) (under_is e h))

  abbrev entries : List Definition
  entries = definitions_under true d.definitions ++ definitions_under false d.definitions

  entry_in : (e : Definition) → Contains entries e → Contains d.definitions e
  entry_in e h = elim (Contains-append_cases (definitions_under true d.definitions) (definitions_under false d.definitions) e h) [
    | inl k ↦ within_filter (λ e. same_bool e.under_defs true) d.definitions e k
    | inr k ↦ within_filter (λ e. same_bool e.under_defs false) d.definitions e k
  ]

  names_are : target_names d ≡ None ∷ names_of entries
  names_are =
      let part : (b : Bool) → map Some (names_under d b) ≡ names_of (definitions_under b d.definitions) =
      λ b. ap (map Some) (under_names b) ∙ map_twice Some (λ e. e.name) (definitions_under b d.definitions)
      in
      ap (λ ns. None ∷ ns) (
      ap (λ ns. ns ++ map Some (names_under d false)) (part true)
      ∙ ap (λ ns. names_of (definitions_under true d.definitions) ++ ns) (part false)
      ∙ sym (map-append (λ (e : Definition). Some e.name) (definitions_under true d.definitions) (definitions_under false d.definitions))
      )

  abbrev place : List ℕ → Option ℕ
  place n = place_named n 0 (target_names d)

  abbrev count : ℕ
  count = length (target_names d)

  places_are : map (location_named d) (target_names d) ≡ target_places d
  places_are =
      ap (map (location_named d)) names_are
      ∙ ap (λ ls. [] ∷ ls) (
      map_twice (location_named d) (λ e. Some e.name) entries
      ∙ map_same (λ e. location_named d (Some e.name)) definition_location entries (λ e k. ap (λ b. definition_word b ∷ e.name ∷ []) (under_is e (entry_in e k)))
      )

  pub count_is : count ≡ length (target_places d)
  count_is = sym (length-map (target_names d) (location_named d)) ∙ ap length places_are

  pub place_is : (i : ℕ) → i < count → location_at d i ≡ get_or (target_places d) i []
  place_is i h = sym (get_or-map (location_named d) (target_names d) i None [] h) ∙ ap (λ ls. get_or ls i []) places_are

  pub number_is : (q : List ℕ) → number_by place count q ≡ number_of d q
  number_is q = by_form (is_root_reference q) (definition_name q)
    where
      by_definition : (n : List ℕ) (o : Option Definition) → defined n d.definitions ≡ o → unwrap_or (place n) count ≡ number_at d (option_map definition_location o)
      by_definition n None f =
          let none : place n ≡ None =
          ap (place_named n 0) names_are ∙ place_of_none n 1 entries (λ x k. none_found n d.definitions f x (entry_in x k))
          in
          ap (λ o. unwrap_or o count) none ∙ count_is
      by_definition n (Some e) f =
          let r = defined_named n d.definitions e f in
          let here : place e.name ≡ Some (1 + number_in (map definition_location entries) (definition_location e)) =
          ap (place_named e.name 0) names_are ∙ place_of_name e 1 entries (λ x k. u x e (entry_in x k) r.1) (in_places d.definitions e r.1)
          in
          ap (λ n. unwrap_or (place n) count) r.0 ∙ ap (λ o. unwrap_or o count) here ∙ omega arith

      by_form : (b : Bool) (o : Option (List ℕ)) → (if b then 0 else named_number place count o) ≡ number_at d (if b then Some [] else option_map definition_location (defined_as d o))
      by_form true o = refl
      by_form false None = count_is
      by_form false (Some n) = by_definition n (defined n d.definitions) refl

  rows_are : (o : Option Schema) → row_at place count o ≡ numbers_at d o
  rows_are None = refl
  rows_are (Some s) = map_same (number_by place count) (number_of d) (same_references s) (λ q k. number_is q)

  pub graph_is : named_graph d ≡ reference_graph_of d
  graph_is =
      let at : Location → List ℕ = λ l. numbers_at d (schema_at d l) in
      map_same (λ t. row_at place count (schema_named d t)) (λ t. at (location_named d t)) (target_names d) (λ t k. rows_are (schema_named d t) ∙ ap (numbers_at d) (sym (named_stands d t)))
      ∙ sym (map_twice at (location_named d) (target_names d))
      ∙ ap (map at) places_are

-- ---- the decision

pub guarded_of : {A : Type 0} (d : Document) (g : Graph) (o : Option A) → g ≡ reference_graph_of d → (o ≡ None) ↔ IsAcyclic g → (o ≡ None) ↔ IsGuarded d
guarded_of d g o e h =
    let a : (o ≡ None) ↔ IsAcyclic (reference_graph_of d) = subst (λ g. (o ≡ None) ↔ IsAcyclic g) e h in
    let b = guarded_is_acyclic d in
    (λ x. b.1 (a.0 x), λ x. a.1 (b.0 x))

tested : {A : Type 0} (o : Option A) (b : Bool) → is_some o ≡ not b → (IsTrue b → o ≡ None) × (o ≡ None → IsTrue b)
tested None true h = (λ k. refl, λ k. refl)
tested None false h = (λ k. refl, λ k. absurd (true≢false (sym h)))
tested (Some x) true h = (λ k. absurd (true≢false h), λ k. refl)
tested (Some x) false h = (λ k. absurd (true≢false (sym k)), λ k. absurd (none_is_not x (sym k)))

pub decided : {A : Type 0} (d : Document) (g : Graph) (o : Option A) (b : Bool) → g ≡ reference_graph_of d → (o ≡ None) ↔ IsAcyclic g → is_some o ≡ not b → IsTrue b ↔ IsGuarded d
decided d g o b e h k =
    let t = tested o b k in
    let a = guarded_of d g o e h in
    (λ x. a.0 (t.0 x), λ x. t.1 (a.1 x))

pub named_rows_are : (d : Document) (f : List ℕ → Option ℕ) (count : ℕ) (ts : List (Option (List ℕ))) → ((n : List ℕ) → f n ≡ place_named n 0 ts) → count ≡ length ts → ts ≡ target_names d
    → map (λ t. row_at f count (schema_named d t)) ts ≡ named_graph d
named_rows_are d f count ts h k e =
    let places : f ≡ (λ n. place_named n 0 ts) = λ i n. h n i in
    ap (λ f. map (λ t. row_at f count (schema_named d t)) ts) places
    ∙ ap (λ c. map (λ t. row_at (λ n. place_named n 0 ts) c (schema_named d t)) ts) k
    ∙ ap (λ ts. map (λ t. row_at (λ n. place_named n 0 ts) (length ts) (schema_named d t)) ts) e

-- one more target is numbered, from the last to the first
pub one_numbered : (xs : List (Option (Bor (List ℕ)))) (p : ℕ) (n : List ℕ) (r : Option ℕ) (t : Option (Bor (List ℕ))) → 0 < p → p ≤ length xs → get_or xs (p - 1) None ≡ t
    → r ≡ (if is_named n (option_map (λ t. t.now) t) then Some (p - 1) else place_named n p (drop p (seen xs))) → r ≡ place_named n (p - 1) (drop (p - 1) (seen xs))
one_numbered xs p n r t h k g e =
    let q : suc (p - 1) ≡ p = omega arith in
    let inside : p - 1 < length xs = omega arith in
    let within : p - 1 < length (seen xs) = let s = length-map xs (option_map (λ (t : Bor (List ℕ)). t.now)) in omega arith in
    let head : get_or (seen xs) (p - 1) None ≡ option_map (λ t. t.now) t = get_or-map (option_map (λ (t : Bor (List ℕ)). t.now)) xs (p - 1) None None inside ∙ ap (option_map (λ t. t.now)) g in
    e ∙ ap (λ p'. if is_named n (option_map (λ t. t.now) t) then Some (p - 1) else place_named n p' (drop p' (seen xs))) (sym q)
    ∙ ap (λ t. place_named n (p - 1) (t ∷ drop (suc (p - 1)) (seen xs))) (sym head)
    ∙ ap (place_named n (p - 1)) (sym (drop-cons (seen xs) (p - 1) None within))

pub rows_told : (d : Document) (f : List ℕ → Option ℕ) (count : ℕ) (xs ys zs : List (Option (Bor (List ℕ)))) (i : ℕ) (rows : Graph) → ((n : List ℕ) → f n ≡ place_named n 0 (seen ys)) → count ≡ length ys → ys ≡ xs → seen xs ≡ target_names d
    → zs ≡ xs → length zs ≤ i → rows ++ map (λ t. row_at f count (schema_named d t)) (seen (drop i zs)) ≡ map (λ t. row_at f count (schema_named d t)) (seen zs) → Rises d → rows ≡ reference_graph_of d
rows_told d f count xs ys zs i rows h k e t e' le w rise =
    let row : Option (List ℕ) → List ℕ = λ t. row_at f count (schema_named d t) in
    sym (append-nil rows) ∙ ap (λ ts. rows ++ map row (seen ts)) (sym (drop_all i zs le)) ∙ w ∙ ap (λ ts. map row (seen ts)) e'
    ∙ named_rows_are d f count (seen xs) (λ n. h n ∙ ap (λ ts. place_named n 0 (seen ts)) e) (k ∙ ap length e ∙ sym (length-map xs (option_map (λ t. t.now)))) t
    ∙ graph_is d rise
