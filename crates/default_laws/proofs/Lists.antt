-- Lists, tuples and maps: each part is read where it is found, and in the same order.
use Rattle.std.proofs.Common.{◌≡◌, ℕ, suc, List, [], ◌∷◌, map, length, Bool, true, false, refl, sym, ap, ◌∙◌, arith, tests}
use Rattle.std.specs.Prelude.{◌==◌, if◌then◌else◌}
use Rattle.std.specs.List.{AllByRecursion}
use Rattle.std.proofs.lemmas.Bool.{ne_eqb}
use Rattle.std.proofs.lemmas.List.{length-map}
use Rattle.json_value.specs.Value.{Value}
use Rattle.schema_defs.specs.Location.{place}
use Rattle.model_defs.specs.Types.{TypeModel, text_type, types_of}
use Rattle.model_defs.specs.Layer.{MemberPart, Parts}
use Rattle.typed_defs.specs.Typed.{Typed}
use Rattle.reading_defs.specs.Reading as reading
use Rattle.reading_defs.specs.Reading.{Read, stopped, under, here, followed, paired, list_read, tuple_read, pair_read, pairs_read, object_read}
use Rattle.entry_defs.specs.Entry.{Target, Entry, Entries, Shape, entries_of}
use Rattle.entry_defs.specs.Sound.{Each, EachEntry}
use Rattle.emit_defs.specs.Setting.{Setting}
use Rattle.emit_defs.specs.Models.{type_model, type_models}
use Rattle.emit_defs.proofs.Places.{models_listed, each_listed}
use Rattle.default_defs.specs.Found.{Found, if_so, both}
use Rattle.default_defs.specs.Layer.{Reader, items_read, each_read, array_read, members_read, map_read, in_places, places_read, values_read}
use Rattle.default_defs.proofs.Alike as alike
use Rattle.default_laws.specs.Laws.{as_found}
use Rattle.default_laws.proofs.AsFound.{of_map, of_under, of_here, of_followed, of_paired, of_if}
use Rattle.default_laws.proofs.Says.{Says, IsName, ItemsSay, MembersSay, PartsSay}

unlike : (c : Bool) (x y : Found) → c ≡ false → if_so c x ≡ if_so c y
unlike c x y e = ap (λ z. if_so z x) e ∙ ap (λ z. if_so z y) (sym e)

one_more : (a b : ℕ) → (suc a == suc b) ≡ (a == b)
one_more a b = grind (arith, tests)

module _ (s : Setting) (missed : Entry → Value → Found) (default_read : ℕ → TypeModel → Read Typed) (P : List ℕ → Shape → Type 0) (Q : Target → Type 0) where
  abbrev Key : Reader → reading.Reader → Type 0
  Key j k = IsName s missed default_read P Q j k

  abbrev Part : Reader → reading.Reader → Type 0
  Part j k = Says s missed default_read P Q j k

  abbrev Items : List Reader → List reading.Reader → Type 0
  Items js ks = ItemsSay s missed default_read P Q js ks

  abbrev Members : List (MemberPart Reader) → List (MemberPart reading.Reader) → Type 0
  Members js ks = MembersSay s missed default_read P Q js ks

  abbrev All : Parts Reader → Parts reading.Reader → Type 0
  All ps qs = PartsSay s missed default_read P Q ps qs

  abbrev typed_as : (List ℕ → Bool) → Entry → TypeModel
  typed_as b e = type_model s.name b e

  -- one after the other
  then_both : {A : Type 0} (x : Read A) (xs : Read (List A)) (a c : Found) → as_found x ≡ a → as_found xs ≡ c → as_found (followed x xs) ≡ both a c
  then_both x xs a c e f = of_followed x xs ∙ (λ i. both (e i) (f i))

  items : (b : List ℕ → Bool) (e : Entry) → Each P Q e → (i : ℕ) (js : List Reader) (ks : List reading.Reader) → Items js ks
      → as_found (reading.items_read i (typed_as b e) ks) ≡ items_read e js
  items b e h i [] [] x = refl
  items b e h i [] (k ∷ ks) x = absurd x
  items b e h i (j ∷ js) [] x = absurd x
  items b e h i (j ∷ js) (k ∷ ks) x =
      then_both (under (place i) (k.as_type (typed_as b e))) (reading.items_read (suc i) (typed_as b e) ks) (j e) (items_read e js)
      (of_under (place i) (k.as_type (typed_as b e)) ∙ x.0.one b e h) (items b e h (suc i) js ks x.1)

  as_long : (js : List Reader) (ks : List reading.Reader) → Items js ks → length ks ≡ length js
  as_long js ks x = sym (alike.as_many Reader reading.Reader Key Part js ks x)

  pub each : (b : List ℕ → Bool) (e : Entry) → Each P Q e → (ps : Parts Reader) (qs : Parts reading.Reader) → All ps qs → as_found (list_read (typed_as b e) qs) ≡ each_read e ps
  each b e h =
      alike.by_kind Reader reading.Reader Key Part (λ ps qs. as_found (list_read (typed_as b e) qs) ≡ each_read e ps) refl (items b e h 0) (λ ms ns x. refl)

  pub array : (b : List ℕ → Bool) (e : Entry) → Each P Q e → (n : ℕ) (ps : Parts Reader) (qs : Parts reading.Reader) → All ps qs
      → as_found (reading.array_read (typed_as b e) n qs) ≡ array_read e n ps
  array b e h n = alike.by_kind Reader reading.Reader Key Part (λ ps qs. as_found (reading.array_read (typed_as b e) n qs) ≡ array_read e n ps) refl of (λ ms ns x. refl)
    where
      of : (js : List Reader) (ks : List reading.Reader) → Items js ks
          → as_found (if length ks == n then reading.items_read 0 (typed_as b e) ks else stopped []) ≡ if_so (length js == n) (items_read e js)
      of js ks x =
          let long = as_long js ks x in
          let all = items b e h 0 js ks x in
          of_if (length ks == n) (reading.items_read 0 (typed_as b e) ks) [] ∙ (λ i. if_so (long i == n) (all i))

  -- where there are as many items as entries
  in_turn : (b : List ℕ → Bool) (es : List Entry) → AllByRecursion (Each P Q) es → (i : ℕ) (js : List Reader) (ks : List reading.Reader) → Items js ks
      → if_so (length js == length es) (as_found (reading.places_read i (map (typed_as b) es) ks)) ≡ if_so (length js == length es) (in_places es js)
  in_turn b [] h i [] [] x = refl
  in_turn b (e ∷ es) h i [] [] x = unlike (0 == length (e ∷ es)) _ _ (ne_eqb 0 (length (e ∷ es)) (λ k. omega (arith, k)))
  in_turn b es h i [] (k ∷ ks) x = absurd x
  in_turn b es h i (j ∷ js) [] x = absurd x
  in_turn b [] h i (j ∷ js) (k ∷ ks) x = unlike (length (j ∷ js) == 0) _ _ (ne_eqb (length (j ∷ js)) 0 (λ k. omega (arith, k)))
  in_turn b (e ∷ es) h i (j ∷ js) (k ∷ ks) x =
      ap (λ c. if_so c (as_found (followed first more))) (one_more (length js) (length es))
      ∙ by (length js == length es) (in_turn b es h.1 (suc i) js ks x.1)
      ∙ ap (λ c. if_so c (both (j e) (in_places es js))) (sym (one_more (length js) (length es)))
    where
      first : Read Typed
      first = under (place i) (k.as_type (typed_as b e))

      more : Read (List Typed)
      more = reading.places_read (suc i) (map (typed_as b) es) ks

      by : (c : Bool) → if_so c (as_found more) ≡ if_so c (in_places es js) → if_so c (as_found (followed first more)) ≡ if_so c (both (j e) (in_places es js))
      by false g = refl
      by true g = then_both first more (j e) (in_places es js) (of_under (place i) (k.as_type (typed_as b e)) ∙ x.0.one b e h.0) g

  places_listed : (b : List ℕ → Bool) (es : List Entry) → AllByRecursion (Each P Q) es → (ps : Parts Reader) (qs : Parts reading.Reader) → All ps qs
      → as_found (tuple_read (map (typed_as b) es) qs) ≡ places_read es ps
  places_listed b es h = alike.by_kind Reader reading.Reader Key Part (λ ps qs. as_found (tuple_read (map (typed_as b) es) qs) ≡ places_read es ps) refl of (λ ms ns x. refl)
    where
      of : (js : List Reader) (ks : List reading.Reader) → Items js ks
          → as_found (if length ks == length (map (typed_as b) es) then reading.places_read 0 (map (typed_as b) es) ks else stopped []) ≡ if_so (length js == length es) (in_places es js)
      of js ks x =
          let long = as_long js ks x in
          let many = length-map es (typed_as b) in
          of_if (length ks == length (map (typed_as b) es)) (reading.places_read 0 (map (typed_as b) es) ks) []
          ∙ (λ i. if_so (long i == many i) (as_found (reading.places_read 0 (map (typed_as b) es) ks)))
          ∙ in_turn b es h 0 js ks x

  pub tuples : (b : List ℕ → Bool) (es : Entries) → EachEntry P Q es → (ps : Parts Reader) (qs : Parts reading.Reader) → All ps qs
      → as_found (tuple_read (types_of (type_models s.name b es)) qs) ≡ places_read (entries_of es) ps
  tuples b es h ps qs x =
      ap (λ ts. as_found (tuple_read ts qs)) (models_listed s.name b es) ∙ places_listed b (entries_of es) (each_listed P Q es h) ps qs x

  -- ---- members

  one_pair : (k t : TypeModel) (n : MemberPart reading.Reader) (a c : Found) → as_found (n.key.as_type k) ≡ a → as_found (n.value.as_type t) ≡ c → as_found (pair_read k t n) ≡ both a c
  one_pair k t n a c e f =
      let key = of_here (n.key.as_type k) ∙ e in
      of_under n.name (paired (here (n.key.as_type k)) (n.value.as_type t)) ∙ of_paired (here (n.key.as_type k)) (n.value.as_type t) ∙ (λ i. both (key i) (f i))

  pairs : (b : List ℕ → Bool) (k e : Entry) → Each P Q k → Each P Q e → (ms : List (MemberPart Reader)) (ns : List (MemberPart reading.Reader)) → Members ms ns
      → as_found (pairs_read (typed_as b k) (typed_as b e) ns) ≡ members_read k e ms
  pairs b k e hk he [] [] x = refl
  pairs b k e hk he [] (n ∷ ns) x = absurd x
  pairs b k e hk he (m ∷ ms) [] x = absurd x
  pairs b k e hk he (m ∷ ms) (n ∷ ns) x =
      then_both (pair_read (typed_as b k) (typed_as b e) n) (pairs_read (typed_as b k) (typed_as b e) ns) (both (m.key k) (m.value e)) (members_read k e ms)
      (one_pair (typed_as b k) (typed_as b e) n (m.key k) (m.value e) (x.0.1.says.one b k hk) (x.0.2.one b e he)) (pairs b k e hk he ms ns x.1)

  pub maps : (b : List ℕ → Bool) (k e : Entry) → Each P Q k → Each P Q e → (ps : Parts Reader) (qs : Parts reading.Reader) → All ps qs
      → as_found (object_read (typed_as b k) (typed_as b e) qs) ≡ map_read k e ps
  maps b k e hk he =
      alike.by_kind Reader reading.Reader Key Part (λ ps qs. as_found (object_read (typed_as b k) (typed_as b e) qs) ≡ map_read k e ps) refl (λ js ks x. refl)
      (λ ms ns x. of_map _ (pairs_read (typed_as b k) (typed_as b e) ns) ∙ pairs b k e hk he ms ns x)

  -- names that are texts say nothing
  pub values : (b : List ℕ → Bool) (e : Entry) → Each P Q e → (ms : List (MemberPart Reader)) (ns : List (MemberPart reading.Reader)) → Members ms ns
      → as_found (pairs_read text_type (typed_as b e) ns) ≡ values_read e ms
  values b e h [] [] x = refl
  values b e h [] (n ∷ ns) x = absurd x
  values b e h (m ∷ ms) [] x = absurd x
  values b e h (m ∷ ms) (n ∷ ns) x =
      then_both (pair_read text_type (typed_as b e) n) (pairs_read text_type (typed_as b e) ns) (m.value e) (values_read e ms)
      (one_pair text_type (typed_as b e) n _ (m.value e) x.0.1.is_a_text (x.0.2.one b e h)) (values b e h ms ns x.1)
