-- Lists: what is made of what was found, and places one after another.
use Rattle.std.proofs.Common.{◌≡◌, ℕ, suc, List, [], ◌∷◌, ◌++◌, Bool, true, false, ◌&&◌, length, append_assoc, refl, sym, ap, ◌∙◌}
use Rattle.std.specs.Prelude.{Some, None, Result, Ok}
use Rattle.std.proofs.lemmas.List.{map-append}
use Rattle.schema_defs.specs.Schema.{Schema, Schemas, schemas, schema_list, by_place, MaybeSchema, ListRules}
use Rattle.schema_types.specs.declared.schema.Schema as tree
use Rattle.schema_types.specs.View.{schema_view, schemas_view}
use Rattle.merge_defs.specs.Outcome.{Note, Outcome, fault, never, answer, noted, mapped, never_unless, of_clash}
use Rattle.merge_defs.specs.Arrays.{Front, Merged, End, at_most, at_clash, goes_on, at_place, by_places, clash_at, is_above_zero, is_full, nothing_more, put, rest_of}
use Rattle.merge_walked.proofs.Lists.{relisted}
use Rattle.merge_leaves.specs.Sizes.{list_sizes_view}
use Rattle.merge_steps.specs.declared.stop.Stop.{Stop}
use Rattle.merge_steps.specs.Ends.{Ends, Leads}
use Rattle.merge_steps.proofs.Leading.{noted_twice, noted_nothing, noted_mapped, mapped_twice, led, leads_by, leads_on, leads_as}
use Rattle.merge_lists.specs.declared.plan.Around.{Around}
use Rattle.merge_lists.specs.declared.plan.Pair.{Pair}
use Rattle.merge_lists.specs.declared.merged.MergedPlaces.{MergedPlaces}
use Rattle.merge_lists.specs.Plans.{around_front, does_go_on, each_outcome, ending_outcome, merged_view, pair_view, pairs_view, put_front}
use Rattle.merge_cycle.specs.Finds.{Finds}
use Rattle.merge_cycle.proofs.Steps.{strict_leads, found_leads}

mapped_same : {A B : Type 0} (f g : A → B) → ((a : A) → f a ≡ g a) → (o : Outcome A) → mapped f o ≡ mapped g o
mapped_same f g e (fault d) = refl
mapped_same f g e (never ns) = refl
mapped_same f g e (answer ns a) = ap (answer ns) (e a)

module _ (join : Schema → Schema → Outcome Schema) where
  -- ---- one schema for each item

  pub each_noted : (r : Around) (ns : List Note) (p : Outcome Schema) → each_outcome join r (noted ns p) ≡ noted ns (each_outcome join r p)
  each_noted r ns (fault f) = refl
  each_noted r ns (never ms) =
      let none : Outcome Front = never_unless (r.is_array && is_above_zero (list_sizes_view r.sizes).min_items) of_clash in
      ap (mapped (around_front r)) (sym (noted_twice ns ms none)) ∙ noted_mapped ns (noted ms none) (around_front r)
  each_noted r ns (answer ms s) = refl

  -- ---- what binds the rest

  rest_noted : (array : Bool) (c : ListRules) (stays : Bool) (ns : List Note) (p : Outcome Schema) → rest_of join array c stays (noted ns p) ≡ noted ns (rest_of join array c stays p)
  rest_noted array c stays ns (fault f) = refl
  rest_noted array c stays ns (never ms) = sym (noted_twice ns ms _)
  rest_noted array c stays ns (answer ms s) = refl

  ending_noted_by : (r : Around) (stays : Bool) (items : Schemas) (e : End) → does_go_on e ≡ true → (ns : List Note) (p : Outcome Schema)
      → ending_outcome join r stays (noted ns p) (record { items = items; end = e }) ≡ noted ns (ending_outcome join r stays p (record { items = items; end = e }))
  ending_noted_by r stays items at_most h ns p = cc
  ending_noted_by r stays items (at_clash k) h ns p = cc
  ending_noted_by r stays items goes_on h ns p =
      let c = list_sizes_view r.sizes in
      let front : MaybeSchema → Front = λ x. record { places = by_place items; rest = x; max_items = c.max_items } in
      ap (λ o. mapped (around_front r) (mapped front o)) (rest_noted r.is_array c stays ns p)
      ∙ ap (mapped (around_front r)) (noted_mapped ns (rest_of join r.is_array c stays p) front)
      ∙ noted_mapped ns (mapped front (rest_of join r.is_array c stays p)) (around_front r)

  pub ending_noted : (r : Around) (stays : Bool) (m : Merged) → does_go_on m.end ≡ true → (ns : List Note) (p : Outcome Schema) → ending_outcome join r stays (noted ns p) m ≡ noted ns (ending_outcome join r stays p m)
  ending_noted r stays m h = ending_noted_by r stays m.items m.end h

  ending_any_by : (r : Around) (stays : Bool) (items : Schemas) (e : End) → does_go_on e ≡ false → (p q : Outcome Schema)
      → ending_outcome join r stays p (record { items = items; end = e }) ≡ ending_outcome join r stays q (record { items = items; end = e })
  ending_any_by r stays items at_most h p q = refl
  ending_any_by r stays items (at_clash k) h p q = refl
  ending_any_by r stays items goes_on h p q = cc

  -- where nothing binds the rest
  pub ending_any : (r : Around) (stays : Bool) (m : Merged) → does_go_on m.end ≡ false → (p q : Outcome Schema) → ending_outcome join r stays p m ≡ ending_outcome join r stays q m
  ending_any r stays m h = ending_any_by r stays m.items m.end h

  -- ---- place by place

  module _ (array : Bool) (c : ListRules) where
    place_noted : (k : ℕ) (after : ℕ → Outcome Merged) (ns : List Note) (p : Outcome Schema) → at_place join array c k (noted ns p) after ≡ noted ns (at_place join array c k p after)
    place_noted k after ns (fault f) = refl
    place_noted k after ns (never ms) = sym (noted_twice ns ms _)
    place_noted k after ns (answer ms s) = sym (noted_twice ns ms _)

    -- what the place is, before those after it
    abbrev placing : List Schema → ℕ → List (Schema × Schema) → Outcome Schema → Outcome Merged
    placing ss k ps o = mapped (put_front ss) (at_place join array c k o (λ n. by_places join array c n ps))

    placing_noted : (ss : List Schema) (k : ℕ) (ps : List (Schema × Schema)) (ns : List Note) (p : Outcome Schema) → placing ss k ps (noted ns p) ≡ noted ns (placing ss k ps p)
    placing_noted ss k ps ns p = ap (mapped (put_front ss)) (place_noted k (λ n. by_places join array c n ps) ns p) ∙ noted_mapped ns (at_place join array c k p (λ n. by_places join array c n ps)) (put_front ss)

    abbrev left_at : List Schema → ℕ → List (Schema × Schema) → Outcome Merged
    left_at ss k ps = mapped (put_front ss) (by_places join array c k ps)

    -- by whether as many stand as may
    abbrev left_by : List Schema → ℕ → Schema × Schema → List (Schema × Schema) → Bool → Outcome Merged
    left_by ss k p ps b =
        mapped (put_front ss) (elim b [ true ↦ answer [] (nothing_more at_most) | false ↦ at_place join array c k (join p.0 p.1) (λ n. by_places join array c n ps) ])

    goes_placing : (ss : List Schema) (k : ℕ) (p : Schema × Schema) (ps : List (Schema × Schema)) → is_full c.max_items k ≡ false → left_at ss k (p ∷ ps) ≡ placing ss k ps (join p.0 p.1)
    goes_placing ss k p ps h = ap (left_by ss k p ps) h

    put_more : (ss : List Schema) (s : Schema) (m : Merged) → put_front ss (put s m) ≡ put_front (ss ++ s ∷ []) m
    put_more ss s m = ap (λ (l : List Schema). record { items = schemas l; end = m.end }) (sym (append_assoc ss (s ∷ []) (schema_list m.items)))

    one_placed : (ss : List Schema) (k : ℕ) (ps : List (Schema × Schema)) (s : Schema) → placing ss k ps (answer [] s) ≡ left_at (ss ++ s ∷ []) (suc k) ps
    one_placed ss k ps s =
        let after = by_places join array c (suc k) ps in
        ap (mapped (put_front ss)) (noted_nothing (mapped (put s) after))
        ∙ mapped_twice (put_front ss) (put s) after
        ∙ mapped_same (λ m. put_front ss (put s m)) (put_front (ss ++ s ∷ [])) (put_more ss s) after

    none_placed : (ss : List Schema) (k : ℕ) (ps : List (Schema × Schema)) → placing ss k ps (never []) ≡ mapped (put_front ss) (clash_at join array c k)
    none_placed ss k ps = ap (mapped (put_front ss)) (noted_nothing (clash_at join array c k))

    put_none : (m : Merged) → put_front [] m ≡ m
    put_none m = ap (λ ss. record { items = ss; end = m.end }) (sym (relisted m.items))

    -- ---- the loop, as the program has it

    pub places_begin : (ns : List Note) (items : List tree.Schema) (ps qs : List Pair) → items ≡ [] → qs ≡ ps → Leads ns ns (by_places join array c 0 (pairs_view ps)) (left_at (schemas_view items) (length items) (pairs_view qs))
    places_begin ns items ps qs e h =
        leads_by (sym (mapped_same (put_front []) (λ m. m) put_none (by_places join array c 0 (pairs_view ps)) ∙ unmapped (by_places join array c 0 (pairs_view ps)))
        ∙ (λ i. left_at (schemas_view (sym e i)) (length (sym e i)) (pairs_view (sym h i))))
      where
        unmapped : (o : Outcome Merged) → mapped (λ m. m) o ≡ o
        unmapped (fault f) = refl
        unmapped (never ns) = refl
        unmapped (answer ns m) = refl

    grown : (items more : List tree.Schema) (s : tree.Schema) → more ≡ items ++ s ∷ [] → length more ≡ suc (length items)
    grown items more s e = ap length e ∙ counted items
      where
        counted : (xs : List tree.Schema) → length (xs ++ s ∷ []) ≡ suc (length xs)
        counted [] = refl
        counted (x ∷ xs) = ap suc (counted xs)

    pub places_step : (before mid : List Note) (items more : List tree.Schema) (pair : Pair) (first second s : tree.Schema) (ps qs : List Pair) → is_full c.max_items (length items) ≡ false → ps ≡ pair ∷ qs → pair_view pair ≡ (schema_view first, schema_view second)
        → Finds before mid (join (schema_view first) (schema_view second)) (Ok (Some s)) → more ≡ items ++ s ∷ []
        → Leads before mid (left_at (schemas_view items) (length items) (pairs_view ps)) (left_at (schemas_view more) (length more) (pairs_view qs))
    places_step before mid items more pair first second s ps qs h e v f m =
        let ss = schemas_view items in
        let k = length items in
        let start : left_at ss k (pairs_view ps) ≡ placing ss k (pairs_view qs) (join (schema_view first) (schema_view second)) =
        ap (λ l. left_at ss k (pairs_view l)) e ∙ ap (λ p. left_at ss k (p ∷ pairs_view qs)) v ∙ goes_placing ss k (schema_view first, schema_view second) (pairs_view qs) h in
        let end : placing ss k (pairs_view qs) (answer [] (schema_view s)) ≡ left_at (schemas_view more) (length more) (pairs_view qs) =
        one_placed ss k (pairs_view qs) (schema_view s) ∙ (λ i. left_at (sym (ap schemas_view m ∙ map-append schema_view items (s ∷ [])) i) (sym (grown items more s m) i) (pairs_view qs)) in
        leads_on (leads_by start) (leads_as (strict_leads (placing ss k (pairs_view qs)) (placing_noted ss k (pairs_view qs)) (found_leads (Some s) f)) end)

    -- where two clash
    pub places_clash : (before mid after : List Note) (items : List tree.Schema) (pair : Pair) (first second : tree.Schema) (ps qs : List Pair) (r : Result MergedPlaces Stop) → is_full c.max_items (length items) ≡ false → ps ≡ pair ∷ qs → pair_view pair ≡ (schema_view first, schema_view second)
        → Finds before mid (join (schema_view first) (schema_view second)) (Ok None)
        → Ends merged_view mid after (mapped (put_front (schemas_view items)) (clash_at join array c (length items))) r
        → Ends merged_view before after (left_at (schemas_view items) (length items) (pairs_view ps)) r
    places_clash before mid after items pair first second ps qs r h e v f t =
        let ss = schemas_view items in
        let k = length items in
        let start : left_at ss k (pairs_view ps) ≡ placing ss k (pairs_view qs) (join (schema_view first) (schema_view second)) =
        ap (λ l. left_at ss k (pairs_view l)) e ∙ ap (λ p. left_at ss k (p ∷ pairs_view qs)) v ∙ goes_placing ss k (schema_view first, schema_view second) (pairs_view qs) h in
        led (leads_on (leads_by start) (leads_as (strict_leads (placing ss k (pairs_view qs)) (placing_noted ss k (pairs_view qs)) (found_leads None f)) (none_placed ss k (pairs_view qs)))) t
