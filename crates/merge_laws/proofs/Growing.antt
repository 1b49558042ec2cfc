-- With more steps an outcome other than Depth stays: each definition keeps it that is made of merges of parts.
use Rattle.std.proofs.Common.{◌≡◌, ℕ, zero, suc, ◌≤◌, List, [], ◌∷◌, ◌++◌, Bool, true, false, ◌&&◌, ◌||◌, Option, Some, None, ◌⊎◌, inl, inr, refl, sym, subst, bytes_eq, arith}
use Rattle.std.specs.Prelude.{not, nat_le, if◌then◌else◌}
use Rattle.json_value.specs.Value.{null}
use Rattle.schema_defs.specs.Location.{Location}
use Rattle.schema_defs.specs.declared.InstanceType.TheVariants.{Object, Array, Text, Integer}
use Rattle.schema_defs.specs.Schema.{Types, Numbers, Texts, ListRules, Plain, Schema, boolean, object, Same, no_same, same_value, Lists, no_lists, lists, Named, no_named, named, MaybeSchema, no_schema, the_schema, MaybeSchemas, no_list, the_list, Schemas, no_more, schema, schema_list, Places, no_items, each_item, by_place, Properties, no_properties, property, Document}
use Rattle.schema_defs.specs.Layer.{property_at}
use Rattle.schema_defs.specs.Admits.{target, counts_as_absent}
use Rattle.enum_defs.specs.Words.{is_name, names_of}
use Rattle.enum_defs.specs.Exclusive.{exclusive}
use Rattle.merge_defs.specs.Outcome.{Outcome, fault, never, answer, depth, unsupported, subtracting, conditional, any_one, pattern_names, Note, note_if, both_ways, of_names, of_clash, of_subtract, noted, and_then, mapped, never_unless, or_else, where_both}
use Rattle.merge_defs.specs.Leaves.{two_types, two_formats, two_numbers, two_texts, two_lists, values_of, is_only}
use Rattle.merge_defs.specs.Arrays.{End, at_most, at_clash, goes_on, Merged, nothing_more, put, pairs, is_full, Front, ended_at, at_place, by_places, rest_of, ending, placed, each_of_both, two_places, or_true, two_contains, two_rules, with_front, two_lists_parts}
use Rattle.merge_defs.specs.Objects.{no_plain, all_names, is_false, no_rest, put_property, unsaid_at, absent_notes, or_false, two_rests, schema_of_both, properties_of, joined_members, two_member_rules, has_patterns, unless_mixed, names_mix, kept_if, two_named}
use Rattle.merge_defs.specs.Members.{fate, with_fate, fates, finish_any, finish_one, stand_both, refused, with_each, with_all, without, with_any, with_one, with_same, lost_sizes}
use Rattle.merge_defs.specs.Less.{less_values, less_property, less_name, less_properties, unless_needed, less_named, turned_outcome, merge_from, merge_schemas, less_each, less_merged, less_any, less_not, less_all, less_same, subschema_count, is_conditional}
use Rattle.merge_defs.specs.Merge.{drops_siblings, reference_to, stands_for_target, target_merged, tidied, body, two_objects, with_subschemas_layer, by_references, join_layer, is_exact, less_object, less_layer, Merger, below, join, less, merge_all, with_subschemas}
use Rattle.merge_laws.specs.MoreSteps.{Stays, MoreStepsStay}

-- ---- outcomes

-- Q is the walks with which Depth may give way to another outcome
module _ (Q : List Location → Type 0) where
  -- Depth stays, or is one that Q allows; or both are the same
  abbrev pub Ties : {A : Type 0} → Outcome A → Outcome A → Type 0
  Ties (fault (depth w)) o = Q w ⊎ (o ≡ fault (depth w))
  Ties (fault (unsupported u)) o = o ≡ fault (unsupported u)
  Ties (never ns) o = o ≡ never ns
  Ties (answer ns a) o = o ≡ answer ns a

  pub itself : {A : Type 0} (o : Outcome A) → Ties o o
  itself (fault (depth w)) = inr refl
  itself (fault (unsupported u)) = refl
  itself (never ns) = refl
  itself (answer ns a) = refl

  -- two that take Depth to Depth, and the second of which stays by the first
  under : {A B : Type 0} (f g : Outcome A → Outcome B) → ((w : List Location) → f (fault (depth w)) ≡ fault (depth w)) → ((o : Outcome A) → Ties (f o) (g o)) → (o u : Outcome A) → Ties o u → Ties (f o) (g u)
  under f g e k (fault (depth w)) u (inl q) = subst (λ x. Ties x (g u)) (sym (e w)) (inl q)
  under f g e k (fault (depth w)) u (inr i) = subst (λ z. Ties (f (fault (depth w))) (g z)) (sym i) (k (fault (depth w)))
  under f g e k (fault (unsupported x)) u h = subst (λ z. Ties (f (fault (unsupported x))) (g z)) (sym h) (k (fault (unsupported x)))
  under f g e k (never ns) u h = subst (λ z. Ties (f (never ns)) (g z)) (sym h) (k (never ns))
  under f g e k (answer ns a) u h = subst (λ z. Ties (f (answer ns a)) (g z)) (sym h) (k (answer ns a))

  alone : {A B : Type 0} (f : Outcome A → Outcome B) → ((w : List Location) → f (fault (depth w)) ≡ fault (depth w)) → (o u : Outcome A) → Ties o u → Ties (f o) (f u)
  alone f e o u h = under f f e (λ o. itself (f o)) o u h

  with_notes : {A : Type 0} (ns : List Note) (o u : Outcome A) → Ties o u → Ties (noted ns o) (noted ns u)
  with_notes ns o u h = alone (noted ns) (λ w. refl) o u h

  pub through : {A B : Type 0} (f : A → B) (o u : Outcome A) → Ties o u → Ties (mapped f o) (mapped f u)
  through f o u h = alone (mapped f) (λ w. refl) o u h

  after : {A B : Type 0} (o : Outcome A) (k l : A → Outcome B) → ((a : A) → Ties (k a) (l a)) → Ties (and_then o k) (and_then o l)
  after (fault f) k l h = itself (fault f)
  after (never ns) k l h = itself (never ns)
  after (answer ns a) k l h = with_notes ns (k a) (l a) (h a)

  next : {A B : Type 0} (o u : Outcome A) (k l : A → Outcome B) → Ties o u → ((a : A) → Ties (k a) (l a)) → Ties (and_then o k) (and_then u l)
  next o u k l h i = under (λ o. and_then o k) (λ o. and_then o l) (λ w. refl) (λ o. after o k l i) o u h

  either_way : {A : Type 0} (b : Bool) (o u p q : Outcome A) → Ties o p → Ties u q → Ties (if b then o else u) (if b then p else q)
  either_way true o u p q h i = h
  either_way false o u p q h i = i

  module _ (join' join'' : Schema → Schema → Outcome Schema) (more : (a b : Schema) → Ties (join' a b) (join'' a b)) where
    -- ---- the keywords of lists

    module _ (array : Bool) (c : ListRules) where
      place_stays : (k : ℕ) (o u : Outcome Schema) (f g : ℕ → Outcome Merged) → Ties o u → ((n : ℕ) → Ties (f n) (g n)) → Ties (at_place join' array c k o f) (at_place join'' array c k u g)
      place_stays k o u f g h i = under (λ o. at_place join' array c k o f) (λ o. at_place join'' array c k o g) (λ w. refl) at o u h
        where
          at : (o : Outcome Schema) → Ties (at_place join' array c k o f) (at_place join'' array c k o g)
          at (fault e) = itself (fault e)
          at (never ns) = itself (at_place join' array c k (never ns) f)
          at (answer ns s) = with_notes ns (mapped (put s) (f (suc k))) (mapped (put s) (g (suc k))) (through (put s) (f (suc k)) (g (suc k)) (i (suc k)))

      places_stay : (ps : List (Schema × Schema)) (k : ℕ) → Ties (by_places join' array c k ps) (by_places join'' array c k ps)
      places_stay [] k = refl
      places_stay (p ∷ ps) k = cases (λ n. places_stay ps n) (is_full c.max_items k)
        where
          cases : ((n : ℕ) → Ties (by_places join' array c n ps) (by_places join'' array c n ps)) → (b : Bool) → Ties (elim b [ true ↦ answer [] (nothing_more at_most) | false ↦ at_place join' array c k (join' p.0 p.1) (λ n. by_places join' array c n ps) ])
              (elim b [ true ↦ answer [] (nothing_more at_most) | false ↦ at_place join'' array c k (join'' p.0 p.1) (λ n. by_places join'' array c n ps) ])
          cases later true = refl
          cases later false = place_stays k (join' p.0 p.1) (join'' p.0 p.1) (λ n. by_places join' array c n ps) (λ n. by_places join'' array c n ps) (more p.0 p.1) later

      ending_stays : (b : Bool) (o u : Outcome Schema) (m : Merged) → Ties o u → Ties (ending join' array c b o m) (ending join'' array c b u m)
      ending_stays b o u m h = cases m.end
        where
          cases : (e : End) → Ties {A = Front}
              (elim e [
                | goes_on ↦ mapped (λ r. record { places = by_place m.items; rest = r; max_items = c.max_items }) (rest_of join' array c b o)
                | at_most ↦ answer [] (record { places = by_place m.items; rest = no_schema; max_items = c.max_items })
                | at_clash k ↦ answer [] (record { places = by_place m.items; rest = no_schema; max_items = ended_at k c.max_items })
              ])
              (elim e [
                | goes_on ↦ mapped (λ r. record { places = by_place m.items; rest = r; max_items = c.max_items }) (rest_of join'' array c b u)
                | at_most ↦ answer [] (record { places = by_place m.items; rest = no_schema; max_items = c.max_items })
                | at_clash k ↦ answer [] (record { places = by_place m.items; rest = no_schema; max_items = ended_at k c.max_items })
              ])
          cases goes_on = alone (λ o. mapped (λ r. record { places = by_place m.items; rest = r; max_items = c.max_items }) (rest_of join' array c b o)) (λ w. refl) o u h
          cases at_most = refl
          cases (at_clash k) = refl

      placed_stay : (b : Bool) (ss : Schemas) (x : Schema) (ts : Schemas) (y : Schema) → Ties (placed join' array c b ss x ts y) (placed join'' array c b ss x ts y)
      placed_stay b ss x ts y = next (by_places join' array c 0 (pairs ss x ts y)) (by_places join'' array c 0 (pairs ss x ts y)) (λ m. ending join' array c b (join' x y) m) (λ m. ending join'' array c b (join'' x y) m)
          (places_stay (pairs ss x ts y) 0) (λ m. ending_stays b (join' x y) (join'' x y) m (more x y))

      two_places_stay : (p : Places) (x : MaybeSchema) (q : Places) (y : MaybeSchema) → Ties (two_places join' array c p x q y) (two_places join'' array c p x q y)
      two_places_stay no_items x q y = refl
      two_places_stay (each_item s) x no_items y = refl
      two_places_stay (by_place ss) x no_items y = itself (two_places join' array c (by_place ss) x no_items y)
      two_places_stay (each_item s) x (each_item t) y = alone (each_of_both join' array c) (λ w. refl) (join' s t) (join'' s t) (more s t)
      two_places_stay (each_item s) x (by_place ts) y = placed_stay false ts (or_true y) no_more s
      two_places_stay (by_place ss) x (each_item t) y = placed_stay false ss (or_true x) no_more t
      two_places_stay (by_place ss) x (by_place ts) y = placed_stay true ss (or_true x) ts (or_true y)

    lists_stay : (array : Bool) (ls ms : Lists) → Ties (two_lists_parts join' array ls ms) (two_lists_parts join'' array ls ms)
    lists_stay array no_lists ms = refl
    lists_stay array (lists p x a c) no_lists = refl
    lists_stay array (lists p x a c) (lists q y b d) =
        after (two_contains a b)
        (λ contains. and_then (two_rules array c d) (λ sizes. mapped (with_front contains sizes) (two_places join' array sizes p x q y)))
        (λ contains. and_then (two_rules array c d) (λ sizes. mapped (with_front contains sizes) (two_places join'' array sizes p x q y)))
        (λ contains. after (two_rules array c d) (λ sizes. mapped (with_front contains sizes) (two_places join' array sizes p x q y)) (λ sizes. mapped (with_front contains sizes) (two_places join'' array sizes p x q y))
        (λ sizes. through (with_front contains sizes) (two_places join' array sizes p x q y) (two_places join'' array sizes p x q y) (two_places_stay array sizes p x q y)))

    -- ---- the keywords of members

    or_false_stays : (s t : Schema) → Ties (or_false join' s t) (or_false join'' s t)
    or_false_stays s t = alone (or_else (boolean false)) (λ w. refl) (join' s t) (join'' s t) (more s t)

    rests_stay : (x y : MaybeSchema) → Ties (two_rests join' x y) (two_rests join'' x y)
    rests_stay no_schema y = refl
    rests_stay (the_schema s) no_schema = refl
    rests_stay (the_schema s) (the_schema t) = through the_schema (or_false join' s t) (or_false join'' s t) (or_false_stays s t)

    schema_stays : (p x q y : MaybeSchema) → Ties (schema_of_both join' p x q y) (schema_of_both join'' p x q y)
    schema_stays no_schema x no_schema y = refl
    schema_stays (the_schema s) x no_schema y = refl
    schema_stays no_schema x (the_schema t) y = refl
    schema_stays (the_schema s) x (the_schema t) y = or_false_stays s t

    put_stays : (object_type needed closed : Bool) (unsaid : List Note) (n : List ℕ) (s : Schema) (o u : Outcome Properties) → Ties o u → Ties (put_property object_type needed closed unsaid n s o) (put_property object_type needed closed unsaid n s u)
    put_stays object_type needed closed unsaid n s o u h =
        either_way (is_false s && needed) (and_then o (λ ps. never_unless object_type of_clash)) (if is_false s && closed then noted unsaid o else mapped (property n s) o) (and_then u (λ ps. never_unless object_type of_clash)) (if is_false s && closed then noted unsaid u else mapped (property n s) u)
        (alone (λ o. and_then o (λ ps. never_unless object_type of_clash)) (λ w. refl) o u h)
        (either_way (is_false s && closed) (noted unsaid o) (mapped (property n s) o) (noted unsaid u) (mapped (property n s) u) (with_notes unsaid o u h) (through (property n s) o u h))

    properties_stay : (ps : Properties) (x : MaybeSchema) (qs : Properties) (y : MaybeSchema) (nulls object_type closed : Bool) (needed : List (List ℕ)) (ns : List (List ℕ))
        → Ties (properties_of join' ps x qs y nulls object_type closed needed ns) (properties_of join'' ps x qs y nulls object_type closed needed ns)
    properties_stay ps x qs y nulls object_type closed needed [] = refl
    properties_stay ps x qs y nulls object_type closed needed (n ∷ ns) =
        next (schema_of_both join' (property_at n ps) x (property_at n qs) y) (schema_of_both join'' (property_at n ps) x (property_at n qs) y)
        (λ s. put_property object_type (is_name n needed) closed (unsaid_at nulls ps x qs y n) n s (properties_of join' ps x qs y nulls object_type closed needed ns))
        (λ s. put_property object_type (is_name n needed) closed (unsaid_at nulls ps x qs y n) n s (properties_of join'' ps x qs y nulls object_type closed needed ns))
        (schema_stays (property_at n ps) x (property_at n qs) y)
        (λ s. put_stays object_type (is_name n needed) closed (unsaid_at nulls ps x qs y n) n s (properties_of join' ps x qs y nulls object_type closed needed ns) (properties_of join'' ps x qs y nulls object_type closed needed ns)
        (properties_stay ps x qs y nulls object_type closed needed ns))

    named_stay : (nulls object_type : Bool) (ns os : Named) → Ties (two_named join' nulls object_type ns os) (two_named join'' nulls object_type ns os)
    named_stay nulls object_type no_named os = refl
    named_stay nulls object_type (named ps pp x xn c) no_named = refl
    named_stay nulls object_type (named ps pp x xn c) (named qs qq y yn d) =
        alone (λ o. noted (note_if nulls (absent_notes ps x c qs y d)) (noted (note_if (has_patterns pp xn || has_patterns qq yn) (both_ways of_names)) (mapped (kept_if (has_patterns pp xn || has_patterns qq yn)) o))) (λ w. refl)
        (made join') (made join'')
        (next (two_rests join' x y) (two_rests join'' x y) (later join') (later join'') (rests_stay x y)
        (λ rest. next (props join' rest) (props join'' rest) (rules rest) (rules rest)
        (properties_stay ps x qs y nulls object_type (no_rest rest) (joined_members c d).required (all_names (names_of ps) (names_of qs)))
        (λ ps. itself (rules rest ps))))
      where
        props : (Schema → Schema → Outcome Schema) → MaybeSchema → Outcome Properties
        props j rest = properties_of j ps x qs y nulls object_type (no_rest rest) (joined_members c d).required (all_names (names_of ps) (names_of qs))

        rules : MaybeSchema → Properties → Outcome Named
        rules rest ps = mapped (λ rules. named ps no_properties rest no_schema rules) (two_member_rules object_type c d)

        later : (Schema → Schema → Outcome Schema) → MaybeSchema → Outcome Named
        later j rest = and_then (props j rest) (rules rest)

        made : (Schema → Schema → Outcome Schema) → Outcome Named
        made j = and_then (two_rests j x y) (later j)

    -- ---- members of anyOf and oneOf

    fates_stay : (body : Schema) (before after : List Schema) → Ties (fates join' body before after) (fates join'' body before after)
    fates_stay body before [] = refl
    fates_stay body before (m ∷ ms) =
        next (fate body m (before ++ ms) (join' body m)) (fate body m (before ++ ms) (join'' body m)) (λ f. mapped (with_fate f) (fates join' body (before ++ (m ∷ [])) ms)) (λ f. mapped (with_fate f) (fates join'' body (before ++ (m ∷ [])) ms))
        (alone (fate body m (before ++ ms)) (λ w. refl) (join' body m) (join'' body m) (more body m))
        (λ f. through (with_fate f) (fates join' body (before ++ (m ∷ [])) ms) (fates join'' body (before ++ (m ∷ [])) ms) (fates_stay body (before ++ (m ∷ [])) ms))

    module _ (less' less'' : Schema → Schema → Outcome Schema) (fewer : (a b : Schema) → Ties (less' a b) (less'' a b)) where
      -- ---- several merges, and several taken away

      from_stays : (ss : Schemas) (s : Schema) → Ties (merge_from join' less' s ss) (merge_from join'' less'' s ss)
      from_stays no_more s = refl
      from_stays (schema t ts) s = next (join' s t) (join'' s t) (λ m. merge_from join' less' m ts) (λ m. merge_from join'' less'' m ts) (more s t) (λ m. from_stays ts m)

      pub schemas_stay : (ss : Schemas) → Ties (merge_schemas join' less' ss) (merge_schemas join'' less'' ss)
      schemas_stay no_more = refl
      schemas_stay (schema s ss) = from_stays ss s

      each_less_stays : (ss : Schemas) (s : Schema) → Ties (less_each join' less' ss s) (less_each join'' less'' ss s)
      each_less_stays no_more s = refl
      each_less_stays (schema t ts) s = next (less' s t) (less'' s t) (less_each join' less' ts) (less_each join'' less'' ts) (fewer s t) (each_less_stays ts)

      merged_less_stays : (s : Schema) (o u : Outcome Schema) → Ties o u → Ties (less_merged join' less' s o) (less_merged join'' less'' s u)
      merged_less_stays s o u h = under (less_merged join' less' s) (less_merged join'' less'' s) (λ w. refl) at o u h
        where
          at : (o : Outcome Schema) → Ties (less_merged join' less' s o) (less_merged join'' less'' s o)
          at (fault e) = itself (fault e)
          at (never ns) = refl
          at (answer ns m) = with_notes ns (less' s m) (less'' s m) (fewer s m)

      any_less_stays : (any : MaybeSchemas) (s : Schema) → Ties (less_any join' less' any s) (less_any join'' less'' any s)
      any_less_stays no_list s = refl
      any_less_stays (the_list ss) s = each_less_stays ss s

      not_less_stays : (none : MaybeSchema) (s : Schema) → Ties (less_not join' less' none s) (less_not join'' less'' none s)
      not_less_stays no_schema s = refl
      not_less_stays (the_schema t) s = more s t

      all_less_stays : (all : MaybeSchemas) (s : Schema) → Ties (less_all join' less' all s) (less_all join'' less'' all s)
      all_less_stays no_list s = refl
      all_less_stays (the_list ss) s = merged_less_stays s (turned_outcome (merge_schemas join' less' ss)) (turned_outcome (merge_schemas join'' less'' ss))
          (alone turned_outcome (λ w. refl) (merge_schemas join' less' ss) (merge_schemas join'' less'' ss) (schemas_stay ss))

      same_less_stays : (ss : Same) (s : Schema) → Ties (less_same join' less' ss s) (less_same join'' less'' ss s)
      same_less_stays no_same s = refl
      same_less_stays (same_value all any one none c) s =
          next (less_any join' less' any s) (less_any join'' less'' any s) (λ t. and_then (less_not join' less' none t) (less_all join' less' all)) (λ t. and_then (less_not join'' less'' none t) (less_all join'' less'' all))
          (any_less_stays any s)
          (λ t. next (less_not join' less' none t) (less_not join'' less'' none t) (less_all join' less' all) (less_all join'' less'' all) (not_less_stays none t) (all_less_stays all))

      -- ---- properties taken away

      property_less_stays : (p q : MaybeSchema) → Ties (less_property less' p q) (less_property less'' p q)
      property_less_stays (the_schema s) (the_schema t) = alone (or_else (boolean false)) (λ w. refl) (less' s t) (less'' s t) (fewer s t)
      property_less_stays (the_schema s) no_schema = refl
      property_less_stays no_schema q = refl

      name_less_stays : (b : Bool) (p q : MaybeSchema) → Ties (less_name less' b p q) (less_name less'' b p q)
      name_less_stays true p no_schema = refl
      name_less_stays true p (the_schema t) = property_less_stays p (the_schema t)
      name_less_stays false p q = property_less_stays p q

      properties_less_stay : (ps qs : Properties) (needed ns : List (List ℕ)) → Ties (less_properties less' ps qs needed ns) (less_properties less'' ps qs needed ns)
      properties_less_stay ps qs needed [] = refl
      properties_less_stay ps qs needed (n ∷ ns) =
          next (less_name less' (is_name n needed) (property_at n ps) (property_at n qs)) (less_name less'' (is_name n needed) (property_at n ps) (property_at n qs))
          (λ s. mapped (property n s) (less_properties less' ps qs needed ns)) (λ s. mapped (property n s) (less_properties less'' ps qs needed ns))
          (name_less_stays (is_name n needed) (property_at n ps) (property_at n qs))
          (λ s. through (property n s) (less_properties less' ps qs needed ns) (less_properties less'' ps qs needed ns) (properties_less_stay ps qs needed ns))

      named_less_stays : (ns os : Named) → Ties (less_named less' ns os) (less_named less'' ns os)
      named_less_stays no_named os = refl
      named_less_stays (named ps pp x xn c) no_named = refl
      named_less_stays (named ps pp x xn c) (named qs qq y yn d) =
          alone (λ o. mapped (λ props. named props pp x xn c) (and_then o (unless_needed less' c.required))) (λ w. refl)
          (less_properties less' ps qs d.required (all_names (names_of ps) (all_names (names_of qs) d.required))) (less_properties less'' ps qs d.required (all_names (names_of ps) (all_names (names_of qs) d.required)))
          (properties_less_stay ps qs d.required (all_names (names_of ps) (all_names (names_of qs) d.required)))

      module _ (d : Document) where
        -- ---- the subschemas of a side

        each_stays : (ss : Schemas) (body : Schema) → Ties (with_each d join' less' ss body) (with_each d join'' less'' ss body)
        each_stays no_more body = refl
        each_stays (schema s ss) body = next (join' body s) (join'' body s) (with_each d join' less' ss) (with_each d join'' less'' ss) (more body s) (each_stays ss)

        all_stay : (all : MaybeSchemas) (body : Schema) → Ties (with_all d join' less' all body) (with_all d join'' less'' all body)
        all_stay no_list body = refl
        all_stay (the_list ss) body = each_stays ss body

        without_stays : (none : MaybeSchema) (body : Schema) → Ties (without d join' less' none body) (without d join'' less'' none body)
        without_stays no_schema body = refl
        without_stays (the_schema s) body = fewer body s

        any_stays : (any : MaybeSchemas) (body : Schema) → Ties (with_any d join' less' any body) (with_any d join'' less'' any body)
        any_stays no_list body = refl
        any_stays (the_list ss) body = alone (λ o. and_then o (finish_any (exclusive d (schema_list ss)))) (λ w. refl) (fates join' body [] (schema_list ss)) (fates join'' body [] (schema_list ss)) (fates_stay body [] (schema_list ss))

        one_stays : (one : MaybeSchemas) (body : Schema) → Ties (with_one d join' less' one body) (with_one d join'' less'' one body)
        one_stays no_list body = refl
        one_stays (the_list ss) body = alone (λ o. and_then o (finish_one (exclusive d (schema_list ss)))) (λ w. refl) (fates join' body [] (schema_list ss)) (fates join'' body [] (schema_list ss)) (fates_stay body [] (schema_list ss))

        same_stays : (ss : Same) (body : Schema) → Ties (with_same d join' less' ss body) (with_same d join'' less'' ss body)
        same_stays no_same body = refl
        same_stays (same_value all any one none c) body =
            next (with_all d join' less' all body) (with_all d join'' less'' all body)
            (λ b. and_then (without d join' less' none b) (λ b'. and_then (with_any d join' less' any b') (with_one d join' less' one))) (λ b. and_then (without d join'' less'' none b) (λ b'. and_then (with_any d join'' less'' any b') (with_one d join'' less'' one)))
            (all_stay all body)
            (λ b. next (without d join' less' none b) (without d join'' less'' none b) (λ b'. and_then (with_any d join' less' any b') (with_one d join' less' one)) (λ b'. and_then (with_any d join'' less'' any b') (with_one d join'' less'' one))
            (without_stays none b)
            (λ b'. next (with_any d join' less' any b') (with_any d join'' less'' any b') (with_one d join' less' one) (with_one d join'' less'' one) (any_stays any b') (one_stays one)))

        refused_stays : (ss : Same) (o u : Outcome Schema) → Ties o u → Ties (refused ss o) (refused ss u)
        refused_stays no_same o u h = h
        refused_stays (same_value all any one none c) o u h =
            either_way c (fault (unsupported conditional)) (if stand_both any one then fault (unsupported any_one) else o) (fault (unsupported conditional)) (if stand_both any one then fault (unsupported any_one) else u)
            refl (either_way (stand_both any one) (fault (unsupported any_one)) o (fault (unsupported any_one)) u refl h)

        -- ---- objects

        body_stays : (p : Plain) (ls : Lists) (ns : Named) (q : Plain) (ms : Lists) (os : Named) → Ties (body d join' less' p ls ns q ms os) (body d join'' less'' p ls ns q ms os)
        body_stays p ls ns q ms os =
            after (where_both two_types p.types q.types) (k1 join') (k1 join'') (λ t.
            after (where_both two_formats p.format q.format) (k2 join' t) (k2 join'' t) (λ f.
            after (where_both (two_numbers (is_only Integer t)) p.numbers q.numbers) (k3 join' t f) (k3 join'' t f) (λ n.
            after (where_both (two_texts (is_only Text t)) p.texts q.texts) (k4 join' t f n) (k4 join'' t f n) (λ x.
            next (two_lists_parts join' (is_only Array t) ls ms) (two_lists_parts join'' (is_only Array t) ls ms) (k5 join' t f n x) (k5 join'' t f n x) (lists_stay (is_only Array t) ls ms) (λ l.
            next (two_named join' (counts_as_absent d.setting null) (is_only Object t) ns os) (two_named join'' (counts_as_absent d.setting null) (is_only Object t) ns os) (k6 t f n x l) (k6 t f n x l)
            (named_stay (counts_as_absent d.setting null) (is_only Object t) ns os) (λ m. itself (k6 t f n x l m)))))))
          where
            k6 : Option Types → Option (List ℕ) → Option Numbers → Option Texts → Lists → Named → Outcome Schema
            k6 t f n x l m = mapped (λ values. object (record no_plain { types = t; format = f; numbers = n; texts = x; enum_values = values }) no_same l m) (where_both two_lists (values_of p) (values_of q))

            k5 : (Schema → Schema → Outcome Schema) → Option Types → Option (List ℕ) → Option Numbers → Option Texts → Lists → Outcome Schema
            k5 j t f n x l = and_then (two_named j (counts_as_absent d.setting null) (is_only Object t) ns os) (k6 t f n x l)

            k4 : (Schema → Schema → Outcome Schema) → Option Types → Option (List ℕ) → Option Numbers → Option Texts → Outcome Schema
            k4 j t f n x = and_then (two_lists_parts j (is_only Array t) ls ms) (k5 j t f n x)

            k3 : (Schema → Schema → Outcome Schema) → Option Types → Option (List ℕ) → Option Numbers → Outcome Schema
            k3 j t f n = and_then (where_both (two_texts (is_only Text t)) p.texts q.texts) (k4 j t f n)

            k2 : (Schema → Schema → Outcome Schema) → Option Types → Option (List ℕ) → Outcome Schema
            k2 j t f = and_then (where_both (two_numbers (is_only Integer t)) p.numbers q.numbers) (k3 j t f)

            k1 : (Schema → Schema → Outcome Schema) → Option Types → Outcome Schema
            k1 j t = and_then (where_both two_formats p.format q.format) (k2 j t)

        objects_stay : (p : Plain) (ss : Same) (ls : Lists) (ns : Named) (q : Plain) (tt' : Same) (ms : Lists) (os : Named) → Ties (two_objects d join' less' p ss ls ns q tt' ms os) (two_objects d join'' less'' p ss ls ns q tt' ms os)
        objects_stay p ss ls ns q tt' ms os =
            refused_stays ss (refused tt' (unless_mixed (names_mix ns os) (whole join' less'))) (refused tt' (unless_mixed (names_mix ns os) (whole join'' less'')))
            (refused_stays tt' (unless_mixed (names_mix ns os) (whole join' less')) (unless_mixed (names_mix ns os) (whole join'' less''))
            (either_way (names_mix ns os) (fault (unsupported pattern_names)) (whole join' less') (fault (unsupported pattern_names)) (whole join'' less'') refl
            (next (body d join' less' p ls ns q ms os) (body d join'' less'' p ls ns q ms os) (first join' less') (first join'' less'') (body_stays p ls ns q ms os)
            (λ b. next (with_same d join' less' ss b) (with_same d join'' less'' ss b) (last join' less') (last join'' less'') (same_stays ss b)
            (λ b'. through tidied (with_same d join' less' tt' b') (with_same d join'' less'' tt' b') (same_stays tt' b'))))))
          where
            last : (Schema → Schema → Outcome Schema) → (Schema → Schema → Outcome Schema) → Schema → Outcome Schema
            last j l b' = mapped tidied (with_same d j l tt' b')

            first : (Schema → Schema → Outcome Schema) → (Schema → Schema → Outcome Schema) → Schema → Outcome Schema
            first j l b = and_then (with_same d j l ss b) (last j l)

            whole : (Schema → Schema → Outcome Schema) → (Schema → Schema → Outcome Schema) → Outcome Schema
            whole j l = and_then (body d j l p ls ns q ms os) (first j l)

        pub with_subschemas_stay : (b : Schema) (ss : Same) → Ties (with_subschemas_layer d join' less' b ss) (with_subschemas_layer d join'' less'' b ss)
        with_subschemas_stay b ss = refused_stays ss (mapped tidied (with_same d join' less' ss b)) (mapped tidied (with_same d join'' less'' ss b)) (through tidied (with_same d join' less' ss b) (with_same d join'' less'' ss b) (same_stays ss b))

        target_stays : (q : List ℕ) (o : Option Schema) (b : Schema) → Ties (target_merged q o (λ t. join' t b)) (target_merged q o (λ t. join'' t b))
        target_stays q None b = refl
        target_stays q (Some t) b = alone (λ o. and_then o (stands_for_target q t)) (λ w. refl) (join' t b) (join'' t b) (more t b)

        pub references_stay : (p : Plain) (ss : Same) (ls : Lists) (ns : Named) (q : Plain) (tt' : Same) (ms : Lists) (os : Named) (f g : Option (List ℕ))
            → Ties (by_references d join' less' p ss ls ns q tt' ms os f g) (by_references d join'' less'' p ss ls ns q tt' ms os f g)
        references_stay p ss ls ns q tt' ms os None None = objects_stay p ss ls ns q tt' ms os
        references_stay p ss ls ns q tt' ms os None (Some g) = with_notes (lost_sizes (drops_siblings q tt' ms os)) (target_merged g (target d g) (λ t. join' t (object p ss ls ns))) (target_merged g (target d g) (λ t. join'' t (object p ss ls ns)))
            (target_stays g (target d g) (object p ss ls ns))
        references_stay p ss ls ns q tt' ms os (Some f) None = with_notes (lost_sizes (drops_siblings p ss ls ns)) (target_merged f (target d f) (λ t. join' t (object q tt' ms os))) (target_merged f (target d f) (λ t. join'' t (object q tt' ms os)))
            (target_stays f (target d f) (object q tt' ms os))
        references_stay p ss ls ns q tt' ms os (Some f) (Some g) =
            either_way (bytes_eq f g) (answer (lost_sizes (drops_siblings p ss ls ns || drops_siblings q tt' ms os)) (reference_to f)) (noted (lost_sizes (drops_siblings p ss ls ns)) (target_merged f (target d f) (λ t. join' t (object q tt' ms os))))
            (answer (lost_sizes (drops_siblings p ss ls ns || drops_siblings q tt' ms os)) (reference_to f)) (noted (lost_sizes (drops_siblings p ss ls ns)) (target_merged f (target d f) (λ t. join'' t (object q tt' ms os))))
            refl
            (with_notes (lost_sizes (drops_siblings p ss ls ns)) (target_merged f (target d f) (λ t. join' t (object q tt' ms os))) (target_merged f (target d f) (λ t. join'' t (object q tt' ms os))) (target_stays f (target d f) (object q tt' ms os)))

        pub join_stays : (a b : Schema) → Ties (join_layer d join' less' a b) (join_layer d join'' less'' a b)
        join_stays (boolean false) b = refl
        join_stays (boolean true) b = refl
        join_stays (object p ss ls ns) (boolean false) = refl
        join_stays (object p ss ls ns) (boolean true) = refl
        join_stays (object p ss ls ns) (object q tt' ms os) = references_stay p ss ls ns q tt' ms os p.reference q.reference

        -- ---- taking away

        object_less_stays : (p : Plain) (ss : Same) (ls : Lists) (ns : Named) (q : Plain) (tt' : Same) (ms : Lists) (os : Named) → Ties (less_object d join' less' p ss ls ns q tt' ms os) (less_object d join'' less'' p ss ls ns q tt' ms os)
        object_less_stays p ss ls ns q tt' ms os =
            after (less_values p p.enum_values q.enum_values) (λ p'. and_then (less_named less' ns os) (λ ns'. less_same join' less' tt' (object p' ss ls ns'))) (λ p'. and_then (less_named less'' ns os) (λ ns'. less_same join'' less'' tt' (object p' ss ls ns')))
            (λ p'. next (less_named less' ns os) (less_named less'' ns os) (λ ns'. less_same join' less' tt' (object p' ss ls ns')) (λ ns'. less_same join'' less'' tt' (object p' ss ls ns')) (named_less_stays ns os)
            (λ ns'. same_less_stays tt' (object p' ss ls ns')))

        pub less_stays : (a b : Schema) → Ties (less_layer d join' less' a b) (less_layer d join'' less'' a b)
        less_stays a (boolean true) = refl
        less_stays a (boolean false) = refl
        less_stays (boolean false) (object q tt' ms os) = refl
        less_stays (boolean true) (object q tt' ms os) = refl
        less_stays (object p ss ls ns) (object q tt' ms os) =
            either_way (is_conditional ss || is_conditional tt') (fault (unsupported conditional)) (if nat_le 2 (subschema_count tt') then fault (unsupported subtracting) else left join' less') (fault (unsupported conditional)) (if nat_le 2 (subschema_count tt') then fault (unsupported subtracting) else left join'' less'') refl
            (either_way (nat_le 2 (subschema_count tt')) (fault (unsupported subtracting)) (left join' less') (fault (unsupported subtracting)) (left join'' less'') refl
            (with_notes notes (less_object d join' less' p ss ls ns q tt' ms os) (less_object d join'' less'' p ss ls ns q tt' ms os) (object_less_stays p ss ls ns q tt' ms os)))
          where
            notes : List Note
            notes = note_if (not (is_exact d join' less' p ns (object p ss ls ns) q tt' ms os (object q tt' ms os))) (both_ways of_subtract)

            left : (Schema → Schema → Outcome Schema) → (Schema → Schema → Outcome Schema) → Outcome Schema
            left j l = noted notes (less_object d j l p ss ls ns q tt' ms os)

-- ---- by the steps that are left

-- whatever the walk of Depth
stays : {A : Type 0} (o u : Outcome A) → Ties (λ w. Unit {0}) o u → Stays o u
stays (fault (depth w)) u h = tt
stays (fault (unsupported x)) u h = h
stays (never ns) u h = h
stays (answer ns a) u h = h

record Grows (a b : Merger) : Type 0 where
  joins : (s t : Schema) → Ties (λ w. Unit {0}) (a.join s t) (b.join s t)
  leaves : (s t : Schema) → Ties (λ w. Unit {0}) (a.less s t) (b.less s t)

grows : (d : Document) (m n : ℕ) → m ≤ n → Grows (below d m) (below d n)
grows d zero n h = record { joins = λ s t. inl tt; leaves = λ s t. inl tt }
grows d (suc m) zero h = absurd (omega (arith, h))
grows d (suc m) (suc n) h =
    let g : Grows (below d m) (below d n) = grows d m n (omega (arith, h)) in
    record {
      joins = join_stays (λ w. Unit {0}) (below d m).join (below d n).join g.joins (below d m).less (below d n).less g.leaves d;
      leaves = less_stays (λ w. Unit {0}) (below d m).join (below d n).join g.joins (below d m).less (below d n).less g.leaves d;
    }

pub more_steps_stay : MoreStepsStay
more_steps_stay d m n h =
    let g : Grows (below d m) (below d n) = grows d m n h in
    let joined : ((a b : Schema) → Ties (λ w. Unit {0}) (join d m a b) (join d n a b)) = join_stays (λ w. Unit {0}) (below d m).join (below d n).join g.joins (below d m).less (below d n).less g.leaves d in
    let left : ((a b : Schema) → Ties (λ w. Unit {0}) (less d m a b) (less d n a b)) = less_stays (λ w. Unit {0}) (below d m).join (below d n).join g.joins (below d m).less (below d n).less g.leaves d in
    record {
      joins = λ a b. stays (join d m a b) (join d n a b) (joined a b);
      leaves = λ a b. stays (less d m a b) (less d n a b) (left a b);
      with_all = λ b ss. stays (with_subschemas d m b ss) (with_subschemas d n b ss) (with_subschemas_stay (λ w. Unit {0}) (below d m).join (below d n).join g.joins (below d m).less (below d n).less g.leaves d b ss);
      gathers = λ ss. stays (merge_all d m ss) (merge_all d n ss) (schemas_stay (λ w. Unit {0}) (join d m) (join d n) joined (less d m) (less d n) left ss);
    }
