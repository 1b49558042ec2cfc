-- Each Depth of a merge by walks has a walk with more steps than are allowed, or there were too few levels.
use Rattle.std.proofs.Common.{◌≡◌, ℕ, zero, suc, List, [], ◌∷◌, ◌++◌, Bool, true, false, ◌&&◌, ◌||◌, not, Option, Some, None, ◌⊎◌, inl, inr, refl, bytes_eq}
use Rattle.std.specs.Prelude.{nat_lt, nat_le, filter, if◌then◌else◌}
use Rattle.json_value.specs.Value.{Value, null}
use Rattle.schema_defs.specs.Location.{Location}
use Rattle.schema_defs.specs.declared.InstanceType.TheVariants.{Object, Array, Text, Integer}
use Rattle.schema_defs.specs.Schema.{Types, Numbers, Texts, ListRules, Plain, Schema, boolean, object, Same, no_same, same_value, Lists, no_lists, lists, Named, no_named, named, MaybeSchema, no_schema, the_schema, MaybeSchemas, no_list, the_list, Schemas, no_more, schema, schema_list, Places, no_items, each_item, by_place, Properties, no_properties, property, Document}
use Rattle.schema_defs.specs.Layer.{property_at, is_listed}
use Rattle.schema_defs.specs.Admits.{target, target_location, counts_as_absent}
use Rattle.enum_defs.specs.Words.{is_name, names_of}
use Rattle.enum_defs.specs.Exclusive.{exclusive}
use Rattle.merge_defs.specs.Outcome.{Outcome, fault, never, answer, depth, unsupported, subtracting, conditional, any_one, pattern_names, Note, widened, has_way, note_if, both_ways, of_names, of_clash, of_subtract, noted, and_then, mapped, never_unless, or_else, where_both}
use Rattle.merge_defs.specs.Alike.{roughly, same_schemas}
use Rattle.merge_defs.specs.Leaves.{two_types, two_formats, two_numbers, two_texts, two_lists, values_of, is_only}
use Rattle.merge_defs.specs.Arrays.{End, at_most, at_clash, goes_on, Merged, nothing_more, put, pairs, is_full, Front, least_items, stands, ended_at, clash_at, at_place, by_places, rest_of, ending, placed, each_of_both, two_places, or_true, joined_rules, two_contains, two_rules, with_front, two_lists_parts}
use Rattle.merge_defs.specs.Leaves.{sizes_cross}
use Rattle.merge_defs.specs.Objects.{no_plain, all_names, is_false, no_rest, put_property, unsaid_at, absent_notes, or_false, two_rests, schema_of_both, properties_of, joined_members, two_member_rules, has_patterns, names_mix, kept_if, two_named}
use Rattle.merge_defs.specs.Members.{As, as_body, as_member, joined, left, loses, lost_sizes, stands_for, joint, fate, with_fate, fates, any_of, one_of, gathered, left_schemas, one_narrows, one_mixes, one_forgets, finish_any, finish_one, stand_both, refused, with_each, with_all, without, with_any, with_one, with_same}
use Rattle.merge_defs.specs.Less.{left_values, less_values, less_property, less_name, less_properties, unless_needed, less_named, turned_outcome, merge_from, merge_schemas, less_each, less_merged, less_any, less_not, less_all, less_same, subschema_count, is_conditional}
use Rattle.merge_defs.specs.Merge.{drops_siblings, reference_to, stands_for_target, target_merged, tidied, body, two_objects, with_subschemas_layer, by_references, is_exact, less_object, less_layer}
use Rattle.merge_walks.specs.Carried.{Walk, own_walk, on_walk, to_target, has_more_steps, opened, same_inside}
use Rattle.merge_walks.specs.Made.{longer, settled, on_made}
use Rattle.merge_walks.specs.Walked.{walk_of, walk_left, unless_deep, join_target, join_objects, join_sides, left_side, walked_join, walked_less, walked_with, parts_within, join_by_walks, less_by_walks}
use Rattle.merge_laws.specs.Bare.{HasNoFault}
use Rattle.merge_laws.proofs.Ending.{of_both, types, formats, numbers, texts, values}
use Rattle.walk_laws.specs.Levels.{DepthIsDeep, DepthHasItsWalk}

module _ (Q : List Location → Type 0) where
  -- Depth, where it comes, has a walk of Q
  abbrev pub Good : {A : Type 0} → Outcome A → Type 0
  Good (fault (depth w)) = Q w
  Good _ = Unit {0}

  -- ---- outcomes

  from_none : {A : Type 0} (o : Outcome A) → HasNoFault o → Good o
  from_none (fault f) h = absurd h
  from_none (never ns) h = tt
  from_none (answer ns a) h = tt

  with_notes : {A : Type 0} (ns : List Note) (o : Outcome A) → Good o → Good (noted ns o)
  with_notes ns (fault (depth w)) h = h
  with_notes ns (fault (unsupported u)) h = tt
  with_notes ns (never ms) h = tt
  with_notes ns (answer ms a) h = tt

  through : {A B : Type 0} (f : A → B) (o : Outcome A) → Good o → Good (mapped f o)
  through f (fault (depth w)) h = h
  through f (fault (unsupported u)) h = tt
  through f (never ms) h = tt
  through f (answer ms a) h = tt

  next : {A B : Type 0} (o : Outcome A) (k : A → Outcome B) → Good o → ((a : A) → Good (k a)) → Good (and_then o k)
  next (fault (depth w)) k h i = h
  next (fault (unsupported u)) k h i = tt
  next (never ns) k h i = tt
  next (answer ns a) k h i = with_notes ns (k a) (i a)

  instead : {A : Type 0} (a : A) (o : Outcome A) → Good o → Good (or_else a o)
  instead a (fault (depth w)) h = h
  instead a (fault (unsupported u)) h = tt
  instead a (never ns) h = tt
  instead a (answer ns b) h = tt

  either_way : {A : Type 0} (b : Bool) (o u : Outcome A) → Good o → Good u → Good (if b then o else u)
  either_way true o u h i = h
  either_way false o u h i = i

  module _ (join' : Schema → Schema → Outcome Schema) (joins : (a b : Schema) → Good (join' a b)) where
    -- ---- the keywords of lists

    module _ (array : Bool) (c : ListRules) where
      clash : (k : ℕ) → Good (clash_at join' array c k)
      clash k = either_way (nat_lt k (least_items c.min_items)) (never_unless (array && stands c.min_items) of_clash) (answer [] (nothing_more (at_clash k))) tt tt

      at : (k : ℕ) (o : Outcome Schema) (f : ℕ → Outcome Merged) → Good o → ((n : ℕ) → Good (f n)) → Good (at_place join' array c k o f)
      at k (fault (depth w)) f h i = h
      at k (fault (unsupported u)) f h i = tt
      at k (never ns) f h i = with_notes ns (clash_at join' array c k) (clash k)
      at k (answer ns s) f h i = with_notes ns (mapped (put s) (f (suc k))) (through (put s) (f (suc k)) (i (suc k)))

      places : (ps : List (Schema × Schema)) (k : ℕ) → Good (by_places join' array c k ps)
      places [] k = tt
      places (p ∷ ps) k = cases (λ n. places ps n) (is_full c.max_items k)
        where
          cases : ((n : ℕ) → Good (by_places join' array c n ps)) → (b : Bool) → Good {A = Merged} (elim b [ true ↦ answer [] (nothing_more at_most) | false ↦ at_place join' array c k (join' p.0 p.1) (λ n. by_places join' array c n ps) ])
          cases later true = tt
          cases later false = at k (join' p.0 p.1) (λ n. by_places join' array c n ps) (joins p.0 p.1) later

      rest : (b : Bool) (o : Outcome Schema) → Good o → Good (rest_of join' array c b o)
      rest b (fault (depth w)) h = h
      rest b (fault (unsupported u)) h = tt
      rest b (never ns) h = with_notes ns (if b then answer [] (the_schema (boolean false)) else never_unless false of_clash) (either_way b (answer [] (the_schema (boolean false))) (never_unless false of_clash) tt tt)
      rest b (answer ns s) h = tt

      ends : (b : Bool) (o : Outcome Schema) (m : Merged) → Good o → Good (ending join' array c b o m)
      ends b o m h = cases m.end
        where
          cases : (e : End) → Good {A = Front}
              (elim e [
                | goes_on ↦ mapped (λ r. record { places = by_place m.items; rest = r; max_items = c.max_items }) (rest_of join' array c b o)
                | at_most ↦ answer [] (record { places = by_place m.items; rest = no_schema; max_items = c.max_items })
                | at_clash k ↦ answer [] (record { places = by_place m.items; rest = no_schema; max_items = ended_at k c.max_items })
              ])
          cases goes_on = through (λ r. record { places = by_place m.items; rest = r; max_items = c.max_items }) (rest_of join' array c b o) (rest b o h)
          cases at_most = tt
          cases (at_clash k) = tt

      all_placed : (b : Bool) (ss : Schemas) (x : Schema) (ts : Schemas) (y : Schema) → Good (placed join' array c b ss x ts y)
      all_placed b ss x ts y = next (by_places join' array c 0 (pairs ss x ts y)) (λ m. ending join' array c b (join' x y) m) (places (pairs ss x ts y) 0) (λ m. ends b (join' x y) m (joins x y))

      each_good : (o : Outcome Schema) → Good o → Good (each_of_both join' array c o)
      each_good (fault (depth w)) h = h
      each_good (fault (unsupported u)) h = tt
      each_good (never ns) h = tt
      each_good (answer ns s) h = tt

      both_places : (p : Places) (x : MaybeSchema) (q : Places) (y : MaybeSchema) → Good (two_places join' array c p x q y)
      both_places no_items x q y = tt
      both_places (each_item s) x no_items y = tt
      both_places (by_place ss) x no_items y = tt
      both_places (each_item s) x (each_item t) y = each_good (join' s t) (joins s t)
      both_places (each_item s) x (by_place ts) y = all_placed false ts (or_true y) no_more s
      both_places (by_place ss) x (each_item t) y = all_placed false ss (or_true x) no_more t
      both_places (by_place ss) x (by_place ts) y = all_placed true ss (or_true x) ts (or_true y)

    contains_good : (a b : MaybeSchema) → Good (two_contains a b)
    contains_good no_schema b = tt
    contains_good (the_schema s) no_schema = tt
    contains_good (the_schema s) (the_schema t) = either_way (same_schemas s t) (answer [] (the_schema s)) (never_unless false of_clash) tt tt

    lists_good : (array : Bool) (ls ms : Lists) → Good (two_lists_parts join' array ls ms)
    lists_good array no_lists ms = tt
    lists_good array (lists p x a c) no_lists = tt
    lists_good array (lists p x a c) (lists q y b d) =
        next (two_contains a b) (λ contains. and_then (two_rules array c d) (λ sizes. mapped (with_front contains sizes) (two_places join' array sizes p x q y))) (contains_good a b)
        (λ contains. next (two_rules array c d) (λ sizes. mapped (with_front contains sizes) (two_places join' array sizes p x q y))
        (either_way (sizes_cross (joined_rules c d).min_items (joined_rules c d).max_items) (never_unless array of_clash) (answer [] (joined_rules c d)) tt tt)
        (λ sizes. through (with_front contains sizes) (two_places join' array sizes p x q y) (both_places array sizes p x q y)))

    -- ---- the keywords of members

    or_false_good : (s t : Schema) → Good (or_false join' s t)
    or_false_good s t = instead (boolean false) (join' s t) (joins s t)

    rests_good : (x y : MaybeSchema) → Good (two_rests join' x y)
    rests_good no_schema y = tt
    rests_good (the_schema s) no_schema = tt
    rests_good (the_schema s) (the_schema t) = through the_schema (or_false join' s t) (or_false_good s t)

    schema_good : (p x q y : MaybeSchema) → Good (schema_of_both join' p x q y)
    schema_good no_schema x no_schema y = tt
    schema_good (the_schema s) x no_schema y = tt
    schema_good no_schema x (the_schema t) y = tt
    schema_good (the_schema s) x (the_schema t) y = or_false_good s t

    put_good : (object_type needed closed : Bool) (unsaid : List Note) (n : List ℕ) (s : Schema) (o : Outcome Properties) → Good o → Good (put_property object_type needed closed unsaid n s o)
    put_good object_type needed closed unsaid n s o h =
        either_way (is_false s && needed) (and_then o (λ ps. never_unless object_type of_clash)) (if is_false s && closed then noted unsaid o else mapped (property n s) o) (next o (λ ps. never_unless object_type of_clash) h (λ ps. tt))
        (either_way (is_false s && closed) (noted unsaid o) (mapped (property n s) o) (with_notes unsaid o h) (through (property n s) o h))

    properties_good : (ps : Properties) (x : MaybeSchema) (qs : Properties) (y : MaybeSchema) (nulls object_type closed : Bool) (needed : List (List ℕ)) (ns : List (List ℕ)) → Good (properties_of join' ps x qs y nulls object_type closed needed ns)
    properties_good ps x qs y nulls object_type closed needed [] = tt
    properties_good ps x qs y nulls object_type closed needed (n ∷ ns) =
        next (schema_of_both join' (property_at n ps) x (property_at n qs) y) (λ s. put_property object_type (is_name n needed) closed (unsaid_at nulls ps x qs y n) n s (properties_of join' ps x qs y nulls object_type closed needed ns))
        (schema_good (property_at n ps) x (property_at n qs) y)
        (λ s. put_good object_type (is_name n needed) closed (unsaid_at nulls ps x qs y n) n s (properties_of join' ps x qs y nulls object_type closed needed ns) (properties_good ps x qs y nulls object_type closed needed ns))

    named_good : (nulls object_type : Bool) (ns os : Named) → Good (two_named join' nulls object_type ns os)
    named_good nulls object_type no_named os = tt
    named_good nulls object_type (named ps pp x xn c) no_named = tt
    named_good nulls object_type (named ps pp x xn c) (named qs qq y yn d) =
        with_notes (note_if nulls (absent_notes ps x c qs y d)) (noted (note_if (has_patterns pp xn || has_patterns qq yn) (both_ways of_names)) (mapped (kept_if (has_patterns pp xn || has_patterns qq yn)) made))
        (with_notes (note_if (has_patterns pp xn || has_patterns qq yn) (both_ways of_names)) (mapped (kept_if (has_patterns pp xn || has_patterns qq yn)) made)
        (through (kept_if (has_patterns pp xn || has_patterns qq yn)) made
        (next (two_rests join' x y) later (rests_good x y)
        (λ rest. next (props rest) (rules rest) (properties_good ps x qs y nulls object_type (no_rest rest) (joined_members c d).required (all_names (names_of ps) (names_of qs)))
        (λ ps. through (λ rules. named ps no_properties rest no_schema rules) (two_member_rules object_type c d) (either_way (sizes_cross (joined_members c d).min_properties (joined_members c d).max_properties) (never_unless object_type of_clash) (answer [] (joined_members c d)) tt tt))))))
      where
        props : MaybeSchema → Outcome Properties
        props rest = properties_of join' ps x qs y nulls object_type (no_rest rest) (joined_members c d).required (all_names (names_of ps) (names_of qs))

        rules : MaybeSchema → Properties → Outcome Named
        rules rest ps = mapped (λ rules. named ps no_properties rest no_schema rules) (two_member_rules object_type c d)

        later : MaybeSchema → Outcome Named
        later rest = and_then (props rest) (rules rest)

        made : Outcome Named
        made = and_then (two_rests join' x y) later

    -- ---- members of anyOf and oneOf

    stands_good : (how : As) (s merge : Schema) (ns : List Note) → Good (stands_for how s merge ns)
    stands_good how s merge ns = tt

    fate_good : (body m : Schema) (others : List Schema) (o : Outcome Schema) → Good o → Good (fate body m others o)
    fate_good body m others (fault (depth w)) h = h
    fate_good body m others (fault (unsupported u)) h = tt
    fate_good body m others (never ns) h = tt
    fate_good body m others (answer ns merge) h =
        either_way (roughly merge body) (stands_for as_body body merge ns) (if roughly merge m then stands_for as_member m merge ns else answer ns (left (record { how = joined; wider = has_way widened ns; schema = joint body m others }))) tt
        (either_way (roughly merge m) (stands_for as_member m merge ns) (answer ns (left (record { how = joined; wider = has_way widened ns; schema = joint body m others }))) tt tt)

    fates_good : (body : Schema) (before after : List Schema) → Good (fates join' body before after)
    fates_good body before [] = tt
    fates_good body before (m ∷ ms) =
        next (fate body m (before ++ ms) (join' body m)) (λ f. mapped (with_fate f) (fates join' body (before ++ (m ∷ [])) ms)) (fate_good body m (before ++ ms) (join' body m) (joins body m))
        (λ f. through (with_fate f) (fates join' body (before ++ (m ∷ [])) ms) (fates_good body (before ++ (m ∷ [])) ms))

    gathered_good : (f : List Schema → Schema) (ss : List Schema) → Good (gathered f ss)
    gathered_good f [] = tt
    gathered_good f (s ∷ []) = tt
    gathered_good f (s ∷ t ∷ ss) = tt

    module _ (less' : Schema → Schema → Outcome Schema) (takes : (a b : Schema) → Good (less' a b)) where
      -- ---- several merges, and several taken away

      from_good : (ss : Schemas) (s : Schema) → Good (merge_from join' less' s ss)
      from_good no_more s = tt
      from_good (schema t ts) s = next (join' s t) (λ m. merge_from join' less' m ts) (joins s t) (λ m. from_good ts m)

      pub schemas_good : (ss : Schemas) → Good (merge_schemas join' less' ss)
      schemas_good no_more = tt
      schemas_good (schema s ss) = from_good ss s

      less_each_good : (ss : Schemas) (s : Schema) → Good (less_each join' less' ss s)
      less_each_good no_more s = tt
      less_each_good (schema t ts) s = next (less' s t) (less_each join' less' ts) (takes s t) (less_each_good ts)

      turned_good : (o : Outcome Schema) → Good o → Good (turned_outcome o)
      turned_good (fault (depth w)) h = h
      turned_good (fault (unsupported u)) h = tt
      turned_good (never ns) h = tt
      turned_good (answer ns s) h = tt

      less_merged_good : (s : Schema) (o : Outcome Schema) → Good o → Good (less_merged join' less' s o)
      less_merged_good s (fault (depth w)) h = h
      less_merged_good s (fault (unsupported u)) h = tt
      less_merged_good s (never ns) h = tt
      less_merged_good s (answer ns m) h = with_notes ns (less' s m) (takes s m)

      less_any_good : (any : MaybeSchemas) (s : Schema) → Good (less_any join' less' any s)
      less_any_good no_list s = tt
      less_any_good (the_list ss) s = less_each_good ss s

      less_not_good : (none : MaybeSchema) (s : Schema) → Good (less_not join' less' none s)
      less_not_good no_schema s = tt
      less_not_good (the_schema t) s = joins s t

      less_all_good : (all : MaybeSchemas) (s : Schema) → Good (less_all join' less' all s)
      less_all_good no_list s = tt
      less_all_good (the_list ss) s = less_merged_good s (turned_outcome (merge_schemas join' less' ss)) (turned_good (merge_schemas join' less' ss) (schemas_good ss))

      less_same_good : (ss : Same) (s : Schema) → Good (less_same join' less' ss s)
      less_same_good no_same s = tt
      less_same_good (same_value all any one none c) s =
          next (less_any join' less' any s) (λ t. and_then (less_not join' less' none t) (less_all join' less' all)) (less_any_good any s)
          (λ t. next (less_not join' less' none t) (less_all join' less' all) (less_not_good none t) (less_all_good all))

      -- ---- what is taken from members

      property_good : (p q : MaybeSchema) → Good (less_property less' p q)
      property_good (the_schema s) (the_schema t) = instead (boolean false) (less' s t) (takes s t)
      property_good (the_schema s) no_schema = tt
      property_good no_schema q = tt

      name_good : (b : Bool) (p q : MaybeSchema) → Good (less_name less' b p q)
      name_good true p no_schema = tt
      name_good true p (the_schema t) = property_good p (the_schema t)
      name_good false p q = property_good p q

      less_properties_good : (ps qs : Properties) (needed ns : List (List ℕ)) → Good (less_properties less' ps qs needed ns)
      less_properties_good ps qs needed [] = tt
      less_properties_good ps qs needed (n ∷ ns) =
          next (less_name less' (is_name n needed) (property_at n ps) (property_at n qs)) (λ s. mapped (property n s) (less_properties less' ps qs needed ns)) (name_good (is_name n needed) (property_at n ps) (property_at n qs))
          (λ s. through (property n s) (less_properties less' ps qs needed ns) (less_properties_good ps qs needed ns))

      needed_good : (needed : List (List ℕ)) (ps : Properties) → Good (unless_needed less' needed ps)
      needed_good needed no_properties = tt
      needed_good needed (property n s ps) = either_way (is_false s && is_name n needed) (never []) (mapped (property n s) (unless_needed less' needed ps)) tt (through (property n s) (unless_needed less' needed ps) (needed_good needed ps))

      less_named_good : (ns os : Named) → Good (less_named less' ns os)
      less_named_good no_named os = tt
      less_named_good (named ps pp x xn c) no_named = tt
      less_named_good (named ps pp x xn c) (named qs qq y yn d) =
          through (λ props. named props pp x xn c) (and_then (less_properties less' ps qs d.required (all_names (names_of ps) (all_names (names_of qs) d.required))) (unless_needed less' c.required))
          (next (less_properties less' ps qs d.required (all_names (names_of ps) (all_names (names_of qs) d.required))) (unless_needed less' c.required) (less_properties_good ps qs d.required (all_names (names_of ps) (all_names (names_of qs) d.required))) (needed_good c.required))

      less_values_good : (p : Plain) (x y : Option (List Value)) → Good (less_values p x y)
      less_values_good p (Some vs) (Some ws) = go (filter (λ v. not (is_listed v ws)) vs)
        where
          go : (xs : List Value) → Good (left_values p xs)
          go [] = tt
          go (x ∷ xs) = tt
      less_values_good p None y = tt
      less_values_good p (Some vs) None = tt

      module _ (d : Document) where
        -- ---- the subschemas of a side

        with_each_good : (ss : Schemas) (b : Schema) → Good (with_each d join' less' ss b)
        with_each_good no_more b = tt
        with_each_good (schema s ss) b = next (join' b s) (with_each d join' less' ss) (joins b s) (with_each_good ss)

        with_all_good : (all : MaybeSchemas) (b : Schema) → Good (with_all d join' less' all b)
        with_all_good no_list b = tt
        with_all_good (the_list ss) b = with_each_good ss b

        without_good : (none : MaybeSchema) (b : Schema) → Good (without d join' less' none b)
        without_good no_schema b = tt
        without_good (the_schema s) b = takes b s

        with_any_good : (any : MaybeSchemas) (b : Schema) → Good (with_any d join' less' any b)
        with_any_good no_list b = tt
        with_any_good (the_list ss) b = next (fates join' b [] (schema_list ss)) (finish_any (exclusive d (schema_list ss))) (fates_good b [] (schema_list ss)) (λ k. with_notes _ (gathered any_of (left_schemas k.members)) (gathered_good any_of (left_schemas k.members)))

        with_one_good : (one : MaybeSchemas) (b : Schema) → Good (with_one d join' less' one b)
        with_one_good no_list b = tt
        with_one_good (the_list ss) b = next (fates join' b [] (schema_list ss)) (finish_one (exclusive d (schema_list ss))) (fates_good b [] (schema_list ss))
            (λ k. with_notes (note_if (one_narrows k) _) _ (with_notes (note_if (one_mixes (exclusive d (schema_list ss)) k || one_forgets (exclusive d (schema_list ss)) k) _) (gathered one_of (left_schemas k.members)) (gathered_good one_of (left_schemas k.members))))

        with_same_good : (ss : Same) (b : Schema) → Good (with_same d join' less' ss b)
        with_same_good no_same b = tt
        with_same_good (same_value all any one none c) b =
            next (with_all d join' less' all b) (λ b. and_then (without d join' less' none b) (λ b'. and_then (with_any d join' less' any b') (with_one d join' less' one))) (with_all_good all b)
            (λ b. next (without d join' less' none b) (λ b'. and_then (with_any d join' less' any b') (with_one d join' less' one)) (without_good none b)
            (λ b'. next (with_any d join' less' any b') (with_one d join' less' one) (with_any_good any b') (with_one_good one)))

        refused_good : (ss : Same) (o : Outcome Schema) → Good o → Good (refused ss o)
        refused_good no_same o h = h
        refused_good (same_value all any one none c) o h = either_way c (fault (unsupported conditional)) (if stand_both any one then fault (unsupported any_one) else o) tt (either_way (stand_both any one) (fault (unsupported any_one)) o tt h)

        -- ---- objects

        body_good : (p : Plain) (ls : Lists) (ns : Named) (q : Plain) (ms : Lists) (os : Named) → Good (body d join' less' p ls ns q ms os)
        body_good p ls ns q ms os =
            next (where_both two_types p.types q.types) k1 (from_none _ (of_both two_types types p.types q.types)) (λ t.
            next (where_both two_formats p.format q.format) (k2 t) (from_none _ (of_both two_formats formats p.format q.format)) (λ f.
            next (where_both (two_numbers (is_only Integer t)) p.numbers q.numbers) (k3 t f) (from_none _ (of_both (two_numbers (is_only Integer t)) (numbers (is_only Integer t)) p.numbers q.numbers)) (λ n.
            next (where_both (two_texts (is_only Text t)) p.texts q.texts) (k4 t f n) (from_none _ (of_both (two_texts (is_only Text t)) (texts (is_only Text t)) p.texts q.texts)) (λ x.
            next (two_lists_parts join' (is_only Array t) ls ms) (k5 t f n x) (lists_good (is_only Array t) ls ms) (λ l.
            next (two_named join' (counts_as_absent d.setting null) (is_only Object t) ns os) (k6 t f n x l) (named_good (counts_as_absent d.setting null) (is_only Object t) ns os) (λ m.
            through (λ values. object (record no_plain { types = t; format = f; numbers = n; texts = x; enum_values = values }) no_same l m) (where_both two_lists (values_of p) (values_of q)) (from_none _ (of_both two_lists values (values_of p) (values_of q)))))))))
          where
            k6 : Option Types → Option (List ℕ) → Option Numbers → Option Texts → Lists → Named → Outcome Schema
            k6 t f n x l m = mapped (λ values. object (record no_plain { types = t; format = f; numbers = n; texts = x; enum_values = values }) no_same l m) (where_both two_lists (values_of p) (values_of q))

            k5 : Option Types → Option (List ℕ) → Option Numbers → Option Texts → Lists → Outcome Schema
            k5 t f n x l = and_then (two_named join' (counts_as_absent d.setting null) (is_only Object t) ns os) (k6 t f n x l)

            k4 : Option Types → Option (List ℕ) → Option Numbers → Option Texts → Outcome Schema
            k4 t f n x = and_then (two_lists_parts join' (is_only Array t) ls ms) (k5 t f n x)

            k3 : Option Types → Option (List ℕ) → Option Numbers → Outcome Schema
            k3 t f n = and_then (where_both (two_texts (is_only Text t)) p.texts q.texts) (k4 t f n)

            k2 : Option Types → Option (List ℕ) → Outcome Schema
            k2 t f = and_then (where_both (two_numbers (is_only Integer t)) p.numbers q.numbers) (k3 t f)

            k1 : Option Types → Outcome Schema
            k1 t = and_then (where_both two_formats p.format q.format) (k2 t)

        objects_good : (p : Plain) (ss : Same) (ls : Lists) (ns : Named) (q : Plain) (tt' : Same) (ms : Lists) (os : Named) → Good (two_objects d join' less' p ss ls ns q tt' ms os)
        objects_good p ss ls ns q tt' ms os =
            refused_good ss _ (refused_good tt' _ (either_way (names_mix ns os) (fault (unsupported pattern_names)) _ tt
            (next (body d join' less' p ls ns q ms os) (λ b. and_then (with_same d join' less' ss b) (λ b'. mapped tidied (with_same d join' less' tt' b'))) (body_good p ls ns q ms os)
            (λ b. next (with_same d join' less' ss b) (λ b'. mapped tidied (with_same d join' less' tt' b')) (with_same_good ss b)
            (λ b'. through tidied (with_same d join' less' tt' b') (with_same_good tt' b'))))))

        pub with_subschemas_good : (b : Schema) (ss : Same) → Good (with_subschemas_layer d join' less' b ss)
        with_subschemas_good b ss = refused_good ss (mapped tidied (with_same d join' less' ss b)) (through tidied (with_same d join' less' ss b) (with_same_good ss b))

        target_good : (q : List ℕ) (o : Option Schema) (b : Schema) → Good (target_merged q o (λ t. join' t b))
        target_good q None b = tt
        target_good q (Some t) b = next (join' t b) (stands_for_target q t) (joins t b) (λ m. either_way (roughly m t) (answer (lost_sizes (loses m t)) (reference_to q)) (answer [] m) tt tt)

        pub references_good : (p : Plain) (ss : Same) (ls : Lists) (ns : Named) (q : Plain) (tt' : Same) (ms : Lists) (os : Named) (f g : Option (List ℕ)) → Good (by_references d join' less' p ss ls ns q tt' ms os f g)
        references_good p ss ls ns q tt' ms os None None = objects_good p ss ls ns q tt' ms os
        references_good p ss ls ns q tt' ms os None (Some g) = with_notes (lost_sizes (drops_siblings q tt' ms os)) (target_merged g (target d g) (λ t. join' t (object p ss ls ns))) (target_good g (target d g) (object p ss ls ns))
        references_good p ss ls ns q tt' ms os (Some f) None = with_notes (lost_sizes (drops_siblings p ss ls ns)) (target_merged f (target d f) (λ t. join' t (object q tt' ms os))) (target_good f (target d f) (object q tt' ms os))
        references_good p ss ls ns q tt' ms os (Some f) (Some g) =
            either_way (bytes_eq f g) (answer (lost_sizes (drops_siblings p ss ls ns || drops_siblings q tt' ms os)) (reference_to f)) (noted (lost_sizes (drops_siblings p ss ls ns)) (target_merged f (target d f) (λ t. join' t (object q tt' ms os)))) tt
            (with_notes (lost_sizes (drops_siblings p ss ls ns)) (target_merged f (target d f) (λ t. join' t (object q tt' ms os))) (target_good f (target d f) (object q tt' ms os)))

        -- ---- taking away

        less_object_good : (p : Plain) (ss : Same) (ls : Lists) (ns : Named) (q : Plain) (tt' : Same) (ms : Lists) (os : Named) → Good (less_object d join' less' p ss ls ns q tt' ms os)
        less_object_good p ss ls ns q tt' ms os =
            next (less_values p p.enum_values q.enum_values) (λ p'. and_then (less_named less' ns os) (λ ns'. less_same join' less' tt' (object p' ss ls ns'))) (less_values_good p p.enum_values q.enum_values)
            (λ p'. next (less_named less' ns os) (λ ns'. less_same join' less' tt' (object p' ss ls ns')) (less_named_good ns os) (λ ns'. less_same_good tt' (object p' ss ls ns')))

        pub less_good : (a b : Schema) → Good (less_layer d join' less' a b)
        less_good a (boolean true) = tt
        less_good a (boolean false) = tt
        less_good (boolean false) (object q tt' ms os) = tt
        less_good (boolean true) (object q tt' ms os) = tt
        less_good (object p ss ls ns) (object q tt' ms os) =
            either_way (is_conditional ss || is_conditional tt') (fault (unsupported conditional)) _ tt
            (either_way (nat_le 2 (subschema_count tt')) (fault (unsupported subtracting)) _ tt
            (with_notes (note_if (not (is_exact d join' less' p ns (object p ss ls ns) q tt' ms os (object q tt' ms os))) (both_ways of_subtract)) (less_object d join' less' p ss ls ns q tt' ms os) (less_object_good p ss ls ns q tt' ms os)))

-- ---- by walks

-- no walk, or one that has more steps than are allowed
abbrev Deep : ℕ → List Location → Type 0
Deep most w = (w ≡ []) ⊎ (has_more_steps most w ≡ true)

module _ (d : Document) (most : ℕ) where
  unless_good : (s : Schema) (k : Schema → Outcome Schema) → Good (Deep most) (k (opened s)) → Good (Deep most) (unless_deep most s k)
  unless_good s k h = cases (has_more_steps most (walk_of s)) refl
    where
      cases : (b : Bool) → has_more_steps most (walk_of s) ≡ b → Good (Deep most) {A = Schema} (elim b [ true ↦ fault (depth (walk_of s)) | false ↦ k (opened s) ])
      cases true e = inr e
      cases false e = h

  module _ (join' less' : Schema → Schema → Outcome Schema) (joins : (a b : Schema) → Good (Deep most) (join' a b)) (takes : (a b : Schema) → Good (Deep most) (less' a b)) where
    settled_good : (w : Walk) (o : Outcome Schema) → Good (Deep most) o → Good (Deep most) (mapped (settled w) o)
    settled_good w o h = through (Deep most) (settled w) o h

    objects_by_walks : (p : Plain) (ss : Same) (ls : Lists) (ns : Named) (q : Plain) (tt' : Same) (ms : Lists) (os : Named) (f g : Option (List ℕ)) → Good (Deep most) (join_objects d most join' less' p ss ls ns q tt' ms os f g)
    objects_by_walks p ss ls ns q tt' ms os None None = settled_good (longer (own_walk p) (own_walk q)) _
        (references_good (Deep most) (on_made (longer (own_walk p) (own_walk q)) join') (λ a b. joins (settled (longer (own_walk p) (own_walk q)) a) (settled (longer (own_walk p) (own_walk q)) b)) (on_made (longer (own_walk p) (own_walk q)) less') (λ a b. takes (settled (longer (own_walk p) (own_walk q)) a) (settled (longer (own_walk p) (own_walk q)) b)) d p ss ls ns q tt' ms os None None)
    objects_by_walks p ss ls ns q tt' ms os None (Some g) = settled_good (own_walk q) _ (references_good (Deep most) (join_target d most join' less' (own_walk q) g) (λ a b. joins (on_walk (to_target (own_walk q) (target_location d g)) a) b) less' takes d p ss ls ns q tt' ms os None (Some g))
    objects_by_walks p ss ls ns q tt' ms os (Some f) g = settled_good (own_walk p) _ (references_good (Deep most) (join_target d most join' less' (own_walk p) f) (λ a b. joins (on_walk (to_target (own_walk p) (target_location d f)) a) b) less' takes d p ss ls ns q tt' ms os (Some f) g)

    sides_by_walks : (a b : Schema) → Good (Deep most) (join_sides d most join' less' a b)
    sides_by_walks (boolean false) b = tt
    sides_by_walks (boolean true) b = tt
    sides_by_walks (object p ss ls ns) (boolean false) = tt
    sides_by_walks (object p ss ls ns) (boolean true) = tt
    sides_by_walks (object p ss ls ns) (object q tt' ms os) = objects_by_walks p ss ls ns q tt' ms os p.reference q.reference

    pub joins_by_walks : (a b : Schema) → Good (Deep most) (walked_join d most join' less' a b)
    joins_by_walks a b = unless_good a (λ a'. unless_deep most b (join_sides d most join' less' a')) (unless_good b (join_sides d most join' less' (opened a)) (sides_by_walks (opened a) (opened b)))

    pub leaves_by_walks : (a b : Schema) → Good (Deep most) (walked_less d most join' less' a b)
    leaves_by_walks a b =
        unless_good a (λ a'. unless_deep most b (λ b'. less_layer d join' less' (left_side b' (walk_left a b) a') b'))
        (unless_good b (λ b'. less_layer d join' less' (left_side b' (walk_left a b) (opened a)) b') (less_good (Deep most) join' joins less' takes d (left_side (opened b) (walk_left a b) (opened a)) (opened b)))

    pub all_by_walks : (b : Schema) (ss : Same) → Good (Deep most) (walked_with d most join' less' b ss)
    all_by_walks b ss = settled_good (walk_of b) _ (with_subschemas_good (Deep most) (on_made (walk_of b) join') (λ x y. joins (settled (walk_of b) x) (settled (walk_of b) y)) (on_made (walk_of b) less') (λ x y. takes (settled (walk_of b) x) (settled (walk_of b) y)) d (opened b) (same_inside (walk_of b) ss))

  record GoodParts (n : ℕ) : Type 0 where
    joins : (a b : Schema) → Good (Deep most) ((parts_within d most n).join a b)
    takes : (a b : Schema) → Good (Deep most) ((parts_within d most n).less a b)

  parts_good : (n : ℕ) → GoodParts n
  parts_good zero = record { joins = λ a b. inl refl; takes = λ a b. inl refl }
  parts_good (suc n) = record {
    joins = joins_by_walks (parts_within d most n).join (parts_within d most n).less (parts_good n).joins (parts_good n).takes;
    takes = leaves_by_walks (parts_within d most n).join (parts_within d most n).less (parts_good n).joins (parts_good n).takes;
  }

  is_deep : (o : Outcome Schema) → Good (Deep most) o → DepthIsDeep most o
  is_deep (fault (depth [])) h = tt
  is_deep (fault (depth (l ∷ w))) (inl e) = absurd (not_empty e)
    where
      not_empty : (l ∷ w) ≡ [] → ⊥
      not_empty e = cc
  is_deep (fault (depth (l ∷ w))) (inr e) = e
  is_deep (fault (unsupported u)) h = tt
  is_deep (never ns) h = tt
  is_deep (answer ns s) h = tt

pub depth_has_its_walk : DepthHasItsWalk
depth_has_its_walk d most n = record {
  joins = λ a b. is_deep d most _ (both a b);
  leaves = λ a b. is_deep d most _ (left_over a b);
  with_all = λ b ss. is_deep d most _ (all_by_walks d most (parts_within d most n).join (parts_within d most n).less (parts_good d most n).joins (parts_good d most n).takes b ss);
  gathers = λ ss. is_deep d most _ (schemas_good (Deep most) (join_by_walks d most n) both (less_by_walks d most n) left_over ss);
}
  where
    both : (a b : Schema) → Good (Deep most) (join_by_walks d most n a b)
    both = joins_by_walks d most (parts_within d most n).join (parts_within d most n).less (parts_good d most n).joins (parts_good d most n).takes

    left_over : (a b : Schema) → Good (Deep most) (less_by_walks d most n a b)
    left_over = leaves_by_walks d most (parts_within d most n).join (parts_within d most n).less (parts_good d most n).joins (parts_good d most n).takes
