-- Merges by walks keep walks short: each Depth has exactly one step more than are allowed.
use Rattle.std.proofs.Common.{ℕ, zero, suc, List, [], ◌∷◌, ◌&&◌, Bool, true, false, Option, Some, None, ◌≡◌, ◌++◌, ◌||◌, refl, bytes_eq, codes, ap, length, ◌≤◌, arith, sym, subst}
use Rattle.std.specs.Prelude.{nat_lt, nat_le, if◌then◌else◌, not, filter, unwrap_or, option_map}
use Rattle.schema_defs.specs.Schema.{ListRules, Schema, boolean, Lists, no_lists, lists, MaybeSchema, no_schema, the_schema, Schemas, no_more, schema, Places, no_items, each_item, by_place, Document, Types, Numbers, Texts, Plain, object, Same, no_same, same_value, Named, no_named, MaybeSchemas, no_list, the_list, schema_list, schemas, MemberRules, named, Properties, no_properties, property}
use Rattle.merge_defs.specs.Outcome.{Outcome, fault, never, answer, never_unless, of_clash, and_then, mapped, unsupported, subtracting, conditional, any_one, pattern_names, Note, widened, note_if, less_than, more_than, of_members, both_ways, of_subtract, has_way, noted, where_both, depth, of_names, Kind, or_else}
use Rattle.merge_defs.specs.Alike.{same_schemas, roughly}
use Rattle.merge_defs.specs.Leaves.{sizes_cross, two_types, two_formats, two_numbers, two_texts, two_lists, values_of, is_only}
use Rattle.merge_defs.specs.Arrays.{joined_rules, two_contains, Front, schema_count, first_schemas, cut_to, alone, or_true, pairs, End, at_most, at_clash, goes_on, Merged, nothing_more, put, is_full, least_items, stands, ended_at, clash_at, at_place, by_places, rest_of, ending, placed, each_of_both, two_places, no_list_rules, kept_lists, with_front, two_rules, two_lists_parts}
use Rattle.json_value.specs.Value.{Value, null}
use Rattle.schema_defs.specs.Layer.{is_listed, property_at}
use Rattle.schema_defs.specs.declared.InstanceType.TheVariants.{Object, Array, Text, Integer}
use Rattle.schema_defs.specs.Admits.{target, counts_as_absent, target_location}
use Rattle.enum_defs.specs.Exclusive.{exclusive}
use Rattle.merge_defs.specs.Objects.{no_plain, unless_mixed, names_mix, two_named, all_names, beside, is_false, no_rest, put_property, unsaid_at, absent_notes, or_false, two_rests, schema_of_both, properties_of, joined_members, two_member_rules, has_patterns, no_member_rules, kept_named, kept_if}
use Rattle.merge_defs.specs.Members.{as_body, as_member, joined, Left, Fate, out, left, Kept, negations, joint, loses, stands_for, fate, with_fate, fates, any_of, one_of, gathered, left_schemas, any_narrows, one_narrows, one_mixes, one_forgets, finish_any, finish_one, stand_both, refused, with_each, with_all, without, with_any, with_one, with_same, lost_sizes}
use Rattle.merge_defs.specs.Less.{left_values, less_values, less_named, turned_outcome, merge_from, merge_schemas, less_each, less_merged, less_any, less_not, less_all, less_same, subschema_count, is_conditional, less_property, less_name, less_properties, unless_needed}
use Rattle.merge_defs.specs.Merge.{drops_siblings, reference_to, stands_for_target, target_merged, tidied, body, two_objects, with_subschemas_layer, by_references, is_exact, less_object, less_layer}
use Rattle.merge_walks.specs.Carried.{Walk, last_of, to_child, to_target, root_walk, unmarked, all_but_last, is_made, made_on, own_walk, on_walk, has_more_steps, carried, maybe_inside, all_inside, list_inside, names_inside, places_inside, same_inside, lists_inside, named_inside, opened}
use Rattle.merge_walks.specs.Made.{longer, longest_after, longest_or, walks_of, walks_of_all, walks_of_list, walks_of_maybe, walks_of_same, if_walked, settled, settled_same, settled_named, settled_maybe, settled_list, settled_all, settled_properties, on_made}
use Rattle.schema_defs.specs.Location.{Location, Step, place}
use Rattle.merge_walks.specs.Walked.{walk_of, has_reference, walk_left, unless_deep, join_target, join_objects, join_sides, left_side, walked_join, walked_less, walked_with, parts_within, join_by_walks, less_by_walks, merge_by_walks, with_by_walks}
use Rattle.enum_defs.specs.Words.{is_name, names_of}
use Rattle.depth_laws.specs.Steps.{IsShort, IsShortOrNone, HasShort, Tells, TargetsAreShort, IsOneStepMore, StayShort, MergesStayShort}
use Rattle.each_schema.specs.Each.{EachSchema, EachInSame, EachInLists, EachInNamed, EachInMaybe, EachInList, EachInAll, EachInPlaces, EachInProperties, of_any_size}
use Rattle.std.proofs.lemmas.Bool.{ltb-true, ltb-false}
use Rattle.merge_laws.specs.Bare.{HasNoFault}
use Rattle.merge_laws.proofs.Ending.{of_both, types, formats, numbers, texts, values}
use Rattle.walk_laws.specs.Levels.{DepthIsDeep}
use Rattle.walk_laws.proofs.Deep.{depth_has_its_walk}
use Rattle.std.proofs.lemmas.Slice.Eq.{bytes_eq-Decides}
use Rattle.std.specs.Cmp.Lexicographic.{pointwise_decides}

module _ (d : Document) (most : ℕ) where
  abbrev Always : {A : Type 0} → (A → Type 0) → Outcome A → Type 0
  Always P o = Tells most P o

  abbrev At : Plain → Named → Type 0
  At = HasShort most

  abbrev Is : Schema → Type 0
  Is = EachSchema At of_any_size

  abbrev OfSame : Same → Type 0
  OfSame = EachInSame At of_any_size

  abbrev OfLists : Lists → Type 0
  OfLists = EachInLists At of_any_size

  abbrev OfNamed : Named → Type 0
  OfNamed = EachInNamed At of_any_size

  abbrev OfMaybe : MaybeSchema → Type 0
  OfMaybe = EachInMaybe At of_any_size

  abbrev OfList : MaybeSchemas → Type 0
  OfList = EachInList At of_any_size

  abbrev All : Schemas → Type 0
  All = EachInAll At of_any_size

  abbrev OfPlaces : Places → Type 0
  OfPlaces = EachInPlaces At of_any_size

  abbrev OfProperties : Properties → Type 0
  OfProperties = EachInProperties At of_any_size

  abbrev Keeps : (Schema → Schema → Outcome Schema) → Type 0
  Keeps f = (a b : Schema) → Is a → Is b → Always Is (f a b)

  module _ (targets : TargetsAreShort d most) where
    always-noted : {A : Type 0} (P : A → Type 0) (ns : List Note) (o : Outcome A) → Always P o → Always P (noted ns o)
    always-noted P ns (fault f) h = h
    always-noted P ns (never ms) h = tt
    always-noted P ns (answer ms a) h = h

    always-then : {A B : Type 0} (P : A → Type 0) (Q : B → Type 0) (o : Outcome A) (k : A → Outcome B) → Always P o → ((a : A) → P a → Always Q (k a)) → Always Q (and_then o k)
    always-then P Q (fault f) k h g = h
    always-then P Q (never ns) k h g = tt
    always-then P Q (answer ns a) k h g = always-noted Q ns (k a) (g a h)

    always-mapped : {A B : Type 0} (P : A → Type 0) (Q : B → Type 0) (f : A → B) (o : Outcome A) → Always P o → ((a : A) → P a → Q (f a)) → Always Q (mapped f o)
    always-mapped P Q f (fault e) h g = h
    always-mapped P Q f (never ns) h g = tt
    always-mapped P Q f (answer ns a) h g = g a h

    always-or_else : {A : Type 0} (P : A → Type 0) (d : A) (o : Outcome A) → P d → Always P o → Always P (or_else d o)
    always-or_else P d (fault f) p h = h
    always-or_else P d (never ns) p h = p
    always-or_else P d (answer ns a) p h = h

    always-if : {A : Type 0} (P : A → Type 0) (b : Bool) (o u : Outcome A) → Always P o → Always P u → Always P (if b then o else u)
    always-if P true o u h g = h
    always-if P false o u h g = g

    always-never : {A : Type 0} (P : A → Type 0) (b : Bool) (k : Kind) → Always P (never_unless b k)
    always-never P b k = tt

    always-any : {A : Type 0} (o : Outcome A) → HasNoFault o → Always (λ a. Unit {0}) o
    always-any (fault f) h = absurd h
    always-any (never ns) h = tt
    always-any (answer ns a) h = tt

    -- ---- lists

    abbrev FrontHolds : Front → Type 0
    FrontHolds f = OfPlaces f.places × OfMaybe f.rest

    contains-hold : (a b : MaybeSchema) → OfMaybe a → OfMaybe b → Always OfMaybe (two_contains a b)
    contains-hold no_schema b x y = y
    contains-hold (the_schema s) no_schema x y = x
    contains-hold (the_schema s) (the_schema t) x y = always-if OfMaybe (same_schemas s t) (answer [] (the_schema s)) (never_unless false of_clash) x tt

    first-hold : (n : ℕ) (ss : Schemas) → All ss → All (first_schemas n ss)
    first-hold zero ss h = tt
    first-hold (suc n) no_more h = tt
    first-hold (suc n) (schema s ss) h = (h.0, first-hold n ss h.1)

    cut-holds : (o : Option ℕ) (ss : Schemas) (rest : MaybeSchema) → All ss → OfMaybe rest → FrontHolds (cut_to o ss rest)
    cut-holds None ss rest h g = (h, g)
    cut-holds (Some n) ss rest h g = by (nat_le n (schema_count ss))
      where
        by : (b : Bool) → FrontHolds (if b then record { places = by_place (first_schemas n ss); rest = no_schema; max_items = Some n } else record { places = by_place ss; rest = rest; max_items = Some n })
        by true = (first-hold n ss h, tt)
        by false = (h, g)

    alone-holds : (o : Option ℕ) (p : Places) (rest : MaybeSchema) → OfPlaces p → OfMaybe rest → FrontHolds (alone o p rest)
    alone-holds o no_items rest h g = (tt, tt)
    alone-holds o (each_item s) rest h g = (h, tt)
    alone-holds o (by_place ss) rest h g = cut-holds o ss rest h g

    true-holds : (m : MaybeSchema) → OfMaybe m → Is (or_true m)
    true-holds no_schema h = tt
    true-holds (the_schema s) h = h

    kept-lists : (ls : Lists) → OfLists ls → OfLists (kept_lists ls)
    kept-lists no_lists h = h
    kept-lists (lists (each_item s) x a c) h = h
    kept-lists (lists (by_place ss) x a c) h = h
    kept-lists (lists no_items (the_schema x) a c) h = h
    kept-lists (lists no_items no_schema (the_schema a) c) h = h
    kept-lists (lists no_items no_schema no_schema c) h = by (no_list_rules c)
      where
        by : (b : Bool) → OfLists (if b then no_lists else lists no_items no_schema no_schema c)
        by true = tt
        by false = h

    abbrev Pairs : List (Schema × Schema) → Type 0
    Pairs [] = Unit {0}
    Pairs (p ∷ ps) = (Is p.0 × Is p.1) × Pairs ps

    pairs-hold : (ss : Schemas) (x : Schema) (ts : Schemas) (y : Schema) → All ss → Is x → All ts → Is y → Pairs (pairs ss x ts y)
    pairs-hold no_more x no_more y h f g k = tt
    pairs-hold no_more x (schema t ts) y h f g k = ((f, g.0), pairs-hold no_more x ts y h f g.1 k)
    pairs-hold (schema s ss) x no_more y h f g k = ((h.0, k), pairs-hold ss x no_more y h.1 f g k)
    pairs-hold (schema s ss) x (schema t ts) y h f g k = ((h.0, g.0), pairs-hold ss x ts y h.1 f g.1 k)

    abbrev MergedHold : Merged → Type 0
    MergedHold m = All m.items

    module _ (join' : Schema → Schema → Outcome Schema) (joins : (a b : Schema) → Is a → Is b → Always Is (join' a b)) where
      module _ (array : Bool) (c : ListRules) where
        clash-holds : (k : ℕ) → Always MergedHold (clash_at join' array c k)
        clash-holds k = always-if MergedHold (nat_lt k (least_items c.min_items)) (never_unless (array && stands c.min_items) of_clash) (answer [] (nothing_more (at_clash k))) tt tt

        place-holds : (k : ℕ) (o : Outcome Schema) (after : ℕ → Outcome Merged) → Always Is o → ((n : ℕ) → Always MergedHold (after n)) → Always MergedHold (at_place join' array c k o after)
        place-holds k (fault f) after h g = h
        place-holds k (never ns) after h g = always-noted MergedHold ns (clash_at join' array c k) (clash-holds k)
        place-holds k (answer ns s) after h g = always-noted MergedHold ns (mapped (put s) (after (suc k))) (always-mapped MergedHold MergedHold (put s) (after (suc k)) (g (suc k)) (λ m x. (h, x)))

        places-hold : (ps : List (Schema × Schema)) (k : ℕ) → Pairs ps → Always MergedHold (by_places join' array c k ps)
        places-hold [] k h = tt
        places-hold (p ∷ ps) k h = cases (λ n. places-hold ps n h.1) (is_full c.max_items k)
          where
            cases : ((n : ℕ) → Always MergedHold (by_places join' array c n ps)) → (b : Bool) → Always MergedHold (elim b [ true ↦ answer [] (nothing_more at_most) | false ↦ at_place join' array c k (join' p.0 p.1) (λ n. by_places join' array c n ps) ])
            cases later true = tt
            cases later false = place-holds k (join' p.0 p.1) (λ n. by_places join' array c n ps) (joins p.0 p.1 h.0.0 h.0.1) later

        rest-holds : (b : Bool) (o : Outcome Schema) → Always Is o → Always OfMaybe (rest_of join' array c b o)
        rest-holds b (fault f) h = h
        rest-holds b (never ns) h = always-noted OfMaybe ns (if b then answer [] (the_schema (boolean false)) else never_unless false of_clash) (always-if OfMaybe b (answer [] (the_schema (boolean false))) (never_unless false of_clash) tt tt)
        rest-holds b (answer ns s) h = h

        ending-holds : (b : Bool) (o : Outcome Schema) (m : Merged) → Always Is o → MergedHold m → Always FrontHolds (ending join' array c b o m)
        ending-holds b o m h g = cases m.end
          where
            cases : (e : End) → Always FrontHolds
                (elim e [
                  | goes_on ↦ mapped (λ r. record { places = by_place m.items; rest = r; max_items = c.max_items }) (rest_of join' array c b o)
                  | at_most ↦ answer [] (record { places = by_place m.items; rest = no_schema; max_items = c.max_items })
                  | at_clash k ↦ answer [] (record { places = by_place m.items; rest = no_schema; max_items = ended_at k c.max_items })
                ])
            cases goes_on = always-mapped OfMaybe FrontHolds (λ r. record { places = by_place m.items; rest = r; max_items = c.max_items }) (rest_of join' array c b o) (rest-holds b o h) (λ r x. (g, x))
            cases at_most = (g, tt)
            cases (at_clash k) = (g, tt)

        placed-hold : (b : Bool) (ss : Schemas) (x : Schema) (ts : Schemas) (y : Schema) → All ss → Is x → All ts → Is y → Always FrontHolds (placed join' array c b ss x ts y)
        placed-hold b ss x ts y h f g k =
            always-then MergedHold FrontHolds (by_places join' array c 0 (pairs ss x ts y)) (λ m. ending join' array c b (join' x y) m)
            (places-hold (pairs ss x ts y) 0 (pairs-hold ss x ts y h f g k)) (λ m z. ending-holds b (join' x y) m (joins x y f k) z)

        each-holds : (o : Outcome Schema) → Always Is o → Always FrontHolds (each_of_both join' array c o)
        each-holds (fault f) h = h
        each-holds (never ns) h = tt
        each-holds (answer ns s) h = (h, tt)

        two-places : (p : Places) (x : MaybeSchema) (q : Places) (y : MaybeSchema) → OfPlaces p → OfMaybe x → OfPlaces q → OfMaybe y → Always FrontHolds (two_places join' array c p x q y)
        two-places no_items x q y h f g k = alone-holds c.max_items q y g k
        two-places (each_item s) x no_items y h f g k = (h, tt)
        two-places (by_place ss) x no_items y h f g k = alone-holds c.max_items (by_place ss) x h f
        two-places (each_item s) x (each_item t) y h f g k = each-holds (join' s t) (joins s t h g)
        two-places (each_item s) x (by_place ts) y h f g k = placed-hold false ts (or_true y) no_more s g (true-holds y k) tt h
        two-places (by_place ss) x (each_item t) y h f g k = placed-hold false ss (or_true x) no_more t h (true-holds x f) tt g
        two-places (by_place ss) x (by_place ts) y h f g k = placed-hold true ss (or_true x) ts (or_true y) h (true-holds x f) g (true-holds y k)

      list-rules-hold : (array : Bool) (c e : ListRules) → Always (λ s. Unit {0}) (two_rules array c e)
      list-rules-hold array c e = always-if (λ s. Unit {0}) (sizes_cross (joined_rules c e).min_items (joined_rules c e).max_items) (never_unless array of_clash) (answer [] (joined_rules c e)) tt tt

      two-lists : (array : Bool) (ls ms : Lists) → OfLists ls → OfLists ms → Always OfLists (two_lists_parts join' array ls ms)
      two-lists array no_lists ms h g = g
      two-lists array (lists p x a c) no_lists h g = h
      two-lists array (lists p x a c) (lists q y b e) h g =
          always-then OfMaybe OfLists (two_contains a b) (λ contains. and_then (two_rules array c e) (λ sizes. mapped (with_front contains sizes) (two_places join' array sizes p x q y))) (contains-hold a b h.2 g.2)
          (λ contains z. always-then (λ s. Unit {0}) OfLists (two_rules array c e) (λ sizes. mapped (with_front contains sizes) (two_places join' array sizes p x q y)) (list-rules-hold array c e)
          (λ sizes _. always-mapped FrontHolds OfLists (with_front contains sizes) (two_places join' array sizes p x q y) (two-places array sizes p x q y h.0 h.1 g.0 g.1)
          (λ f u. kept-lists (lists f.places f.rest contains (record sizes { max_items = f.max_items })) (u.0, u.1, z, tt))))

    -- ---- members

    at-holds : (n : List ℕ) (ps : Properties) → OfProperties ps → OfMaybe (property_at n ps)
    at-holds n no_properties h = tt
    at-holds n (property k s ps) h = by (bytes_eq n k) (at-holds n ps h.1)
      where
        by : (b : Bool) → OfMaybe (property_at n ps) → OfMaybe (if b then the_schema s else property_at n ps)
        by true g = h.0
        by false g = g

    beside-holds : (s : Schema) (m : MaybeSchema) → Is s → OfMaybe m → Is (beside s m)
    beside-holds s no_schema h g = h
    beside-holds s (the_schema (boolean true)) h g = h
    beside-holds s (the_schema (boolean false)) h g = tt
    beside-holds s (the_schema (object p ss ls ns)) h g = (tt, ((g, (h, tt)), tt, tt, tt), tt, tt)

    kept-named : (os : Named) → OfNamed os → OfNamed (kept_named os)
    kept-named no_named h = h
    kept-named (named (property k s ps) q x m c) h = h
    kept-named (named no_properties (property k s q) x m c) h = h
    kept-named (named no_properties no_properties (the_schema x) m c) h = h
    kept-named (named no_properties no_properties no_schema (the_schema m) c) h = h
    kept-named (named no_properties no_properties no_schema no_schema c) h = by (no_member_rules c)
      where
        by : (b : Bool) → OfNamed (if b then no_named else named no_properties no_properties no_schema no_schema c)
        by true = tt
        by false = h

    kept-if : (b : Bool) (os : Named) → OfNamed os → OfNamed (kept_if b os)
    kept-if true os h = kept-named os h
    kept-if false os h = h

    module _ (join' : Schema → Schema → Outcome Schema) (joins : (a b : Schema) → Is a → Is b → Always Is (join' a b)) where
      or-false : (s t : Schema) → Is s → Is t → Always Is (or_false join' s t)
      or-false s t x y = always-or_else Is (boolean false) (join' s t) tt (joins s t x y)

      two-rests : (x y : MaybeSchema) → OfMaybe x → OfMaybe y → Always OfMaybe (two_rests join' x y)
      two-rests no_schema y f g = g
      two-rests (the_schema s) no_schema f g = f
      two-rests (the_schema s) (the_schema t) f g = always-mapped Is OfMaybe the_schema (or_false join' s t) (or-false s t f g) (λ u z. z)

      schema-of-both : (p x q y : MaybeSchema) → OfMaybe p → OfMaybe x → OfMaybe q → OfMaybe y → Always Is (schema_of_both join' p x q y)
      schema-of-both no_schema x no_schema y f g h k = tt
      schema-of-both (the_schema s) x no_schema y f g h k = beside-holds s y f k
      schema-of-both no_schema x (the_schema t) y f g h k = beside-holds t x h g
      schema-of-both (the_schema s) x (the_schema t) y f g h k = or-false s t f h

      put-holds : (object_type needed closed : Bool) (unsaid : List Note) (n : List ℕ) (s : Schema) (after : Outcome Properties) → Is s → Always OfProperties after
          → Always OfProperties (put_property object_type needed closed unsaid n s after)
      put-holds object_type needed closed unsaid n s after h g =
          always-if OfProperties (is_false s && needed) (and_then after (λ ps. never_unless object_type of_clash)) (if is_false s && closed then noted unsaid after else mapped (property n s) after)
          (always-then OfProperties OfProperties after (λ ps. never_unless object_type of_clash) g (λ ps x. tt))
          (always-if OfProperties (is_false s && closed) (noted unsaid after) (mapped (property n s) after) (always-noted OfProperties unsaid after g)
          (always-mapped OfProperties OfProperties (property n s) after g (λ ps x. (h, x))))

      properties-hold : (ps : Properties) (x : MaybeSchema) (qs : Properties) (y : MaybeSchema) (nulls object_type closed : Bool) (needed ns : List (List ℕ)) → OfProperties ps → OfMaybe x → OfProperties qs → OfMaybe y
          → Always OfProperties (properties_of join' ps x qs y nulls object_type closed needed ns)
      properties-hold ps x qs y nulls object_type closed needed [] f g h k = tt
      properties-hold ps x qs y nulls object_type closed needed (n ∷ ns) f g h k =
          always-then Is OfProperties (schema_of_both join' (property_at n ps) x (property_at n qs) y)
          (λ s. put_property object_type (is_name n needed) closed (unsaid_at nulls ps x qs y n) n s (properties_of join' ps x qs y nulls object_type closed needed ns))
          (schema-of-both (property_at n ps) x (property_at n qs) y (at-holds n ps f) g (at-holds n qs h) k)
          (λ s z. put-holds object_type (is_name n needed) closed (unsaid_at nulls ps x qs y n) n s (properties_of join' ps x qs y nulls object_type closed needed ns) z (properties-hold ps x qs y nulls object_type closed needed ns f g h k))

      rules-hold : (object_type : Bool) (c e : MemberRules) → Always (λ m. Unit {0}) (two_member_rules object_type c e)
      rules-hold object_type c e = always-if (λ m. Unit {0}) (sizes_cross (joined_members c e).min_properties (joined_members c e).max_properties) (never_unless object_type of_clash) (answer [] (joined_members c e)) tt tt

      two-named : (nulls object_type : Bool) (ns os : Named) → OfNamed ns → OfNamed os → Always OfNamed (two_named join' nulls object_type ns os)
      two-named nulls object_type no_named os f g = g
      two-named nulls object_type (named ps pp x xn c) no_named f g = f
      two-named nulls object_type (named ps pp x xn c) (named qs qq y yn e) f g =
          always-noted OfNamed (note_if nulls (absent_notes ps x c qs y e)) (noted (note_if (has_patterns pp xn || has_patterns qq yn) (both_ways of_names)) (mapped (kept_if (has_patterns pp xn || has_patterns qq yn)) made))
          (always-noted OfNamed (note_if (has_patterns pp xn || has_patterns qq yn) (both_ways of_names)) (mapped (kept_if (has_patterns pp xn || has_patterns qq yn)) made)
          (always-mapped OfNamed OfNamed (kept_if (has_patterns pp xn || has_patterns qq yn)) made
          (always-then OfMaybe OfNamed (two_rests join' x y) later (two-rests x y f.2 g.2)
          (λ rest z. always-then OfProperties OfNamed (props rest) (rules rest)
          (properties-hold ps x qs y nulls object_type (no_rest rest) (joined_members c e).required (all_names (names_of ps) (names_of qs)) f.0 f.2 g.0 g.2)
          (λ us u. always-mapped (λ m. Unit {0}) OfNamed (λ m. named us no_properties rest no_schema m) (two_member_rules object_type c e) (rules-hold object_type c e)
          (λ m v. (u, tt, z, tt)))))
          (kept-if (has_patterns pp xn || has_patterns qq yn))))
        where
          props : MaybeSchema → Outcome Properties
          props rest = properties_of join' ps x qs y nulls object_type (no_rest rest) (joined_members c e).required (all_names (names_of ps) (names_of qs))

          rules : MaybeSchema → Properties → Outcome Named
          rules rest us = mapped (λ m. named us no_properties rest no_schema m) (two_member_rules object_type c e)

          later : MaybeSchema → Outcome Named
          later rest = and_then (props rest) (rules rest)

          made : Outcome Named
          made = and_then (two_rests join' x y) later

    module _ (less' : Schema → Schema → Outcome Schema) (leaves : (a b : Schema) → Is a → Is b → Always Is (less' a b)) where
      less-property : (p q : MaybeSchema) → OfMaybe p → OfMaybe q → Always Is (less_property less' p q)
      less-property (the_schema s) (the_schema t) f g = always-or_else Is (boolean false) (less' s t) tt (leaves s t f g)
      less-property (the_schema s) no_schema f g = f
      less-property no_schema q f g = tt

      less-name : (b : Bool) (p q : MaybeSchema) → OfMaybe p → OfMaybe q → Always Is (less_name less' b p q)
      less-name true p no_schema f g = tt
      less-name true p (the_schema t) f g = less-property p (the_schema t) f g
      less-name false p q f g = less-property p q f g

      less-properties : (ps qs : Properties) (needed ns : List (List ℕ)) → OfProperties ps → OfProperties qs → Always OfProperties (less_properties less' ps qs needed ns)
      less-properties ps qs needed [] f g = tt
      less-properties ps qs needed (n ∷ ns) f g =
          always-then Is OfProperties (less_name less' (is_name n needed) (property_at n ps) (property_at n qs)) (λ s. mapped (property n s) (less_properties less' ps qs needed ns))
          (less-name (is_name n needed) (property_at n ps) (property_at n qs) (at-holds n ps f) (at-holds n qs g))
          (λ s z. always-mapped OfProperties OfProperties (property n s) (less_properties less' ps qs needed ns) (less-properties ps qs needed ns f g) (λ us u. (z, u)))

      unless-needed : (needed : List (List ℕ)) (ps : Properties) → OfProperties ps → Always OfProperties (unless_needed less' needed ps)
      unless-needed needed no_properties h = tt
      unless-needed needed (property n s ps) h =
          always-if OfProperties (is_false s && is_name n needed) (never []) (mapped (property n s) (unless_needed less' needed ps)) tt
          (always-mapped OfProperties OfProperties (property n s) (unless_needed less' needed ps) (unless-needed needed ps h.1) (λ us u. (h.0, u)))

      less-named : (ns os : Named) → OfNamed ns → OfNamed os → Always OfNamed (less_named less' ns os)
      less-named no_named os f g = f
      less-named (named ps pp x xn c) no_named f g = f
      less-named (named ps pp x xn c) (named qs qq y yn e) f g =
          let ns : List (List ℕ) = all_names (names_of ps) (all_names (names_of qs) e.required) in
          always-mapped OfProperties OfNamed (λ us. named us pp x xn c) (and_then (less_properties less' ps qs e.required ns) (unless_needed less' c.required))
          (always-then OfProperties OfProperties (less_properties less' ps qs e.required ns) (unless_needed less' c.required) (less-properties ps qs e.required ns f.0 g.0)
          (λ us u. unless-needed c.required us u))
          (λ us u. (u, f.1, f.2, f.3))

    -- ---- what merges keep

    abbrev EachOf : List Schema → Type 0
    EachOf [] = Unit {0}
    EachOf (s ∷ ss) = Is s × EachOf ss

    each-listed : (ss : Schemas) → All ss → EachOf (schema_list ss)
    each-listed no_more h = tt
    each-listed (schema s ss) h = (h.0, each-listed ss h.1)

    each-schemas : (ss : List Schema) → EachOf ss → All (schemas ss)
    each-schemas [] h = tt
    each-schemas (s ∷ ss) h = (h.0, each-schemas ss h.1)

    each-both : (ss ts : List Schema) → EachOf ss → EachOf ts → EachOf (ss ++ ts)
    each-both [] ts h g = g
    each-both (s ∷ ss) ts h g = (h.0, each-both ss ts h.1 g)

    tidied-holds : (s : Schema) → Is s → Is (tidied s)
    tidied-holds (boolean b) h = h
    tidied-holds (object p ss ls ns) h = h

    -- ---- fates of members

    abbrev FateHolds : Fate → Type 0
    FateHolds (out b) = Unit {0}
    FateHolds (left l) = Is l.schema

    abbrev LeftHold : List Left → Type 0
    LeftHold [] = Unit {0}
    LeftHold (l ∷ ls) = Is l.schema × LeftHold ls

    each-negated : (ss : List Schema) → EachOf ss → EachOf (negations ss)
    each-negated [] h = tt
    each-negated (s ∷ ss) h = ((tt, (tt, tt, tt, h.0), tt, tt), each-negated ss h.1)

    joint-holds : (b m : Schema) (others : List Schema) → Is b → Is m → EachOf others → Is (joint b m others)
    joint-holds b m others x y h = (tt, (each-schemas (b ∷ m ∷ negations others) (x, (y, each-negated others h)), tt, tt, tt), tt, tt)

    fate-holds : (b m : Schema) (others : List Schema) → Is b → Is m → EachOf others → (o : Outcome Schema) → Always Is o → Always FateHolds (fate b m others o)
    fate-holds b m others x y h (fault f) z = z
    fate-holds b m others x y h (never ns) z = tt
    fate-holds b m others x y h (answer ns merge) z =
        always-if FateHolds (roughly merge b) (stands_for as_body b merge ns) (if roughly merge m then stands_for as_member m merge ns else answer ns (left (record { how = joined; wider = has_way widened ns; schema = joint b m others }))) x
        (always-if FateHolds (roughly merge m) (stands_for as_member m merge ns) (answer ns (left (record { how = joined; wider = has_way widened ns; schema = joint b m others }))) y (joint-holds b m others x y h))

    with-fate : (f : Fate) (k : Kept) → FateHolds f → LeftHold k.members → LeftHold (with_fate f k).members
    with-fate (out b) k x y = y
    with-fate (left l) k x y = (x, y)

    left-hold : (ls : List Left) → LeftHold ls → EachOf (left_schemas ls)
    left-hold [] h = tt
    left-hold (l ∷ ls) h = (h.0, left-hold ls h.1)

    any-holds : (ss : List Schema) → EachOf ss → Always Is (gathered any_of ss)
    any-holds [] h = tt
    any-holds (s ∷ []) h = h.0
    any-holds (s ∷ t ∷ ss) h = (tt, (tt, each-schemas (s ∷ t ∷ ss) h, tt, tt), tt, tt)

    one-holds : (ss : List Schema) → EachOf ss → Always Is (gathered one_of ss)
    one-holds [] h = tt
    one-holds (s ∷ []) h = h.0
    one-holds (s ∷ t ∷ ss) h = (tt, (tt, tt, each-schemas (s ∷ t ∷ ss) h, tt), tt, tt)

    finish-any : (apart : Bool) (k : Kept) → LeftHold k.members → Always Is (finish_any apart k)
    finish-any apart k h = always-noted Is (note_if (any_narrows apart k) (less_than of_members ∷ [])) (gathered any_of (left_schemas k.members)) (any-holds (left_schemas k.members) (left-hold k.members h))

    finish-one : (apart : Bool) (k : Kept) → LeftHold k.members → Always Is (finish_one apart k)
    finish-one apart k h =
        always-noted Is (note_if (one_narrows k) (less_than of_members ∷ [])) (noted (note_if (one_mixes apart k || one_forgets apart k) (more_than of_members ∷ [])) (gathered one_of (left_schemas k.members)))
        (always-noted Is (note_if (one_mixes apart k || one_forgets apart k) (more_than of_members ∷ [])) (gathered one_of (left_schemas k.members)) (one-holds (left_schemas k.members) (left-hold k.members h)))

    module _ (join' less' : Schema → Schema → Outcome Schema) (joins : Keeps join') (leaves : Keeps less') where
      fates-hold : (b : Schema) (before after : List Schema) → Is b → EachOf before → EachOf after → Always (λ k. LeftHold k.members) (fates join' b before after)
      fates-hold b before [] x h g = tt
      fates-hold b before (m ∷ ms) x h g =
          always-then FateHolds (λ k. LeftHold k.members) (fate b m (before ++ ms) (join' b m)) (λ f. mapped (with_fate f) (fates join' b (before ++ (m ∷ [])) ms))
          (fate-holds b m (before ++ ms) x g.0 (each-both before ms h g.1) (join' b m) (joins b m x g.0))
          (λ f y. always-mapped (λ k. LeftHold k.members) (λ k. LeftHold k.members) (with_fate f) (fates join' b (before ++ (m ∷ [])) ms)
          (fates-hold b (before ++ (m ∷ [])) ms x (each-both before (m ∷ []) h (g.0, tt)) g.1) (λ k z. with-fate f k y z))

      -- ---- the subschemas of a side

      with-each : (ss : Schemas) (b : Schema) → All ss → Is b → Always Is (with_each d join' less' ss b)
      with-each no_more b h x = x
      with-each (schema s ss) b h x = always-then Is Is (join' b s) (with_each d join' less' ss) (joins b s x h.0) (λ c y. with-each ss c h.1 y)

      with-all : (all : MaybeSchemas) (b : Schema) → OfList all → Is b → Always Is (with_all d join' less' all b)
      with-all no_list b h x = x
      with-all (the_list ss) b h x = with-each ss b h x

      without-holds : (none : MaybeSchema) (b : Schema) → OfMaybe none → Is b → Always Is (without d join' less' none b)
      without-holds no_schema b h x = x
      without-holds (the_schema s) b h x = leaves b s x h

      with-any : (any : MaybeSchemas) (b : Schema) → OfList any → Is b → Always Is (with_any d join' less' any b)
      with-any no_list b h x = x
      with-any (the_list ss) b h x = always-then (λ k. LeftHold k.members) Is (fates join' b [] (schema_list ss)) (finish_any (exclusive d (schema_list ss))) (fates-hold b [] (schema_list ss) x tt (each-listed ss h)) (λ k y. finish-any (exclusive d (schema_list ss)) k y)

      with-one : (one : MaybeSchemas) (b : Schema) → OfList one → Is b → Always Is (with_one d join' less' one b)
      with-one no_list b h x = x
      with-one (the_list ss) b h x = always-then (λ k. LeftHold k.members) Is (fates join' b [] (schema_list ss)) (finish_one (exclusive d (schema_list ss))) (fates-hold b [] (schema_list ss) x tt (each-listed ss h)) (λ k y. finish-one (exclusive d (schema_list ss)) k y)

      with-same : (ss : Same) (b : Schema) → OfSame ss → Is b → Always Is (with_same d join' less' ss b)
      with-same no_same b h x = x
      with-same (same_value all any one none c) b h x =
          always-then Is Is (with_all d join' less' all b) (λ b. and_then (without d join' less' none b) (λ b'. and_then (with_any d join' less' any b') (with_one d join' less' one))) (with-all all b h.0 x)
          (λ b y. always-then Is Is (without d join' less' none b) (λ b'. and_then (with_any d join' less' any b') (with_one d join' less' one)) (without-holds none b h.3 y)
          (λ b' z. always-then Is Is (with_any d join' less' any b') (with_one d join' less' one) (with-any any b' h.1 z) (λ c u. with-one one c h.2 u)))

      refused-holds : (ss : Same) (o : Outcome Schema) → Always Is o → Always Is (refused ss o)
      refused-holds no_same o h = h
      refused-holds (same_value all any one none c) o h =
          always-if Is c (fault (unsupported conditional)) (if stand_both any one then fault (unsupported any_one) else o) tt (always-if Is (stand_both any one) (fault (unsupported any_one)) o tt h)

      -- ---- objects

      body-holds : (p : Plain) (ls : Lists) (ns : Named) (q : Plain) (ms : Lists) (os : Named) → OfLists ls → OfNamed ns → OfLists ms → OfNamed os → Always Is (body d join' less' p ls ns q ms os)
      body-holds p ls ns q ms os hl hn hm ho =
          always-then (λ t. Unit {0}) Is (where_both two_types p.types q.types) k1 (always-any (where_both two_types p.types q.types) (of_both two_types types p.types q.types)) (λ t _.
          always-then (λ f. Unit {0}) Is (where_both two_formats p.format q.format) (k2 t) (always-any (where_both two_formats p.format q.format) (of_both two_formats formats p.format q.format)) (λ f _.
          always-then (λ n. Unit {0}) Is (where_both (two_numbers (is_only Integer t)) p.numbers q.numbers) (k3 t f) (always-any (where_both (two_numbers (is_only Integer t)) p.numbers q.numbers) (of_both (two_numbers (is_only Integer t)) (numbers (is_only Integer t)) p.numbers q.numbers)) (λ n _.
          always-then (λ x. Unit {0}) Is (where_both (two_texts (is_only Text t)) p.texts q.texts) (k4 t f n) (always-any (where_both (two_texts (is_only Text t)) p.texts q.texts) (of_both (two_texts (is_only Text t)) (texts (is_only Text t)) p.texts q.texts)) (λ x _.
          always-then OfLists Is (two_lists_parts join' (is_only Array t) ls ms) (k5 t f n x) (two-lists join' joins (is_only Array t) ls ms hl hm) (λ l z.
          always-then OfNamed Is (two_named join' (counts_as_absent d.setting null) (is_only Object t) ns os) (k6 t f n x l) (two-named join' joins (counts_as_absent d.setting null) (is_only Object t) ns os hn ho) (λ m y.
          always-mapped (λ vs. Unit {0}) Is (made t f n x l m) (where_both two_lists (values_of p) (values_of q)) (always-any (where_both two_lists (values_of p) (values_of q)) (of_both two_lists values (values_of p) (values_of q))) (λ vs _. (tt, tt, z, y))))))))
        where
          made : Option Types → Option (List ℕ) → Option Numbers → Option Texts → Lists → Named → Option (List Value) → Schema
          made t f n x l m values = object (record no_plain { types = t; format = f; numbers = n; texts = x; enum_values = values }) no_same l m

          k6 : Option Types → Option (List ℕ) → Option Numbers → Option Texts → Lists → Named → Outcome Schema
          k6 t f n x l m = mapped (made t f n x l m) (where_both two_lists (values_of p) (values_of q))

          k5 : Option Types → Option (List ℕ) → Option Numbers → Option Texts → Lists → Outcome Schema
          k5 t f n x l = and_then (two_named join' (counts_as_absent d.setting null) (is_only Object t) ns os) (k6 t f n x l)

          k4 : Option Types → Option (List ℕ) → Option Numbers → Option Texts → Outcome Schema
          k4 t f n x = and_then (two_lists_parts join' (is_only Array t) ls ms) (k5 t f n x)

          k3 : Option Types → Option (List ℕ) → Option Numbers → Outcome Schema
          k3 t f n = and_then (where_both (two_texts (is_only Text t)) p.texts q.texts) (k4 t f n)

          k2 : Option Types → Option (List ℕ) → Outcome Schema
          k2 t f = and_then (where_both (two_numbers (is_only Integer t)) p.numbers q.numbers) (k3 t f)

          k1 : Option Types → Outcome Schema
          k1 t = and_then (where_both two_formats p.format q.format) (k2 t)

      objects-hold : (p : Plain) (ss : Same) (ls : Lists) (ns : Named) (q : Plain) (tt' : Same) (ms : Lists) (os : Named) → Is (object p ss ls ns) → Is (object q tt' ms os) → Always Is (two_objects d join' less' p ss ls ns q tt' ms os)
      objects-hold p ss ls ns q tt' ms os h g =
          refused-holds ss (refused tt' (unless_mixed (names_mix ns os) whole))
          (refused-holds tt' (unless_mixed (names_mix ns os) whole)
          (always-if Is (names_mix ns os) (fault (unsupported pattern_names)) whole tt
          (always-then Is Is (body d join' less' p ls ns q ms os) first (body-holds p ls ns q ms os h.2 h.3 g.2 g.3)
          (λ b x. always-then Is Is (with_same d join' less' ss b) last (with-same ss b h.1 x)
          (λ b' y. always-mapped Is Is tidied (with_same d join' less' tt' b') (with-same tt' b' g.1 y) tidied-holds)))))
        where
          last : Schema → Outcome Schema
          last b' = mapped tidied (with_same d join' less' tt' b')

          first : Schema → Outcome Schema
          first b = and_then (with_same d join' less' ss b) last

          whole : Outcome Schema
          whole = and_then (body d join' less' p ls ns q ms os) first

      with-subschemas : (b : Schema) (ss : Same) → Is b → OfSame ss → Always Is (with_subschemas_layer d join' less' b ss)
      with-subschemas b ss x h = refused-holds ss (mapped tidied (with_same d join' less' ss b)) (always-mapped Is Is tidied (with_same d join' less' ss b) (with-same ss b h x) tidied-holds)

      reference-holds : (q : List ℕ) → Is (reference_to q)
      reference-holds q = (tt, tt, tt, tt)

      target-holds : (q : List ℕ) (o : Option Schema) → target d q ≡ o → (b : Schema) → Is b → Always Is (target_merged q o (λ t. join' t b))
      target-holds q None e b x = tt
      target-holds q (Some t) e b x =
          always-then Is Is (join' t b) (stands_for_target q t) (joins t b (targets q t e) x)
          (λ m y. always-if Is (roughly m t) (answer (lost_sizes (loses m t)) (reference_to q)) (answer [] m) (reference-holds q) y)

      references-hold : (p : Plain) (ss : Same) (ls : Lists) (ns : Named) (q : Plain) (tt' : Same) (ms : Lists) (os : Named) → Is (object p ss ls ns) → Is (object q tt' ms os)
          → (f g : Option (List ℕ)) → Always Is (by_references d join' less' p ss ls ns q tt' ms os f g)
      references-hold p ss ls ns q tt' ms os x y None None = objects-hold p ss ls ns q tt' ms os x y
      references-hold p ss ls ns q tt' ms os x y None (Some n) = always-noted Is (lost_sizes (drops_siblings q tt' ms os)) (target_merged n (target d n) (λ t. join' t (object p ss ls ns))) (target-holds n (target d n) refl (object p ss ls ns) x)
      references-hold p ss ls ns q tt' ms os x y (Some m) None = always-noted Is (lost_sizes (drops_siblings p ss ls ns)) (target_merged m (target d m) (λ t. join' t (object q tt' ms os))) (target-holds m (target d m) refl (object q tt' ms os) y)
      references-hold p ss ls ns q tt' ms os x y (Some m) (Some n) =
          always-if Is (bytes_eq m n) (answer (lost_sizes (drops_siblings p ss ls ns || drops_siblings q tt' ms os)) (reference_to m)) (noted (lost_sizes (drops_siblings p ss ls ns)) (target_merged m (target d m) (λ t. join' t (object q tt' ms os))))
          (reference-holds m) (always-noted Is (lost_sizes (drops_siblings p ss ls ns)) (target_merged m (target d m) (λ t. join' t (object q tt' ms os))) (target-holds m (target d m) refl (object q tt' ms os) y))

      -- ---- several, and what is taken away

      merge-from : (ss : Schemas) (s : Schema) → All ss → Is s → Always Is (merge_from join' less' s ss)
      merge-from no_more s h x = x
      merge-from (schema t ts) s h x = always-then Is Is (join' s t) (λ m. merge_from join' less' m ts) (joins s t x h.0) (λ m y. merge-from ts m h.1 y)

      several : (ss : Schemas) → All ss → Always Is (merge_schemas join' less' ss)
      several no_more h = tt
      several (schema s ss) h = merge-from ss s h.1 h.0

      less-each : (ss : Schemas) (s : Schema) → All ss → Is s → Always Is (less_each join' less' ss s)
      less-each no_more s h x = x
      less-each (schema t ts) s h x = always-then Is Is (less' s t) (less_each join' less' ts) (leaves s t x h.0) (λ c y. less-each ts c h.1 y)

      turned-holds : (o : Outcome Schema) → Always Is o → Always Is (turned_outcome o)
      turned-holds (fault f) h = h
      turned-holds (never ns) h = tt
      turned-holds (answer ns a) h = h

      less-merged : (s : Schema) (o : Outcome Schema) → Is s → Always Is o → Always Is (less_merged join' less' s o)
      less-merged s (fault f) x h = h
      less-merged s (never ns) x h = x
      less-merged s (answer ns m) x h = always-noted Is ns (less' s m) (leaves s m x h)

      less-any : (any : MaybeSchemas) (s : Schema) → OfList any → Is s → Always Is (less_any join' less' any s)
      less-any no_list s h x = x
      less-any (the_list ss) s h x = less-each ss s h x

      less-not : (none : MaybeSchema) (s : Schema) → OfMaybe none → Is s → Always Is (less_not join' less' none s)
      less-not no_schema s h x = x
      less-not (the_schema t) s h x = joins s t x h

      less-all : (all : MaybeSchemas) (s : Schema) → OfList all → Is s → Always Is (less_all join' less' all s)
      less-all no_list s h x = x
      less-all (the_list ss) s h x = less-merged s (turned_outcome (merge_schemas join' less' ss)) x (turned-holds (merge_schemas join' less' ss) (several ss h))

      less-same : (ss : Same) (s : Schema) → OfSame ss → Is s → Always Is (less_same join' less' ss s)
      less-same no_same s h x = x
      less-same (same_value all any one none c) s h x =
          always-then Is Is (less_any join' less' any s) (λ t. and_then (less_not join' less' none t) (less_all join' less' all)) (less-any any s h.1 x)
          (λ t y. always-then Is Is (less_not join' less' none t) (less_all join' less' all) (less-not none t h.3 y) (λ u z. less-all all u h.0 z))

      -- what is left has the reference of what it is taken from
      values-left : (p : Plain) → IsShortOrNone most p.walk → (ms ns : Option (List Value)) → Always (λ q. IsShortOrNone most q.walk) (less_values p ms ns)
      values-left p h None ns = h
      values-left p h (Some vs) None = h
      values-left p h (Some vs) (Some ws) = by (filter (λ v. not (is_listed v ws)) vs)
        where
          by : (us : List Value) → Always (λ q. IsShortOrNone most q.walk) (left_values p us)
          by [] = tt
          by (u ∷ us) = h

      object-left : (p : Plain) (ss : Same) (ls : Lists) (ns : Named) (q : Plain) (tt' : Same) (ms : Lists) (os : Named) → Is (object p ss ls ns) → Is (object q tt' ms os) → Always Is (less_object d join' less' p ss ls ns q tt' ms os)
      object-left p ss ls ns q tt' ms os h g =
          always-then (λ p'. IsShortOrNone most p'.walk) Is (less_values p p.enum_values q.enum_values) (λ p'. and_then (less_named less' ns os) (λ ns'. less_same join' less' tt' (object p' ss ls ns'))) (values-left p h.0 p.enum_values q.enum_values)
          (λ p' r. always-then OfNamed Is (less_named less' ns os) (λ ns'. less_same join' less' tt' (object p' ss ls ns')) (less-named less' leaves ns os h.3 g.3)
          (λ ns' n. less-same tt' (object p' ss ls ns') g.1 (r, h.1, h.2, n)))

      less-holds : (a b : Schema) → Is a → Is b → Always Is (less_layer d join' less' a b)
      less-holds a (boolean true) x y = tt
      less-holds a (boolean false) x y = x
      less-holds (boolean false) (object q tt' ms os) x y = tt
      less-holds (boolean true) (object q tt' ms os) x y = tt
      less-holds (object p ss ls ns) (object q tt' ms os) x y =
          always-if Is (is_conditional ss || is_conditional tt') (fault (unsupported conditional)) (if nat_le 2 (subschema_count tt') then fault (unsupported subtracting) else rest) tt
          (always-if Is (nat_le 2 (subschema_count tt')) (fault (unsupported subtracting)) rest tt (always-noted Is notes (less_object d join' less' p ss ls ns q tt' ms os) (object-left p ss ls ns q tt' ms os x y)))
        where
          notes : List Note
          notes = note_if (not (is_exact d join' less' p ns (object p ss ls ns) q tt' ms os (object q tt' ms os))) (both_ways of_subtract)

          rest : Outcome Schema
          rest = noted notes (less_object d join' less' p ss ls ns q tt' ms os)

    -- ---- lengths of walks

    all-but-last-short : (w : Walk) → length (all_but_last w) ≤ length w
    all-but-last-short [] = omega (arith)
    all-but-last-short (l ∷ []) = omega (arith)
    all-but-last-short (l ∷ m ∷ w) = omega (arith, all-but-last-short (m ∷ w))

    pub unmarked-short : (w : Walk) → length (unmarked w) ≤ length w
    unmarked-short w = by (is_made w)
      where
        by : (b : Bool) → length (if b then all_but_last w else w) ≤ length w
        by true = all-but-last-short w
        by false = omega (arith)

    pub one-more-location : (w : Walk) (l : Location) → length (w ++ l ∷ []) ≡ suc (length w)
    one-more-location [] l = refl
    one-more-location (m ∷ w) l = ap suc (one-more-location w l)

    all-but-one-more : (w : Walk) (l : Location) → length (all_but_last (w ++ l ∷ [])) ≡ length w
    all-but-one-more [] l = refl
    all-but-one-more (m ∷ []) l = refl
    all-but-one-more (m ∷ n ∷ w) l = ap suc (all-but-one-more (n ∷ w) l)

    made-is-made : (l : Location) (w : Walk) → is_made (made_on (l ∷ w)) ≡ true
    made-is-made l [] = (pointwise_decides {E = bytes_eq} bytes_eq-Decides l l).1 refl
    made-is-made l (m ∷ []) = (pointwise_decides {E = bytes_eq} bytes_eq-Decides m m).1 refl
    made-is-made l (m ∷ n ∷ w) = made-is-made m (n ∷ w)

    made-short : (w : Walk) → length w ≤ suc (suc most) → IsShort most (made_on w)
    made-short [] h = omega (arith)
    made-short (l ∷ w) h = subst (λ b. length (if b then all_but_last (made_on (l ∷ w)) else made_on (l ∷ w)) ≤ suc (suc most)) (sym (made-is-made l w)) (omega (arith, h, all-but-one-more (l ∷ w) (last_of (l ∷ w))))

    child-short : (w : Walk) (k : Location) → length w ≤ suc most → IsShort most (to_child w k)
    child-short w k h = omega (arith, h, one-more-location w (last_of w ++ k), unmarked-short (to_child w k))

    pub target-short : (w : Walk) (o : Option Location) → length w ≤ suc most → IsShort most (to_target w o)
    target-short w None h = omega (arith, h, unmarked-short w)
    target-short w (Some l) h = omega (arith, h, one-more-location w l, unmarked-short (to_target w (Some l)))

    pub own-short : (o : Option Walk) → IsShortOrNone most o → length (unwrap_or (option_map unmarked o) root_walk) ≤ suc (suc most)
    own-short None h = omega (arith)
    own-short (Some w) h = h

    abbrev Bounded : List Walk → Type 0
    Bounded [] = Unit {0}
    Bounded (w ∷ ws) = (length w ≤ suc (suc most)) × Bounded ws

    bounded-both : (vs ws : List Walk) → Bounded vs → Bounded ws → Bounded (vs ++ ws)
    bounded-both [] ws h g = g
    bounded-both (v ∷ vs) ws h g = (h.0, bounded-both vs ws h.1 g)

    longer-short : (k : ℕ) (v w : Walk) → length v ≤ k → length w ≤ k → length (longer v w) ≤ k
    longer-short k v w h g = by (nat_lt (length v) (length w))
      where
        by : (b : Bool) → length (if b then w else v) ≤ k
        by true = g
        by false = h

    longest-after : (v : Walk) (ws : List Walk) → length v ≤ suc (suc most) → Bounded ws → length (longest_after v ws) ≤ suc (suc most)
    longest-after v [] h g = h
    longest-after v (w ∷ ws) h g = longest-after (longer v w) ws (longer-short (suc (suc most)) v w h g.0) g.1

    longest-short : (v : Walk) (ws : List Walk) → length v ≤ suc (suc most) → Bounded ws → length (longest_or v ws) ≤ suc (suc most)
    longest-short v [] h g = h
    longest-short v (w ∷ ws) h g = longest-after w ws g.0 g.1

    walks-short : (s : Schema) → Is s → Bounded (walks_of s)
    walks-short (boolean b) h = tt
    walks-short (object p ss ls ns) h = (own-short p.walk h.0, tt)

    walks-of-all : (ss : Schemas) → All ss → Bounded (walks_of_all ss)
    walks-of-all no_more h = tt
    walks-of-all (schema s ss) h = bounded-both (walks_of s) (walks_of_all ss) (walks-short s h.0) (walks-of-all ss h.1)

    walks-of-list : (m : MaybeSchemas) → OfList m → Bounded (walks_of_list m)
    walks-of-list no_list h = tt
    walks-of-list (the_list ss) h = walks-of-all ss h

    walks-of-maybe : (m : MaybeSchema) → OfMaybe m → Bounded (walks_of_maybe m)
    walks-of-maybe no_schema h = tt
    walks-of-maybe (the_schema s) h = walks-short s h

    walks-of-same : (ss : Same) → OfSame ss → Bounded (walks_of_same ss)
    walks-of-same no_same h = tt
    walks-of-same (same_value all any one none c) h =
        bounded-both (walks_of_list all ++ walks_of_list any ++ walks_of_list one) (walks_of_maybe none)
        (bounded-both (walks_of_list all ++ walks_of_list any) (walks_of_list one) (bounded-both (walks_of_list all) (walks_of_list any) (walks-of-list all h.0) (walks-of-list any h.1)) (walks-of-list one h.2)) (walks-of-maybe none h.3)

    walk-short : (s : Schema) → Is s → length (walk_of s) ≤ suc (suc most)
    walk-short (boolean b) h = omega (arith)
    walk-short (object p ss ls ns) h = own-short p.walk h.0

    -- ---- walks of schemas

    pub on-walk : (w : Walk) (s : Schema) → IsShort most w → Is s → Is (on_walk w s)
    on-walk w (boolean b) g h = h
    on-walk w (object p ss ls ns) g h = (g, h.1, h.2, h.3)

    kept-or : (o : Option Walk) (w : Walk) → IsShort most w → IsShortOrNone most o → IsShort most (unwrap_or o w)
    kept-or None w g h = g
    kept-or (Some v) w g h = h

    pub carried-holds : (w : Walk) (s : Schema) → IsShort most w → Is s → Is (carried w s)
    carried-holds w (boolean b) g h = h
    carried-holds w (object p ss ls ns) g h = (kept-or p.walk w g h.0, h.1, h.2, h.3)

    module _ (w : Walk) (met : length w ≤ suc most) where
      all-inside : (k : Step) (i : ℕ) (ss : Schemas) → All ss → All (all_inside w k i ss)
      all-inside k i no_more h = tt
      all-inside k i (schema s ss) h = (carried-holds (to_child w (k ∷ place i ∷ [])) s (child-short w (k ∷ place i ∷ []) met) h.0, all-inside k (suc i) ss h.1)

      list-inside : (k : Step) (m : MaybeSchemas) → OfList m → OfList (list_inside w k m)
      list-inside k no_list h = tt
      list-inside k (the_list ss) h = all-inside k 0 ss h

      maybe-inside : (k : Step) (m : MaybeSchema) → OfMaybe m → OfMaybe (maybe_inside w k m)
      maybe-inside k no_schema h = tt
      maybe-inside k (the_schema s) h = carried-holds (to_child w (k ∷ [])) s (child-short w (k ∷ []) met) h

      names-inside : (k : Step) (ps : Properties) → OfProperties ps → OfProperties (names_inside w k ps)
      names-inside k no_properties h = tt
      names-inside k (property n s ps) h = (carried-holds (to_child w (k ∷ n ∷ [])) s (child-short w (k ∷ n ∷ []) met) h.0, names-inside k ps h.1)

      places-inside : (p : Places) → OfPlaces p → OfPlaces (places_inside w p)
      places-inside no_items h = tt
      places-inside (each_item s) h = carried-holds (to_child w (codes "items" ∷ [])) s (child-short w (codes "items" ∷ []) met) h
      places-inside (by_place ss) h = all-inside (codes "items") 0 ss h

      same-inside : (ss : Same) → OfSame ss → OfSame (same_inside w ss)
      same-inside no_same h = tt
      same-inside (same_value all any one none c) h = (list-inside (codes "allOf") all h.0, list-inside (codes "anyOf") any h.1, list-inside (codes "oneOf") one h.2, maybe-inside (codes "not") none h.3)

      lists-inside : (ls : Lists) → OfLists ls → OfLists (lists_inside w ls)
      lists-inside no_lists h = tt
      lists-inside (lists p x a c) h = (places-inside p h.0, maybe-inside (codes "additionalItems") x h.1, maybe-inside (codes "contains") a h.2, tt)

      named-inside : (ns : Named) → OfNamed ns → OfNamed (named_inside w ns)
      named-inside no_named h = tt
      named-inside (named ps pp x xn c) h = (names-inside (codes "properties") ps h.0, names-inside (codes "patternProperties") pp h.1, maybe-inside (codes "additionalProperties") x h.2, maybe-inside (codes "propertyNames") xn h.3)

    root-short : IsShort most root_walk
    root-short = omega (arith)

    opened-holds : (s : Schema) → length (walk_of s) ≤ suc most → Is s → Is (opened s)
    opened-holds (boolean b) met h = h
    opened-holds (object p ss ls ns) met h = (kept-or p.walk root_walk root-short h.0, same-inside (own_walk p) met ss h.1, lists-inside (own_walk p) met ls h.2, named-inside (own_walk p) met ns h.3)

    opened-walk : (s : Schema) → walk_of (opened s) ≡ walk_of s
    opened-walk (boolean b) = refl
    opened-walk (object p ss ls ns) = by p.walk
      where
        by : (o : Option Walk) → unmarked (unwrap_or o root_walk) ≡ unwrap_or (option_map unmarked o) root_walk
        by None = refl
        by (Some w) = refl

    if-walked : (o : Option Walk) (s t : Schema) → Is s → Is t → Is (if_walked o s t)
    if-walked (Some w) s t h g = h
    if-walked None s t h g = g

    module _ (w : Walk) (short : length w ≤ suc (suc most)) where
      mutual
        settled-holds : (s : Schema) → Is s → Is (settled w s)
        settled-holds (boolean b) h = h
        settled-holds (object p ss ls ns) h =
            if-walked p.walk (object p ss ls ns) (object (record p { walk = Some (made_on (longest_or w (walks_of_same (settled_same w ss)))) }) (settled_same w ss) ls (settled_named w ns)) h
            (made-short (longest_or w (walks_of_same (settled_same w ss))) (longest-short w (walks_of_same (settled_same w ss)) short (walks-of-same (settled_same w ss) (same-settled ss h.1))), same-settled ss h.1, h.2, named-settled ns h.3)

        same-settled : (ss : Same) → OfSame ss → OfSame (settled_same w ss)
        same-settled no_same h = tt
        same-settled (same_value all any one none c) h = (list-settled all h.0, list-settled any h.1, list-settled one h.2, maybe-settled none h.3)

        named-settled : (ns : Named) → OfNamed ns → OfNamed (settled_named w ns)
        named-settled no_named h = tt
        named-settled (named ps pp x xn c) h = (properties-settled ps h.0, h.1, h.2, h.3)

        list-settled : (m : MaybeSchemas) → OfList m → OfList (settled_list w m)
        list-settled no_list h = tt
        list-settled (the_list ss) h = all-settled ss h

        maybe-settled : (m : MaybeSchema) → OfMaybe m → OfMaybe (settled_maybe w m)
        maybe-settled no_schema h = tt
        maybe-settled (the_schema s) h = settled-holds s h

        all-settled : (ss : Schemas) → All ss → All (settled_all w ss)
        all-settled no_more h = tt
        all-settled (schema s ss) h = (settled-holds s h.0, all-settled ss h.1)

        properties-settled : (ps : Properties) → OfProperties ps → OfProperties (settled_properties w ps)
        properties-settled no_properties h = tt
        properties-settled (property n s ps) h = (settled-holds s h.0, properties-settled ps h.1)

      settled-outcome : (o : Outcome Schema) → Always Is o → Always Is (mapped (settled w) o)
      settled-outcome o h = always-mapped Is Is (settled w) o h (λ s x. settled-holds s x)

      on-made : (f : Schema → Schema → Outcome Schema) → Keeps f → Keeps (on_made w f)
      on-made f k a b x y = k (settled w a) (settled w b) (settled-holds a x) (settled-holds b y)

    -- ---- both sides

    unless-deep : (s : Schema) (k : Schema → Outcome Schema) → Is s → (length (walk_of s) ≤ suc most → Always Is (k (opened s))) → Always Is (unless_deep most s k)
    unless-deep s k x h = cases (has_more_steps most (walk_of s)) refl
      where
        cases : (b : Bool) → has_more_steps most (walk_of s) ≡ b → Always Is (elim b [ true ↦ fault (depth (walk_of s)) | false ↦ k (opened s) ])
        cases true e = walk-short s x
        cases false e = h (ltb-false (suc most) (length (walk_of s)) e)

    one-less : (k : ℕ) → k ≤ suc most → k ≤ suc (suc most)
    one-less k h = omega (arith, h)

    module _ (join' less' : Schema → Schema → Outcome Schema) (joins : Keeps join') (leaves : Keeps less') where
      on-target : (w : Walk) (q : List ℕ) → length w ≤ suc most → Keeps (join_target d most join' less' w q)
      on-target w q g a b x y = joins (on_walk (to_target w (target_location d q)) a) b (on-walk (to_target w (target_location d q)) a (target-short w (target_location d q) g) x) y

      objects-walked : (p : Plain) (ss : Same) (ls : Lists) (ns : Named) (q : Plain) (tt' : Same) (ms : Lists) (os : Named) → Is (object p ss ls ns) → Is (object q tt' ms os) → length (own_walk p) ≤ suc most → length (own_walk q) ≤ suc most
          → (f g : Option (List ℕ)) → Always Is (join_objects d most join' less' p ss ls ns q tt' ms os f g)
      objects-walked p ss ls ns q tt' ms os x y v w None None =
          let u : length (longer (own_walk p) (own_walk q)) ≤ suc (suc most) = one-less (length (longer (own_walk p) (own_walk q))) (longer-short (suc most) (own_walk p) (own_walk q) v w) in
          settled-outcome (longer (own_walk p) (own_walk q)) u (by_references d (on_made (longer (own_walk p) (own_walk q)) join') (on_made (longer (own_walk p) (own_walk q)) less') p ss ls ns q tt' ms os None None)
          (references-hold (on_made (longer (own_walk p) (own_walk q)) join') (on_made (longer (own_walk p) (own_walk q)) less') (on-made (longer (own_walk p) (own_walk q)) u join' joins) (on-made (longer (own_walk p) (own_walk q)) u less' leaves)
          p ss ls ns q tt' ms os x y None None)
      objects-walked p ss ls ns q tt' ms os x y v w None (Some n) =
          settled-outcome (own_walk q) (one-less (length (own_walk q)) w) (by_references d (join_target d most join' less' (own_walk q) n) less' p ss ls ns q tt' ms os None (Some n))
          (references-hold (join_target d most join' less' (own_walk q) n) less' (on-target (own_walk q) n w) leaves p ss ls ns q tt' ms os x y None (Some n))
      objects-walked p ss ls ns q tt' ms os x y v w (Some m) n =
          settled-outcome (own_walk p) (one-less (length (own_walk p)) v) (by_references d (join_target d most join' less' (own_walk p) m) less' p ss ls ns q tt' ms os (Some m) n)
          (references-hold (join_target d most join' less' (own_walk p) m) less' (on-target (own_walk p) m v) leaves p ss ls ns q tt' ms os x y (Some m) n)

      sides-walked : (a b : Schema) → Is a → Is b → length (walk_of a) ≤ suc most → length (walk_of b) ≤ suc most → Always Is (join_sides d most join' less' a b)
      sides-walked (boolean false) b x y v w = tt
      sides-walked (boolean true) b x y v w = y
      sides-walked (object p ss ls ns) (boolean false) x y v w = tt
      sides-walked (object p ss ls ns) (boolean true) x y v w = x
      sides-walked (object p ss ls ns) (object q tt' ms os) x y v w = objects-walked p ss ls ns q tt' ms os x y v w p.reference q.reference

      met : (s : Schema) → length (walk_of s) ≤ suc most → length (walk_of (opened s)) ≤ suc most
      met s h = subst (λ w. length w ≤ suc most) (sym (opened-walk s)) h

      joins-walked : Keeps (walked_join d most join' less')
      joins-walked a b x y =
          unless-deep a (λ a'. unless_deep most b (join_sides d most join' less' a')) x
          (λ v. unless-deep b (join_sides d most join' less' (opened a)) y (λ w. sides-walked (opened a) (opened b) (opened-holds a v x) (opened-holds b w y) (met a v) (met b w)))

      left-holds : (b : Schema) (w : Walk) (a : Schema) → length w ≤ suc (suc most) → Is a → Is (left_side b w a)
      left-holds (boolean b) w a g h = h
      left-holds (object q tt' ms os) w a g h = on-walk (made_on w) a (made-short w g) h

      -- the walk of one side
      left-short : (a b : Schema) → length (walk_of a) ≤ suc most → length (walk_of b) ≤ suc most → length (walk_left a b) ≤ suc most
      left-short a b v w = by (has_reference a)
        where
          by : (c : Bool) → length (if c then walk_of a else longer (walk_of a) (walk_of b)) ≤ suc most
          by true = v
          by false = longer-short (suc most) (walk_of a) (walk_of b) v w

      leaves-walked : Keeps (walked_less d most join' less')
      leaves-walked a b x y =
          unless-deep a (λ a'. unless_deep most b (λ b'. less_layer d join' less' (left_side b' (walk_left a b) a') b')) x
          (λ v. unless-deep b (λ b'. less_layer d join' less' (left_side b' (walk_left a b) (opened a)) b') y
          (λ w. less-holds join' less' joins leaves (left_side (opened b) (walk_left a b) (opened a)) (opened b)
          (left-holds (opened b) (walk_left a b) (opened a) (one-less (length (walk_left a b)) (left-short a b v w)) (opened-holds a v x)) (opened-holds b w y)))

      with-walked : (b : Schema) (ss : Same) → Is b → length (walk_of b) ≤ suc most → OfSame ss → Always Is (walked_with d most join' less' b ss)
      with-walked b ss x v h =
          settled-outcome (walk_of b) (one-less (length (walk_of b)) v) (with_subschemas_layer d (on_made (walk_of b) join') (on_made (walk_of b) less') (opened b) (same_inside (walk_of b) ss))
          (with-subschemas (on_made (walk_of b) join') (on_made (walk_of b) less') (on-made (walk_of b) (one-less (length (walk_of b)) v) join' joins) (on-made (walk_of b) (one-less (length (walk_of b)) v) less' leaves) (opened b) (same_inside (walk_of b) ss) (opened-holds b v x) (same-inside (walk_of b) v ss h))

    -- ---- by so many levels

    mutual
      parts-joins : (n : ℕ) → Keeps (parts_within d most n).join
      parts-joins zero a b x y = omega (arith)
      parts-joins (suc n) a b x y = joins-walked (parts_within d most n).join (parts_within d most n).less (parts-joins n) (parts-leaves n) a b x y

      parts-leaves : (n : ℕ) → Keeps (parts_within d most n).less
      parts-leaves zero a b x y = omega (arith)
      parts-leaves (suc n) a b x y = leaves-walked (parts_within d most n).join (parts_within d most n).less (parts-joins n) (parts-leaves n) a b x y

    one-step-more : (o : Outcome Schema) → Always Is o → DepthIsDeep most o → IsOneStepMore most o
    one-step-more (fault (depth [])) h g = tt
    one-step-more (fault (depth (l ∷ w))) h g = omega (arith, h, ltb-true (suc most) (length (l ∷ w)) g)
    one-step-more (fault (unsupported u)) h g = tt
    one-step-more (never ns) h g = tt
    one-step-more (answer ns s) h g = tt

    module _ (n : ℕ) where
      join-kept : Keeps (join_by_walks d most n)
      join-kept = joins-walked (parts_within d most n).join (parts_within d most n).less (parts-joins n) (parts-leaves n)

      less-kept : Keeps (less_by_walks d most n)
      less-kept = leaves-walked (parts_within d most n).join (parts_within d most n).less (parts-joins n) (parts-leaves n)

      with-kept : (b : Schema) (ss : Same) → Is b → length (walk_of b) ≤ suc most → OfSame ss → Always Is (with_by_walks d most n b ss)
      with-kept = with-walked (parts_within d most n).join (parts_within d most n).less (parts-joins n) (parts-leaves n)

      several-kept : (ss : Schemas) → All ss → Always Is (merge_by_walks d most n ss)
      several-kept = several (join_by_walks d most n) (less_by_walks d most n) join-kept less-kept

      pub stay-short : StayShort d most n
      stay-short = record {
        joins = λ a b x y. (join-kept a b x y, one-step-more (join_by_walks d most n a b) (join-kept a b x y) ((depth_has_its_walk d most n).joins a b));
        leaves = λ a b x y. (less-kept a b x y, one-step-more (less_by_walks d most n a b) (less-kept a b x y) ((depth_has_its_walk d most n).leaves a b));
        with_all = λ b ss x v h. (with-kept b ss x v h, one-step-more (with_by_walks d most n b ss) (with-kept b ss x v h) ((depth_has_its_walk d most n).with_all b ss));
        gathers = λ ss h. (several-kept ss h, one-step-more (merge_by_walks d most n ss) (several-kept ss h) ((depth_has_its_walk d most n).gathers ss));
      }

pub merges_stay_short : MergesStayShort
merges_stay_short d most n targets = stay-short d most targets n
