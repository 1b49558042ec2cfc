-- Merges of bare schemas end.
use Rattle.std.proofs.Common.{◌≡◌, ℕ, zero, suc, List, [], ◌∷◌, Bool, true, false, ◌&&◌, ◌||◌, Option, Some, None, refl, sym, subst, bytes_eq}
use Rattle.std.specs.Prelude.{nat_lt, filter, if◌then◌else◌}
use Rattle.json_value.specs.Value.{Value, null}
use Rattle.schema_defs.specs.declared.InstanceType.{InstanceType}
use Rattle.schema_defs.specs.declared.InstanceType.TheVariants.{Object, Array, Text, Integer}
use Rattle.schema_defs.specs.Schema.{Types, one_type, many_types, Numbers, Texts, ListRules, Plain, Schema, boolean, object, no_same, Lists, no_lists, lists, Named, no_named, named, MaybeSchema, no_schema, the_schema, Schemas, no_more, schema, Places, no_items, each_item, by_place, Properties, no_properties, property, Document}
use Rattle.schema_defs.specs.Layer.{property_at, is_listed}
use Rattle.schema_defs.specs.Admits.{counts_as_absent}
use Rattle.enum_defs.specs.Words.{same_type, is_name, names_of}
use Rattle.merge_defs.specs.Outcome.{Outcome, fault, never, answer, Note, less_than, more_than, note_if, both_ways, of_formats, of_integer, of_names, of_clash, either, noted, and_then, mapped, never_unless, or_else, where_both}
use Rattle.merge_defs.specs.Alike.{same_schemas, same_numbers, same_texts}
use Rattle.merge_defs.specs.Leaves.{names_type, all_types, some_types, one_if_named, two_types, is_ip, is_ip_of_one_kind, two_formats, lcm, least_int, greatest_int, Bound, upper_bound, lower_bound, bounds_cross, small_multiple, is_wide, numbers_of, bounded, two_numbers, sizes_cross, joined_texts, two_texts, some_values, two_lists, values_of, is_only}
use Rattle.merge_defs.specs.Arrays.{End, at_most, at_clash, goes_on, Merged, nothing_more, put, pairs, is_full, Front, least_items, stands, ended_at, clash_at, at_place, by_places, rest_of, ending, placed, each_of_both, two_places, or_true, two_contains, joined_rules, two_rules, with_front, two_lists_parts}
use Rattle.merge_defs.specs.Objects.{no_plain, all_names, is_false, no_rest, put_property, unsaid_at, absent_notes, or_false, two_rests, schema_of_both, properties_of, joined_members, two_member_rules, has_patterns, mixes_names, unless_mixed, names_mix, kept_if, two_named}
use Rattle.merge_defs.specs.Merge.{body, tidied, two_objects, by_references, join_layer, below, join}
use Rattle.merge_laws.specs.Bare.{IsBare, BareLists, BareNamed, BareMaybe, BareAll, BarePlaces, BareProperties, HasNoFault, BareMergesEnd}

-- ---- outcomes

with_notes : {A : Type 0} (ns : List Note) (o : Outcome A) → HasNoFault o → HasNoFault (noted ns o)
with_notes ns (fault f) h = h
with_notes ns (never ms) h = tt
with_notes ns (answer ms a) h = tt

through : {A B : Type 0} (f : A → B) (o : Outcome A) → HasNoFault o → HasNoFault (mapped f o)
through f (fault e) h = h
through f (never ms) h = tt
through f (answer ms a) h = tt

next : {A B : Type 0} (o : Outcome A) (k : A → Outcome B) → HasNoFault o → ((a : A) → HasNoFault (k a)) → HasNoFault (and_then o k)
next (fault f) k h i = absurd h
next (never ns) k h i = tt
next (answer ns a) k h i = with_notes ns (k a) (i a)

or_false_instead : {A : Type 0} (a : A) (o : Outcome A) → HasNoFault o → HasNoFault (or_else a o)
or_false_instead a (fault f) h = h
or_false_instead a (never ns) h = tt
or_false_instead a (answer ns b) h = tt

either_way : {A : Type 0} (b : Bool) (o u : Outcome A) → HasNoFault o → HasNoFault u → HasNoFault (if b then o else u)
either_way true o u h i = h
either_way false o u h i = i

pub of_both : {A : Type 0} (f : A → A → Outcome (Option A)) → ((x y : A) → HasNoFault (f x y)) → (x y : Option A) → HasNoFault (where_both f x y)
of_both f h None y = tt
of_both f h (Some x) None = tt
of_both f h (Some x) (Some y) = h x y

-- ---- what holds no schema

named_type : (b : Bool) (k : InstanceType) → HasNoFault (one_if_named b k)
named_type b k = either_way b (answer [] (Some (one_type k))) (never []) tt tt

pub types : (x y : Types) → HasNoFault (two_types x y)
types (one_type k) (one_type l) = named_type (same_type k l) k
types (one_type k) (many_types ls) = named_type (names_type ls k) k
types (many_types ks) (one_type l) = named_type (names_type ks l) l
types (many_types ks) (many_types ls) = some (filter (λ k. names_type ks k && names_type ls k) all_types)
  where
    some : (ts : List InstanceType) → HasNoFault (some_types ts)
    some [] = tt
    some (k ∷ []) = tt
    some (k ∷ l ∷ ks) = tt

pub formats : (f g : List ℕ) → HasNoFault (two_formats f g)
formats f g = go (bytes_eq f g) (is_ip f && is_ip_of_one_kind g) (is_ip g && is_ip_of_one_kind f)
  where
    go : (a b c : Bool) → HasNoFault (if a then answer [] (Some f) else if b then answer [] (Some g) else if c then answer [] (Some f) else never (less_than of_formats ∷ []))
    go true b c = tt
    go false true c = tt
    go false false true = tt
    go false false false = tt

bounded_ends : (whole : Bool) (m : Option ℕ) (low high : Bound) → HasNoFault (bounded whole m low high)
bounded_ends whole m low high = either_way (bounds_cross low high) (never_unless whole of_clash) (answer [] (numbers_of m low high)) tt tt

pub numbers : (whole : Bool) (x y : Numbers) → HasNoFault (two_numbers whole x y)
numbers whole x y = either_way (same_numbers x y) (answer [] (Some x)) (noted notes rest) tt (with_notes notes rest
    (bounded_ends whole (small_multiple (either lcm x.multiple_of y.multiple_of))
    (lower_bound (either greatest_int x.minimum y.minimum) (either greatest_int x.exclusive_minimum y.exclusive_minimum))
    (upper_bound (either least_int x.maximum y.maximum) (either least_int x.exclusive_maximum y.exclusive_maximum))))
  where
    notes : List Note
    notes = note_if (is_wide (either lcm x.multiple_of y.multiple_of)) (more_than of_integer ∷ [])

    rest : Outcome (Option Numbers)
    rest = bounded whole (small_multiple (either lcm x.multiple_of y.multiple_of))
        (lower_bound (either greatest_int x.minimum y.minimum) (either greatest_int x.exclusive_minimum y.exclusive_minimum))
        (upper_bound (either least_int x.maximum y.maximum) (either least_int x.exclusive_maximum y.exclusive_maximum))

pub texts : (whole : Bool) (x y : Texts) → HasNoFault (two_texts whole x y)
texts whole x y = go (same_texts x y) (sizes_cross (joined_texts x y).min_length (joined_texts x y).max_length)
  where
    go : (a b : Bool) → HasNoFault (if a then answer [] (Some x) else if b then never_unless whole of_clash else answer [] (Some (joined_texts x y)))
    go true b = tt
    go false true = tt
    go false false = tt

pub values : (vs ws : List Value) → HasNoFault (two_lists vs ws)
values vs ws = some (filter (λ v. is_listed v ws) vs)
  where
    some : (xs : List Value) → HasNoFault (some_values xs)
    some [] = tt
    some (x ∷ xs) = tt

-- ---- one step below

-- as BareMaybe of a schema
abbrev pub Below : Schema → ℕ → Type 0
Below s n = BareMaybe (the_schema s) n

true_below : (n : ℕ) (s : Schema) → Below s n → Below (boolean true) n
true_below zero s h = h
true_below (suc n) s h = tt

abbrev AllBelow : Schemas → ℕ → Type 0
AllBelow no_more n = Unit {0}
AllBelow (schema s ss) n = Below s n × AllBelow ss n

all_below : (n : ℕ) (ss : Schemas) → BareAll ss n → AllBelow ss (suc n)
all_below n no_more h = tt
all_below n (schema s ss) h = (h.0, all_below n ss h.1)

list_below : (n : ℕ) (ss : Schemas) → BarePlaces (by_place ss) n → AllBelow ss n
list_below zero ss h = absurd h
list_below (suc n) ss h = all_below n ss h

list_true : (n : ℕ) (ss : Schemas) → BarePlaces (by_place ss) n → Below (boolean true) n
list_true zero ss h = h
list_true (suc n) ss h = tt

each_below : (n : ℕ) (s : Schema) → BarePlaces (each_item s) n → Below s n
each_below zero s h = h
each_below (suc n) s h = h

or_true_below : (n : ℕ) (m : MaybeSchema) → Below (boolean true) n → BareMaybe m n → Below (or_true m) n
or_true_below n no_schema t h = t
or_true_below n (the_schema s) t h = h

pub at_below : (n : ℕ) (k : List ℕ) (ps : Properties) → BareProperties ps n → BareMaybe (property_at k ps) n
at_below n k no_properties h = tt
at_below zero k (property j s ps) h = absurd h
at_below (suc n) k (property j s ps) h = go (bytes_eq k j) (at_below (suc n) k ps h.1)
  where
    go : (b : Bool) → BareMaybe (property_at k ps) (suc n) → BareMaybe (if b then the_schema s else property_at k ps) (suc n)
    go true i = h.0
    go false i = i

module _ (n : ℕ) (j less : Schema → Schema → Outcome Schema) (child : (s t : Schema) → Below s n → Below t n → HasNoFault (j s t)) where
  -- ---- lists

  abbrev PairsBelow : List (Schema × Schema) → Type 0
  PairsBelow [] = Unit {0}
  PairsBelow (p ∷ ps) = Below p.0 n × Below p.1 n × PairsBelow ps

  pairs_below : (ss : Schemas) (x : Schema) (ts : Schemas) (y : Schema) → AllBelow ss n → Below x n → AllBelow ts n → Below y n → PairsBelow (pairs ss x ts y)
  pairs_below no_more x no_more y a b c e = tt
  pairs_below no_more x (schema t ts) y a b c e = (b, c.0, pairs_below no_more x ts y a b c.1 e)
  pairs_below (schema s ss) x no_more y a b c e = (a.0, e, pairs_below ss x no_more y a.1 b c e)
  pairs_below (schema s ss) x (schema t ts) y a b c e = (a.0, c.0, pairs_below ss x ts y a.1 b c.1 e)

  module _ (array : Bool) (c : ListRules) where
    place_ends : (k : ℕ) (o : Outcome Schema) (f : ℕ → Outcome Merged) → HasNoFault o → ((n : ℕ) → HasNoFault (f n)) → HasNoFault (at_place j array c k o f)
    place_ends k (fault e) f h i = absurd h
    place_ends k (never ns) f h i = with_notes ns (clash_at j array c k) (either_way (nat_lt k (least_items c.min_items)) (never_unless (array && stands c.min_items) of_clash) (answer [] (nothing_more (at_clash k))) tt tt)
    place_ends k (answer ns s) f h i = with_notes ns (mapped (put s) (f (suc k))) (through (put s) (f (suc k)) (i (suc k)))

    places_end : (ps : List (Schema × Schema)) → PairsBelow ps → (k : ℕ) → HasNoFault (by_places j array c k ps)
    places_end [] h k = tt
    places_end (p ∷ ps) h k = cases (λ n. places_end ps h.2 n) (is_full c.max_items k)
      where
        cases : ((n : ℕ) → HasNoFault (by_places j array c n ps)) → (b : Bool) → HasNoFault (elim b [ true ↦ answer [] (nothing_more at_most) | false ↦ at_place j array c k (j p.0 p.1) (λ n. by_places j array c n ps) ])
        cases later true = tt
        cases later false = place_ends k (j p.0 p.1) (λ n. by_places j array c n ps) (child p.0 p.1 h.0 h.1) later

    rest_ends : (b : Bool) (o : Outcome Schema) → HasNoFault o → HasNoFault (rest_of j array c b o)
    rest_ends b (fault f) h = h
    rest_ends b (never ns) h = with_notes ns (if b then answer [] (the_schema (boolean false)) else never_unless false of_clash) (either_way b (answer [] (the_schema (boolean false))) (never_unless false of_clash) tt tt)
    rest_ends b (answer ns s) h = tt

    ending_ends : (b : Bool) (o : Outcome Schema) (m : Merged) → HasNoFault o → HasNoFault (ending j array c b o m)
    ending_ends b o m h = cases m.end
      where
        cases : (e : End) → HasNoFault {A = Front}
            (elim e [
              | goes_on ↦ mapped (λ r. record { places = by_place m.items; rest = r; max_items = c.max_items }) (rest_of j array c b o)
              | at_most ↦ answer [] (record { places = by_place m.items; rest = no_schema; max_items = c.max_items })
              | at_clash k ↦ answer [] (record { places = by_place m.items; rest = no_schema; max_items = ended_at k c.max_items })
            ])
        cases goes_on = through (λ r. record { places = by_place m.items; rest = r; max_items = c.max_items }) (rest_of j array c b o) (rest_ends b o h)
        cases at_most = tt
        cases (at_clash k) = tt

    placed_ends : (b : Bool) (ss : Schemas) (x : Schema) (ts : Schemas) (y : Schema) → AllBelow ss n → Below x n → AllBelow ts n → Below y n → HasNoFault (placed j array c b ss x ts y)
    placed_ends b ss x ts y h i k l = next (by_places j array c 0 (pairs ss x ts y)) (λ m. ending j array c b (j x y) m) (places_end (pairs ss x ts y) (pairs_below ss x ts y h i k l) 0) (λ m. ending_ends b (j x y) m (child x y i l))

    each_ends : (o : Outcome Schema) → HasNoFault o → HasNoFault (each_of_both j array c o)
    each_ends (fault f) h = h
    each_ends (never ns) h = tt
    each_ends (answer ns s) h = tt

    two_places_end : (p : Places) (x : MaybeSchema) (q : Places) (y : MaybeSchema) → BarePlaces p n → BareMaybe x n → BarePlaces q n → BareMaybe y n → HasNoFault (two_places j array c p x q y)
    two_places_end no_items x q y h i k l = tt
    two_places_end (each_item s) x no_items y h i k l = tt
    two_places_end (by_place ss) x no_items y h i k l = tt
    two_places_end (each_item s) x (each_item t) y h i k l = each_ends (j s t) (child s t (each_below n s h) (each_below n t k))
    two_places_end (each_item s) x (by_place ts) y h i k l = placed_ends false ts (or_true y) no_more s (list_below n ts k) (or_true_below n y (list_true n ts k) l) tt (each_below n s h)
    two_places_end (by_place ss) x (each_item t) y h i k l = placed_ends false ss (or_true x) no_more t (list_below n ss h) (or_true_below n x (list_true n ss h) i) tt (each_below n t k)
    two_places_end (by_place ss) x (by_place ts) y h i k l = placed_ends true ss (or_true x) ts (or_true y) (list_below n ss h) (or_true_below n x (list_true n ss h) i) (list_below n ts k) (or_true_below n y (list_true n ts k) l)

  contains_ends : (a b : MaybeSchema) → HasNoFault (two_contains a b)
  contains_ends no_schema b = tt
  contains_ends (the_schema s) no_schema = tt
  contains_ends (the_schema s) (the_schema t) = either_way (same_schemas s t) (answer [] (the_schema s)) (never_unless false of_clash) tt tt

  lists_end : (array : Bool) (ls ms : Lists) → BareLists ls n → BareLists ms n → HasNoFault (two_lists_parts j array ls ms)
  lists_end array no_lists ms h i = tt
  lists_end array (lists p x a c) no_lists h i = tt
  lists_end array (lists p x a c) (lists q y b d) h i =
      next (two_contains a b) (λ contains. and_then (two_rules array c d) (λ sizes. mapped (with_front contains sizes) (two_places j array sizes p x q y))) (contains_ends a b)
      (λ contains. next (two_rules array c d) (λ sizes. mapped (with_front contains sizes) (two_places j array sizes p x q y))
      (either_way (sizes_cross (joined_rules c d).min_items (joined_rules c d).max_items) (never_unless array of_clash) (answer [] (joined_rules c d)) tt tt)
      (λ sizes. through (with_front contains sizes) (two_places j array sizes p x q y) (two_places_end array sizes p x q y h.0 h.1 i.0 i.1)))

  -- ---- members

  or_false_ends : (s t : Schema) → Below s n → Below t n → HasNoFault (or_false j s t)
  or_false_ends s t h i = or_false_instead (boolean false) (j s t) (child s t h i)

  rests_end : (x y : MaybeSchema) → BareMaybe x n → BareMaybe y n → HasNoFault (two_rests j x y)
  rests_end no_schema y h i = tt
  rests_end (the_schema s) no_schema h i = tt
  rests_end (the_schema s) (the_schema t) h i = through the_schema (or_false j s t) (or_false_ends s t h i)

  schema_ends : (p x q y : MaybeSchema) → BareMaybe p n → BareMaybe q n → HasNoFault (schema_of_both j p x q y)
  schema_ends no_schema x no_schema y h i = tt
  schema_ends (the_schema s) x no_schema y h i = tt
  schema_ends no_schema x (the_schema t) y h i = tt
  schema_ends (the_schema s) x (the_schema t) y h i = or_false_ends s t h i

  put_ends : (object_type needed closed : Bool) (unsaid : List Note) (k : List ℕ) (s : Schema) (o : Outcome Properties) → HasNoFault o → HasNoFault (put_property object_type needed closed unsaid k s o)
  put_ends object_type needed closed unsaid k s o h =
      either_way (is_false s && needed) (and_then o (λ ps. never_unless object_type of_clash)) (if is_false s && closed then noted unsaid o else mapped (property k s) o)
      (next o (λ ps. never_unless object_type of_clash) h (λ ps. tt))
      (either_way (is_false s && closed) (noted unsaid o) (mapped (property k s) o) (with_notes unsaid o h) (through (property k s) o h))

  properties_end : (ps : Properties) (x : MaybeSchema) (qs : Properties) (y : MaybeSchema) (nulls object_type closed : Bool) (needed ns : List (List ℕ)) → BareProperties ps n → BareProperties qs n
      → HasNoFault (properties_of j ps x qs y nulls object_type closed needed ns)
  properties_end ps x qs y nulls object_type closed needed [] h i = tt
  properties_end ps x qs y nulls object_type closed needed (k ∷ ns) h i =
      next (schema_of_both j (property_at k ps) x (property_at k qs) y)
      (λ s. put_property object_type (is_name k needed) closed (unsaid_at nulls ps x qs y k) k s (properties_of j ps x qs y nulls object_type closed needed ns))
      (schema_ends (property_at k ps) x (property_at k qs) y (at_below n k ps h) (at_below n k qs i))
      (λ s. put_ends object_type (is_name k needed) closed (unsaid_at nulls ps x qs y k) k s (properties_of j ps x qs y nulls object_type closed needed ns) (properties_end ps x qs y nulls object_type closed needed ns h i))

  named_end : (nulls object_type : Bool) (ns os : Named) → BareNamed ns n → BareNamed os n → HasNoFault (two_named j nulls object_type ns os)
  named_end nulls object_type no_named os h i = tt
  named_end nulls object_type (named ps pp x xn c) no_named h i = tt
  named_end nulls object_type (named ps pp x xn c) (named qs qq y yn d) h i =
      with_notes (note_if nulls (absent_notes ps x c qs y d)) (noted dropped kept)
      (with_notes dropped kept
      (through (kept_if (has_patterns pp xn || has_patterns qq yn)) (and_then (two_rests j x y) later)
      (next (two_rests j x y) later (rests_end x y h.2 i.2)
      (λ rest. next (props rest) (rules rest) (properties_end ps x qs y nulls object_type (no_rest rest) (joined_members c d).required (all_names (names_of ps) (names_of qs)) h.0 i.0)
      (λ ps. through (λ rules. named ps no_properties rest no_schema rules) (two_member_rules object_type c d)
      (either_way (sizes_cross (joined_members c d).min_properties (joined_members c d).max_properties) (never_unless object_type of_clash) (answer [] (joined_members c d)) tt tt))))))
    where
      props : MaybeSchema → Outcome Properties
      props rest = properties_of j ps x qs y nulls object_type (no_rest rest) (joined_members c d).required (all_names (names_of ps) (names_of qs))

      rules : MaybeSchema → Properties → Outcome Named
      rules rest ps = mapped (λ rules. named ps no_properties rest no_schema rules) (two_member_rules object_type c d)

      later : MaybeSchema → Outcome Named
      later rest = and_then (props rest) (rules rest)

      dropped : List Note
      dropped = note_if (has_patterns pp xn || has_patterns qq yn) (both_ways of_names)

      kept : Outcome Named
      kept = mapped (kept_if (has_patterns pp xn || has_patterns qq yn)) (and_then (two_rests j x y) later)

  no_mix : (ns os : Named) → BareNamed ns n → BareNamed os n → names_mix ns os ≡ false
  no_mix no_named os h i = refl
  no_mix (named ps pp x xn c) no_named h i = refl
  no_mix (named ps pp x xn c) (named qs qq y yn d) h i = λ k. mixes_names ps (h.1 k) (h.3 k) qs || mixes_names qs (i.1 k) (i.3 k) ps

  -- ---- objects

  module _ (d : Document) where
    body_ends : (p : Plain) (ls : Lists) (ns : Named) (q : Plain) (ms : Lists) (os : Named) → BareLists ls n → BareLists ms n → BareNamed ns n → BareNamed os n → HasNoFault (body d j less p ls ns q ms os)
    body_ends p ls ns q ms os a b e f =
        next (where_both two_types p.types q.types) k1 (of_both two_types types p.types q.types) (λ t.
        next (where_both two_formats p.format q.format) (k2 t) (of_both two_formats formats p.format q.format) (λ g.
        next (where_both (two_numbers (is_only Integer t)) p.numbers q.numbers) (k3 t g) (of_both (two_numbers (is_only Integer t)) (numbers (is_only Integer t)) p.numbers q.numbers) (λ m.
        next (where_both (two_texts (is_only Text t)) p.texts q.texts) (k4 t g m) (of_both (two_texts (is_only Text t)) (texts (is_only Text t)) p.texts q.texts) (λ x.
        next (two_lists_parts j (is_only Array t) ls ms) (k5 t g m x) (lists_end (is_only Array t) ls ms a b) (λ l.
        next (two_named j (counts_as_absent d.setting null) (is_only Object t) ns os) (k6 t g m x l) (named_end (counts_as_absent d.setting null) (is_only Object t) ns os e f) (λ o.
        through (made t g m x l o) (where_both two_lists (values_of p) (values_of q)) (of_both two_lists values (values_of p) (values_of q))))))))
      where
        made : Option Types → Option (List ℕ) → Option Numbers → Option Texts → Lists → Named → Option (List Value) → Schema
        made t f m x l o vs = object (record no_plain { types = t; format = f; numbers = m; texts = x; enum_values = vs }) no_same l o

        k6 : Option Types → Option (List ℕ) → Option Numbers → Option Texts → Lists → Named → Outcome Schema
        k6 t f m x l o = mapped (made t f m x l o) (where_both two_lists (values_of p) (values_of q))

        k5 : Option Types → Option (List ℕ) → Option Numbers → Option Texts → Lists → Outcome Schema
        k5 t f m x l = and_then (two_named j (counts_as_absent d.setting null) (is_only Object t) ns os) (k6 t f m x l)

        k4 : Option Types → Option (List ℕ) → Option Numbers → Option Texts → Outcome Schema
        k4 t f m x = and_then (two_lists_parts j (is_only Array t) ls ms) (k5 t f m x)

        k3 : Option Types → Option (List ℕ) → Option Numbers → Outcome Schema
        k3 t f m = and_then (where_both (two_texts (is_only Text t)) p.texts q.texts) (k4 t f m)

        k2 : Option Types → Option (List ℕ) → Outcome Schema
        k2 t f = and_then (where_both (two_numbers (is_only Integer t)) p.numbers q.numbers) (k3 t f)

        k1 : Option Types → Outcome Schema
        k1 t = and_then (where_both two_formats p.format q.format) (k2 t)

    objects_end : (p : Plain) (ls : Lists) (ns : Named) (q : Plain) (ms : Lists) (os : Named) → BareLists ls n → BareLists ms n → BareNamed ns n → BareNamed os n → HasNoFault (two_objects d j less p no_same ls ns q no_same ms os)
    objects_end p ls ns q ms os a b e f =
        subst (λ t. HasNoFault (unless_mixed t (and_then (body d j less p ls ns q ms os) (λ b. noted [] (mapped tidied (answer [] b)))))) (sym (no_mix ns os e f))
        (next (body d j less p ls ns q ms os) (λ b. noted [] (mapped tidied (answer [] b))) (body_ends p ls ns q ms os a b e f) (λ b. tt))

    layer_ends : (a b : Schema) → IsBare a n → IsBare b n → HasNoFault (join_layer d j less a b)
    layer_ends (boolean false) b h i = tt
    layer_ends (boolean true) b h i = tt
    layer_ends (object p ss ls ns) (boolean false) h i = tt
    layer_ends (object p ss ls ns) (boolean true) h i = tt
    layer_ends (object p ss ls ns) (object q tt' ms os) h i =
        subst (λ f. HasNoFault (by_references d j less p ss ls ns q tt' ms os f q.reference)) (sym h.0)
        (subst (λ f. HasNoFault (by_references d j less p ss ls ns q tt' ms os None f)) (sym i.0)
        (subst (λ s. HasNoFault (two_objects d j less p s ls ns q tt' ms os)) (sym h.1)
        (subst (λ s. HasNoFault (two_objects d j less p no_same ls ns q s ms os)) (sym i.1)
        (objects_end p ls ns q ms os h.2 i.2 h.3 i.3))))

-- ---- by the steps that are left

ends : (d : Document) (n : ℕ) (s t : Schema) → Below s n → Below t n → HasNoFault ((below d n).join s t)
ends d zero s t h i = h
ends d (suc n) s t h i = layer_ends n (below d n).join (below d n).less (ends d n) d s t h i

pub bare_merges_end : BareMergesEnd
bare_merges_end d n a b h i = layer_ends n (below d n).join (below d n).less (ends d n) d a b h i
